pub mod Contracting
pub mod KeyOrder
pub mod Names
pub mod Normalising
