pub mod Contents
pub mod LocOrder
