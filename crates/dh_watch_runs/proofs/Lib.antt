pub mod Asks
pub mod Descending
pub mod Reversing
