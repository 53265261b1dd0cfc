pub mod Coming
pub mod Frees
