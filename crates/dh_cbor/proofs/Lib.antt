pub mod Longer
pub mod Powers
