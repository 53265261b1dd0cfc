pub mod Cores
pub mod Inside
