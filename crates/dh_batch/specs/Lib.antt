pub mod Dealing
pub mod Inside
