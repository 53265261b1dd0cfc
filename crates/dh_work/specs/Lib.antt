pub mod Brings
pub mod Inside
