pub mod Escape
pub mod Inside
