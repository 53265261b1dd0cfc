pub mod Inside
pub mod Operands
pub mod Rows
