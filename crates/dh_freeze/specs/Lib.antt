pub mod Distinct
pub mod Insertions
pub mod Inside
