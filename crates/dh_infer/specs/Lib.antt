pub mod Inside
pub mod NamedTypes
