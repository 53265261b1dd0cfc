pub mod FileWords
pub mod Inside
