pub mod Drafts
pub mod Operators
