pub mod Judging
pub mod Ruling
pub mod Typing
