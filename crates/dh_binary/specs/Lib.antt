pub mod Coding
pub mod Inside
pub mod ItemBytes
pub mod Machine
pub mod Stubs
pub mod Verdict
pub mod Written
