pub mod Answering
pub mod Scripting
