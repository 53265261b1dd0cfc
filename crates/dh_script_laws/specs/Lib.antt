pub mod Answering
pub mod Asks
pub mod Scripts
