pub mod Counts
pub mod MemDesks
pub mod Writing
