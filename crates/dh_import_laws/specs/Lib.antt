pub mod Blames
pub mod Claims
pub mod Failures
pub mod ImportLaws
pub mod Paths
pub mod Recorded
pub mod WithoutMemory
