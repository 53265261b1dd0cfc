-- Words that only proofs use.
pub mod Fitting
pub mod Mapping
pub mod Ranges
pub mod Running
pub mod Sound
pub mod Terms
