pub mod Agreeing
pub mod Tallies
