pub mod Asked
pub mod Rounds
pub mod Located
pub mod Telling
