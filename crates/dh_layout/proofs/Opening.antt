pub mod Depths
pub mod Nestings
pub mod Openings
pub mod Opens
