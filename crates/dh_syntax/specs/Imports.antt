pub mod Keys
pub mod Locations
