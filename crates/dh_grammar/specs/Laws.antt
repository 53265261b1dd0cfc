pub mod Depths
pub mod Derivations
pub mod Places
pub mod Readings
pub mod Texts
