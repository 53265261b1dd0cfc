pub mod Gaining
pub mod Joining
pub mod Taking
