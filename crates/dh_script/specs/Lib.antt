pub mod Faults
pub mod Inside
pub mod Locations
pub mod Orders
pub mod Reads
