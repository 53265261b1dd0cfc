pub mod Results
pub mod Scans
pub mod Nexts
pub mod Values
pub mod Digests
pub mod Headways
pub mod Wants
pub mod Inside
