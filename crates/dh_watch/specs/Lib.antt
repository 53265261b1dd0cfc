pub mod Sources
pub mod Watchers
pub mod Ways
