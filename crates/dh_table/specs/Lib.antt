pub mod Calls
pub mod Inside
pub mod Kept
pub mod Roots
pub mod Shown
pub mod States
pub mod Tables
pub mod Works
