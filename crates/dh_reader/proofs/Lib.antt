pub mod Arguing
pub mod Closes
pub mod DepthCounts
pub mod Ending
pub mod Extending
pub mod Following
pub mod Nexts
