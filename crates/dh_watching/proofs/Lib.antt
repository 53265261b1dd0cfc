pub mod Ending
pub mod Quieting
pub mod Stepping
pub mod Texts
pub mod Trying
