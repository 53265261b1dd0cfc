pub mod Ended
pub mod Inside
pub mod Works
