pub mod Closings
pub mod Counting
pub mod Follows
pub mod Frames
pub mod Inside
pub mod Stacks
pub mod States
