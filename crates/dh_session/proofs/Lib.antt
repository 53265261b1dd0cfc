pub mod Answering
pub mod Bringing
pub mod Counting
pub mod Crossing
pub mod Joins
pub mod Moves
pub mod Resolving
pub mod Rises
