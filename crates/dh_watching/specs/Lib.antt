pub mod Inside
pub mod QuietRuns
pub mod Runs
pub mod Steps
pub mod Words
