pub mod FilesRuns
pub mod Inside
pub mod Showing
pub mod Words
