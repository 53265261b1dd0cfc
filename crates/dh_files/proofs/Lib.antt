pub mod Walking
pub mod FileLists
