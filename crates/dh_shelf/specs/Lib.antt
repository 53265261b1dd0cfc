pub mod Inside
pub mod Puts
pub mod Shelves
