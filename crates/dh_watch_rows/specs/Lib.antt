pub mod Inside
pub mod KeptRows
pub mod Leaving
pub mod Removing
