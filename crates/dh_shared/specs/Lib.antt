pub mod Closed
pub mod Counting
pub mod Held
pub mod Inside
pub mod Ledgers
pub mod Turns
