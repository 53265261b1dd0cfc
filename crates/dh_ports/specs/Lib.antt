pub mod Counts
pub mod Desks
pub mod MemDesk
pub mod MemDeskViews
pub mod MemFeed
pub mod MemSink
pub mod Moves
