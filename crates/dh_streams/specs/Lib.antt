pub mod Deliveries
pub mod Pieces
pub mod Streams
