mod Behind
pub mod Building
pub mod Compared
pub mod Edges
pub mod ImportKeys
pub mod Nexting
pub mod Numbers
pub mod Seeing
pub mod Skipping
pub mod Straight
pub mod Visiting
pub mod Wanting
pub mod Ways
