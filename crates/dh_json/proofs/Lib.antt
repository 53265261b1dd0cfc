pub mod Movable
pub mod Parts
pub mod Places
pub mod Plain
pub mod Shapes
pub mod Walking
pub mod Writing
