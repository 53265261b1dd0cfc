pub mod Alpha
pub mod Indices
pub mod Moves
pub mod Nameless
pub mod Subst
