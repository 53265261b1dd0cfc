-- Words of private clauses alone: what a reader must believe stands beside this folder.
pub mod Edges
pub mod Gaps
pub mod LoopedRows
pub mod Sifting
