-- Words of private clauses alone: what a reader must believe stands beside this folder.
pub mod Parts
pub mod Going
pub mod Walking
pub mod Building
pub mod Comparing
pub mod Seen
pub mod Marking
pub mod Frozen
