-- Words of private clauses alone: what a reader must believe stands beside this folder.
pub mod Rounds
