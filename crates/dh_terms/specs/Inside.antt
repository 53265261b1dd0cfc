-- Words of private clauses alone: what a reader must believe stands beside this folder.
pub mod Below
pub mod Blanks
pub mod Lifting
pub mod Outer
pub mod Steps
pub mod Variables
