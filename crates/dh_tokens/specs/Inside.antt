-- Words of private clauses alone: what a reader must believe stands beside this folder.
pub mod Classes
pub mod Components
pub mod Forms
pub mod Fronts
pub mod Gaps
pub mod LongestForms
pub mod Marks
pub mod Names
pub mod Numbers
pub mod Paths
pub mod Places
pub mod SmallForms
pub mod States
pub mod Texts
pub mod Urls
