pub mod Projections
pub mod Views
pub mod Words
