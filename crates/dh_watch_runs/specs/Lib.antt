pub mod Asks
pub mod Endings
pub mod Progressing
pub mod Resolving
