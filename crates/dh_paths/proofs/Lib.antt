pub mod Components
pub mod Escaping
pub mod Origins
pub mod Paths
pub mod Routes
pub mod Spellings
