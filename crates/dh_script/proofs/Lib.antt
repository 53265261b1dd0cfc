pub mod Decoding
pub mod Lining
pub mod Placing
pub mod Splitting
