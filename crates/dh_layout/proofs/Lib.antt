pub mod Opening
pub mod Printed
pub mod Reading
pub mod Texts
pub mod Trees
