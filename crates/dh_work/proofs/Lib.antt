pub mod FreeLeaves
pub mod FreeRows
pub mod TypedClosed
pub mod NormalClosed
pub mod BuiltNodes
pub mod Bringings
pub mod Comings
pub mod Told
