pub mod Binary
pub mod BinaryFaults
pub mod BinaryHeads
pub mod BinaryItems
pub mod BinaryLeaves
pub mod BinaryRead
pub mod Cbor
pub mod Digests
