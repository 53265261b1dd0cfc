mod Counting
mod FormLengths
mod Frozen
mod ImportNumbers
mod ImportOffsets
mod Pairing
mod TokenEnds
