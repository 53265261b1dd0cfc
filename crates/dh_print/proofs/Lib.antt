pub mod Appending
pub mod Digests
pub mod Forms
pub mod Items
pub mod LastBinder
pub mod NodeLevels
pub mod PlainLabels
pub mod Shapes
