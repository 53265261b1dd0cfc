pub mod FromRight
pub mod LaterKeys
pub mod SpanTrees
pub mod TokenLists
