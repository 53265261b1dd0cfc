pub mod FaultLines
pub mod Inside
pub mod JsonExamples
pub mod JsonFaults
pub mod JsonLaws
pub mod JsonPlaces
pub mod JsonValue
