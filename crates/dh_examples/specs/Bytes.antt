pub mod BinaryExamples
pub mod BinaryReadExamples
pub mod BinaryRefusalExamples
pub mod ExampleBytes
