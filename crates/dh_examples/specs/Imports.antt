pub mod FreezingExamples
pub mod ImportExamples
pub mod LocationExamples
pub mod MachineExamples
pub mod TextPathExamples
