pub mod SourceSteps
pub mod Watching
pub mod Coming
pub mod Growing
