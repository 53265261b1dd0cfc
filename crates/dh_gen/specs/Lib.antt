pub mod Generated
pub mod GeneratedExamples
pub mod GeneratedLaws
pub mod Numbers
pub mod NumberWords
