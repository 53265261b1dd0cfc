pub mod ArityExamples
pub mod OrderExamples
pub mod SpellableExamples
pub mod ValuesExamples
