pub mod AlphaExamples
pub mod IndicesExamples
pub mod NamelessExamples
pub mod SubstExamples
