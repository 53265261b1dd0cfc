pub mod AnswerExamples
pub mod ExplainExamples
pub mod GenExamples
pub mod ImportFaultExamples
