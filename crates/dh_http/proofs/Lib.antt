pub mod ChunkSteps
pub mod ContentLaws
pub mod FieldLaws
pub mod FormLaws
pub mod Gains
pub mod HeadLaws
pub mod OneReply
pub mod Places
pub mod PlainLaws
pub mod ReplyLaws
pub mod ScanLaws
pub mod TrailerLaws
mod ReplyExamples
