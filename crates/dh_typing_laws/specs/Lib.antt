pub mod Judgments
pub mod KeptTypes
pub mod NamelessTyping
