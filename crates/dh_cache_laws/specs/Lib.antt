pub mod OneWorld
pub mod SameTyping
pub mod WarmAnswers
pub mod WarmCache
