pub mod ReadingTokens
pub mod Parsings
pub mod Placings
