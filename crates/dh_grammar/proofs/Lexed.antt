pub mod Bytes
pub mod EndsLast
pub mod FairParts
pub mod Fairness
pub mod LexedForms
pub mod LexedTokens
pub mod LexedUrls
pub mod TokenCounts
