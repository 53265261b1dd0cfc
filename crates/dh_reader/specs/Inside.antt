-- Words that only private functions cite.
pub mod Ends
pub mod Extends
pub mod Joins
pub mod Newest
pub mod Nexts
pub mod Tokens
pub mod Tops
