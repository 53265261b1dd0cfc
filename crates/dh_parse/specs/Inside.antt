-- Words that only private functions cite.
pub mod Places
pub mod Steps
