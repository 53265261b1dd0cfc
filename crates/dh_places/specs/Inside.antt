-- Words that only private functions cite.
pub mod Later
