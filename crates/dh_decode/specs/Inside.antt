-- Words that only private clauses and proofs use.
pub mod Entries
pub mod Forms
pub mod Names
pub mod Rows
pub mod Spelling
pub mod States
pub mod Steps
pub mod Takings
pub mod Views
