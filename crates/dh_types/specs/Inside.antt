-- Words that only private clauses and proofs use.
pub mod Changes
pub mod Comparing
