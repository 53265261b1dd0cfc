pub mod FreshRuns
