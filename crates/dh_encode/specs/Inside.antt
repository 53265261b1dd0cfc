-- Words that only the clauses inside this crate use.
pub mod Items
