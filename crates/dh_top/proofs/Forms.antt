-- A normal form fits the digest.
use Rattle.std.proofs.Common.{ℕ, ◌+◌, ◌-◌, ◌^◌, ◌≤◌, arith}
use Rattle.dh_syntax.specs.Expressions.Nesting.{nesting}
use Rattle.dh_syntax.specs.Expressions.Tree.{Term}
use Rattle.dh_syntax.specs.Limits.{most_nesting}
use Rattle.dh_syntax.specs.Names.Indices.{IndicesBelow}
use Rattle.dh_terms.proofs.KidItems.{indices-more}

pub form_indices : (f : Term) → nesting f ≤ most_nesting → IndicesBelow (2 ^ 31 + most_nesting) f → IndicesBelow (2 ^ 32 - nesting f) f
form_indices f n h = indices-more (2 ^ 31 + most_nesting) (2 ^ 32 - nesting f) f (omega (arith, n)) h
