-- What a text can spell has indices of 31 bits.
use Rattle.std.specs.Prelude.{◌≡◌, ◌<◌, ◌^◌, ℕ, Bool, true, ◌&&◌, nat_le}
use Rattle.std.proofs.Common.{arith}
use Rattle.std.proofs.lemmas.Bool.{and_parts, leb-true}
use Rattle.dh_syntax.specs.Expressions.Spellable.{is_label, names_spellable, op_spellable, row_spellable, binder_spellable}
use Rattle.dh_syntax.specs.Expressions.Tree.{Row, Leaf, Node, end, kid, Name, Var, Term}
use Rattle.dh_syntax.specs.Limits.{most_index}
use Rattle.dh_syntax.specs.Names.Indices.{IndicesBelow, RowIndicesBelow}

mutual
  pub spellable-indices : (e : Term) → names_spellable e ≡ true → IndicesBelow (2 ^ 31) e
  spellable-indices (Leaf v) h = let p = leb-true (v.index) most_index (and_parts (is_label v.name) (nat_le (v.index) most_index) h).1 in omega (arith, p)
  spellable-indices (Node op r) h = spellable-rows r (and_parts (op_spellable op) (row_spellable r) h).1

  spellable-rows : (r : Row Var Name) → row_spellable r ≡ true → RowIndicesBelow (2 ^ 31) r
  spellable-rows end h = tt
  spellable-rows (kid b e r) h =
      let p = and_parts (binder_spellable b && names_spellable e) (row_spellable r) h in
      (spellable-indices e (and_parts (binder_spellable b) (names_spellable e) p.0).1, spellable-rows r p.1)
