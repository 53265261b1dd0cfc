use Rattle.std.proofs.Common.{◌≡◌, ℕ, drop}
use Rattle.dh_syntax.specs.Names.Nameless.{Core}
use Rattle.dh_syntax.specs.Typing.TypeViews.{alternative_at}
use Rattle.dh_store.specs.Cells.{AreKidsBelow}
use Rattle.dh_types.specs.Parts.{alternatives_of}
use Rattle.dh_typerows.proofs.unions.alternative_at.Given as goal

abbrev pub invariant-loop-alt : goal.invariant-loop-alt
invariant-loop-alt l = record {
  view : (f : ℕ → Core) → alternative_at l.x (alternatives_of f (drop l.alt-index l.alts) l.rest) ≡ alternative_at l.x (alternatives_of f l.alts l.types);
  below : (n : ℕ) → AreKidsBelow n l.types → AreKidsBelow n l.rest;
}
