use Rattle.std.proofs.Common.{◌≡◌, ℕ, length, take}
use Rattle.dh_syntax.specs.Names.Nameless.{Core}
use Rattle.dh_store.specs.Cells.{AreBelow, AreKidsBelow}
use Rattle.dh_types.specs.Parts.{fields_of}
use Rattle.dh_typerows.proofs.FoundFields.{AreFound}
use Rattle.dh_typerows.proofs.fields.fields_at.Given as goal

abbrev pub invariant-loop-x : goal.invariant-loop-x
invariant-loop-x l = record {
  found : (f : ℕ → Core) → AreFound f (fields_of f l.labels l.kids) (take l.x-index l.xs) l.types;
  below : (n : ℕ) → AreKidsBelow n l.kids → AreBelow n l.types;
  lengths : length l.types ≡ l.x-index;
}
