use Rattle.std.proofs.Common.{◌≡◌, ℕ, length}
use Rattle.dh_syntax.specs.Names.Nameless.{Core}
use Rattle.dh_store.specs.Cells.{AreBelow, AreKidsBelow}
use Rattle.dh_types.specs.Parts.{fields_of}
use Rattle.dh_typerows.specs.Joining.{AreFoundBelow, Joins}
use Rattle.dh_typerows.proofs.JoinedFields.{IsJoinedSoFar}
use Rattle.dh_typerows.proofs.joins.joined_types.Given as goal

abbrev pub invariant-loop-i : goal.invariant-loop-i
invariant-loop-i l = record {
  fields : (f : ℕ → Core) → Joins f l.memo → IsJoinedSoFar f (fields_of f l.ys l.others) l.xs l.kids l.i l.types;
  below : (n : ℕ) → AreKidsBelow n l.kids → AreFoundBelow n l.memo → AreBelow n l.types;
  paired : length l.types ≡ l.i;
}
