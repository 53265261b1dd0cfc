use Rattle.std.proofs.Common.{◌≡◌, ℕ, take}
use Rattle.dh_syntax.specs.Names.Nameless.{Core, Ref}
use Rattle.dh_store.specs.Cells.{AreKidsBelow}
use Rattle.dh_types.specs.Inside.Changes.{AreEntriesBelow, Maps}
use Rattle.dh_types.proofs.ChangedRows.{binders, ArePartsOf}
use Rattle.dh_types.proofs.changes.changed_kids.Given as goal

abbrev pub invariant-loop-kid : goal.invariant-loop-kid
invariant-loop-kid l = record {
  row : (f : ℕ → Core) (g : ℕ → Ref → Core) → Maps f g l.memo → ArePartsOf f g l.level l.done (take l.kid-index l.kids);
  below : (n : ℕ) → AreEntriesBelow n l.memo → AreKidsBelow n l.done;
  shape : binders l.done ≡ binders (take l.kid-index l.kids);
}
