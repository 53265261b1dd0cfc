use Rattle.std.proofs.Common.{ℕ, take}
use Rattle.dh_syntax.specs.Names.Nameless.{Core, Ref}
use Rattle.dh_types.specs.Inside.Changes.{Maps}
use Rattle.dh_types.proofs.ChangedRows.{ArePartsOf}
use Rattle.dh_types.proofs.changes.are_kept.Given as goal

abbrev pub invariant-loop-kid : goal.invariant-loop-kid
invariant-loop-kid l = (f : ℕ → Core) (g : ℕ → Ref → Core) → Maps f g l.memo → ArePartsOf f g l.level (take l.kid-index l.kids) (take l.kid-index l.kids)
