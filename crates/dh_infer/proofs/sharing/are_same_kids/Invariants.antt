use Rattle.std.proofs.Common.{◌≡◌, ℕ, drop}
use Rattle.dh_syntax.specs.Names.Nameless.{Core}
use Rattle.dh_store.specs.Cells.{code_row}
use Rattle.dh_infer.specs.Inside.Sharing.{AreShared}
use Rattle.dh_infer.proofs.sharing.are_same_kids.Given as goal

abbrev pub invariant-loop-i : goal.invariant-loop-i
invariant-loop-i l = (g : ℕ → Core) → AreShared g l.firsts → code_row g (drop l.i l.kids) ≡ code_row g (drop l.i l.others) → code_row g l.kids ≡ code_row g l.others
