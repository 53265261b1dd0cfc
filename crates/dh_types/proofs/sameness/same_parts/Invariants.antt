use Rattle.std.proofs.Common.{◌≡◌, ℕ, drop, false}
use Rattle.dh_syntax.specs.Names.Nameless.{Core}
use Rattle.dh_syntax.specs.Normalising.NamelessRuns.{nameless_row_eq}
use Rattle.dh_store.specs.Cells.{code_row}
use Rattle.dh_types.specs.Inside.Comparing.{TellsSame}
use Rattle.dh_types.proofs.sameness.same_parts.Given as goal

abbrev pub invariant-loop-i : goal.invariant-loop-i
invariant-loop-i l = record {
  differs : (f : ℕ → Core) → TellsSame f l.memo → nameless_row_eq (code_row f (drop l.i l.kids)) (code_row f (drop l.i l.others)) ≡ false → nameless_row_eq (code_row f l.kids) (code_row f l.others) ≡ false;
  agrees : (f : ℕ → Core) → TellsSame f l.memo → l.waits ≡ false
      → nameless_row_eq (code_row f (drop l.i l.kids)) (code_row f (drop l.i l.others)) ≡ nameless_row_eq (code_row f l.kids) (code_row f l.others);
}
