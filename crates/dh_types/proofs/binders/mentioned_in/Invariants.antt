use Rattle.std.proofs.Common.{◌≡◌, ℕ, drop, true, false}
use Rattle.dh_syntax.specs.Names.Nameless.{Core}
use Rattle.dh_syntax.specs.Typing.NamelessTyping.{mentions_row}
use Rattle.dh_store.specs.Cells.{code_row}
use Rattle.dh_types.specs.Inside.Comparing.{TellsMentioned}
use Rattle.dh_types.proofs.binders.mentioned_in.Given as goal

abbrev pub invariant-loop-kid : goal.invariant-loop-kid
invariant-loop-kid l = record {
  mentions : (f : ℕ → Core) → TellsMentioned f l.memo → mentions_row l.place.level (code_row f (drop l.kid-index l.kids)) ≡ true → mentions_row l.place.level (code_row f l.kids) ≡ true;
  agrees : (f : ℕ → Core) → TellsMentioned f l.memo → l.waits ≡ false → mentions_row l.place.level (code_row f (drop l.kid-index l.kids)) ≡ mentions_row l.place.level (code_row f l.kids);
}
