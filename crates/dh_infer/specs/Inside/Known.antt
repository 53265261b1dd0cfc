-- What the machine keeps beside its state.
use Rattle.std.specs.Prelude.{◌≡◌, ℕ, Some}
use Rattle.dh_syntax.specs.Names.Nameless.{Core}
use Rattle.dh_syntax.specs.Normalising.NamelessRuns.{cores}
use Rattle.dh_syntax.specs.Normalising.Normal.{HasNormalForm}
use Rattle.dh_types.specs.declared.memos.Memo.{Memo}
use Rattle.dh_types.specs.Memos.{entry}
use Rattle.dh_infer.specs.declared.known.Known.{Known}
use Rattle.dh_infer.specs.Inside.Facts.{AreFacts}
use Rattle.dh_infer.specs.Inside.Sharing.{AreShared}

-- what is kept of a code is its normal form
abbrev pub AreForms : (ℕ → Core) → Memo ℕ → Type 0
AreForms g m = (c d k : ℕ) → entry m c d ≡ Some k → HasNormalForm cores (g c) (g k)

-- it is true, by what codes stand for
pub record IsKnown (g : ℕ → Core) (k : Known) : Type 0 where
  pub facts : AreFacts g k.facts.found.items
  pub shared : AreShared g k.sharing.firsts.items
  pub forms : AreForms g k.forms
