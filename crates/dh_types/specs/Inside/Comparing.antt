-- What was found of pairs of codes, and of codes below binders.
use Rattle.std.specs.Prelude.{◌≡◌, ℕ, Bool, Some}
use Rattle.dh_syntax.specs.Names.Nameless.{Core}
use Rattle.dh_syntax.specs.Normalising.NamelessRuns.{nameless_eq}
use Rattle.dh_syntax.specs.Typing.NamelessTyping.{mentions}
use Rattle.dh_types.specs.declared.memos.Memo.{Memo}
use Rattle.dh_types.specs.Memos.{entry}

-- In the following, `f` is what codes stand for.

-- what was found says whether two codes are equal
abbrev pub TellsSame : (ℕ → Core) → Memo Bool → Type 0
TellsSame f m = (a b : ℕ) (v : Bool) → entry m a b ≡ Some v → v ≡ nameless_eq (f a) (f b)

-- what was found says whether a code mentions the variable of the binder so many above
abbrev pub TellsMentioned : (ℕ → Core) → Memo Bool → Type 0
TellsMentioned f m = (c k : ℕ) (v : Bool) → entry m c k ≡ Some v → v ≡ mentions k (f c)
