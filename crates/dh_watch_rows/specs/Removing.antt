-- What is kept when the text of a location is taken away.
use Rattle.std.specs.Prelude.{◌≡◌, false, [], None}
use Rattle.dh_syntax.specs.declared.locations.Loc.{Loc}
use Rattle.dh_syntax.specs.Expressions.SameTree.{loc_eq}
use Rattle.dh_imports.specs.Records.{text_at}
use Rattle.dh_watch_laws.specs.Kept.{Kept}

-- nothing is recorded there, and all else is as it was
pub record Forgets (s : Kept) (l : Loc) (s' : Kept) : Type 0 where
  pub gone : text_at s'.recorded l ≡ None
  pub others : (x : Loc) → loc_eq l x ≡ false → text_at s'.recorded x ≡ text_at s.recorded x
  pub looks : s'.recorded.looks ≡ s.recorded.looks
  pub limits : s'.recorded.limits ≡ s.recorded.limits
  pub outcomes : s'.outcomes ≡ s.outcomes

-- the texts and the looks alone
abbrev pub without_outcomes : Kept → Kept
without_outcomes s = record { recorded = record { texts = s.recorded.texts; looks = s.recorded.looks; limits = [] }; outcomes = [] }
