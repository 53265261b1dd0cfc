-- The value of a text and the ways back into the text, whatever the key of its location and whatever the outcomes that are known.
use Rattle.std.specs.Prelude.{◌≡◌, ℕ, List, Option, Some}
use Rattle.dh_syntax.specs.declared.locations.Key.{Key}
use Rattle.dh_syntax.specs.Expressions.Tree.{Term}
use Rattle.dh_imports.specs.Readings.{AreOutcomes}
use Rattle.dh_imports.specs.Records.{Record}
use Rattle.dh_imports.specs.TextPaths.{text_path}
use Rattle.dh_imports.specs.Walk.{Ask, Ready, walk}

-- A text has the same value under each key of its location.
abbrev pub ValuesByLocation : Type 0
ValuesByLocation = (j k : Key) (ask : Ask) (e v : Term) → j.loc ≡ k.loc → walk (Some j) ask e ≡ Ready v → walk (Some k) ask e ≡ Ready v

-- The ways back into it are the same too.
abbrev pub PathsByLocation : Type 0
PathsByLocation = (j k : Key) (ask : Ask) (e : Term) (path : List ℕ) → j.loc ≡ k.loc → text_path (Some j) ask e path ≡ text_path (Some k) ask e path

-- By whichever of the resolver's outcomes a text has a value, it has the same value, and the ways back into it are the same.
abbrev pub OnePath : Type 0
OnePath =
    (r : Record) (ask more : Ask) (parent : Option Key) (e v w : Term) → AreOutcomes r ask → AreOutcomes r more
    → walk parent ask e ≡ Ready v → walk parent more e ≡ Ready w
    → (v ≡ w) × ((path : List ℕ) → text_path parent ask e path ≡ text_path parent more e path)
