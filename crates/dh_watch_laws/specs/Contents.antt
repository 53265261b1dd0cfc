-- The contents of locations between two edits, and what a record of them says.
use Rattle.std.specs.Prelude.{ℕ, List, if◌then◌else◌, [], ◌∷◌, ◌≡◌, take, Option, Some, None, Result}
use Rattle.dh_syntax.specs.declared.locations.Loc.{Loc}
use Rattle.dh_syntax.specs.Expressions.SameTree.{loc_eq}
use Rattle.dh_syntax.specs.declared.faults.ParseFault.{ParseFault}
use Rattle.dh_syntax.specs.Expressions.Tree.{Term}
use Rattle.dh_imports.specs.Records.{Noted, lookup, Record, Seen, text_at, look_at}
use Rattle.dh_syntax.specs.Text.Spelling.{ParsesTo}
use Rattle.dh_syntax.specs.declared.locations.Digest.{Digest}
use Rattle.dh_imports.specs.Records as found

-- the bytes of each location that has any
abbrev pub Now : Type 0
Now = List (Loc × List ℕ)

-- the contents without the bytes of a location
abbrev pub dropped : Loc → Now → Now
dropped l [] = []
dropped l (p ∷ ps) = if loc_eq p.0 l then dropped l ps else p ∷ dropped l ps

-- the contents where a location has these bytes
abbrev pub set : Loc → List ℕ → Now → Now
set l bytes now = (l, bytes) ∷ dropped l now

-- so many bytes of a text are fetched
abbrev pub most_fetched : ℕ
most_fetched = 1048577

-- what is told of a location
abbrev pub IsTold : Option (List ℕ) → Noted → Type 0
IsTold None t = t ≡ found.Absent
IsTold (Some bytes) t = (parsed : Result Term ParseFault) × ParsesTo (take most_fetched bytes) parsed × (t ≡ found.Found (take most_fetched bytes) None parsed)

-- a record says of texts what is told, its looks are misses
pub record IsOver (now : Now) (r : Record) : Type 0 where
  pub texts : (l : Loc) (t : Noted) → text_at r l ≡ Some t → IsTold (lookup loc_eq now l) t
  pub looks : (d : Digest) (s : Seen) → look_at r d ≡ Some s → s ≡ found.Miss

-- the second contents are the first, but for this location
abbrev pub IsEdited : Now → Loc → Option (List ℕ) → Now → Type 0
IsEdited now l bytes now' = (x : Loc) → lookup loc_eq now' x ≡ (if loc_eq l x then bytes else lookup loc_eq now x)
