-- The keys whose digests are written behind imports.
use Rattle.std.specs.Prelude.{ℕ, ◌-◌, Bool, false, ◌&&◌, if◌then◌else◌, List, length, slice_set, Option, Some, None, is_none}
use Rattle.dh_syntax.specs.declared.locations.Key.{Key}
use Rattle.dh_syntax.specs.Expressions.Tree.{Term}
use Rattle.dh_imports.specs.Freezing.{takes_content}
use Rattle.dh_imports.specs.Walk.{Walked, Ready, Fails, Turns, Needs, walk_key}
use Rattle.dh_demand.specs.Results.{Row, number_of, ask_of}
use Rattle.dh_demand.specs.Inside.Seen.{Sight}

-- whether an import with this key that is walked to this end takes a digest
abbrev pub takes : Key → Walked Term → Bool
takes k (Ready v) = is_none k.digest && takes_content k.mode
takes k (Fails b) = false
takes k (Turns j) = false
takes k (Needs j) = false

-- the number of a key whose import takes a digest
abbrev pub frozen : List Row → Key → Option ℕ
frozen rows k = if takes k (walk_key None (ask_of rows) k) then number_of rows k else None

-- the list with this number at a place, if there is one
abbrev pub put : ℕ → Option ℕ → List (Option ℕ) → List (Option ℕ)
put i None keys = keys
put i (Some n) keys = slice_set keys i (Some n)

-- the walk of the input that writes the number of each key that takes a digest
abbrev pub freezing : List Row → Sight (Option ℕ)
freezing rows = record { parent = None; rows = rows; ask = ask_of rows; note = λ left k keys. put (length keys - left) (frozen rows k) keys }
