-- Marks of keys that a walk asks.
use Rattle.std.specs.Prelude.{ℕ, Bool, true, ◌&&◌, ◌||◌, if◌then◌else◌, List, [], ◌∷◌, filter, Option, Some, None, is_none, slice_set}
use Rattle.dh_syntax.specs.declared.locations.Key.{Key}
use Rattle.dh_syntax.specs.declared.locations.Loc.{Loc}
use Rattle.dh_imports.specs.declared.outcomes.Origin.TheVariants.{Made}
use Rattle.dh_syntax.specs.Expressions.Tree.{Leaf}
use Rattle.dh_imports.specs.Outcomes.{Outcome, Good}
use Rattle.dh_imports.specs.Walk.{Ask, is_sane}
use Rattle.dh_demand.specs.declared.ends.Next.{Next}
use Rattle.dh_demand.specs.declared.ends.Next.TheVariants as next
use Rattle.dh_demand.specs.Results.{Row, number_of, ask_of}
use Rattle.dh_demand.specs.Scans.{text_key}
use Rattle.dh_demand.specs.Inside.Seen.{Sight}

-- the marks with that of this number, if there is one
abbrev pub mark : Option ℕ → List Bool → List Bool
mark None marks = marks
mark (Some n) marks = slice_set marks n true

-- the marks with those of these keys
abbrev pub marked : List Row → List Key → List Bool → List Bool
marked rows [] marks = marks
marked rows (k ∷ ks) marks = marked rows ks (mark (number_of rows k) marks)

-- all of these keys, or those without an outcome
abbrev pub picked : Bool → Ask → List Key → List Key
picked all ask ks = filter (λ k. all || is_none (ask k)) ks

-- a key without an outcome counts as one with some value that any text may read
abbrev pub good_or : Option Outcome → Outcome
good_or None = Good (Leaf (record { name = []; index = 0 })) Made
good_or (Some o) = o

-- the outcomes that are known, where each key without one counts as good
abbrev pub assumed : Ask → Ask
assumed ask k = Some (good_or (ask k))

-- whether an import is marked: the key of any sane one, or one without an outcome
abbrev pub is_noted : Bool → Option Loc → Ask → Key → Bool
is_noted all parent ask k = is_sane (text_key parent) k && (all || is_none (ask k))

-- the same by what a visit says, and what comes next then
abbrev pub noting : Bool → Bool → Next → Bool
noting all sane (next.Need m) = true
noting all sane next.Ready = all
noting all sane (next.Fault e) = all && sane

-- what comes next where a key that is needed counts as good
abbrev pub passing : Next → Next
passing (next.Need m) = next.Ready
passing next.Ready = next.Ready
passing (next.Fault e) = next.Fault e

-- the walk of a text at this location that marks them
abbrev pub marking : Bool → Option Loc → List Row → Sight Bool
marking all parent rows = record {
  parent = parent;
  rows = rows;
  ask = assumed (ask_of rows);
  note = λ left k marks. mark (if is_noted all parent (ask_of rows) k then number_of rows k else None) marks;
}
