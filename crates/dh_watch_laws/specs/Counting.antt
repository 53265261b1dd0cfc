-- How many locations a run fetches, and how many keys it visits.
use Rattle.std.specs.Prelude.{◌≡◌, Some, List, [], ◌∷◌, ◌↔◌, ℕ, length, None, ◌+◌, ◌++◌, ◌≤◌}
use Rattle.dh_syntax.specs.declared.locations.Key.{Key}
use Rattle.dh_syntax.specs.declared.locations.Loc.{Loc}
use Rattle.dh_imports.specs.Records.{Record, text_at, Noted}
use Rattle.dh_imports.specs.Resolver.{TextOf}
use Rattle.dh_imports.specs.Walk.{Ask}
use Rattle.dh_watch_laws.specs.Depending.{part_of, From}
use Rattle.dh_imports.specs.Machine.{IsAmong}
use Rattle.dh_watch_laws.specs.Running.{AreApart, Runs, IsVisited}
use Rattle.dh_imports.specs.Outcomes.{Outcome}
use Rattle.dh_watch_laws.specs.Kept.{known, Kept, IsSound}
use Rattle.dh_watch_laws.specs.Visiting.{IsClosed}
use Rattle.dh_imports.specs.Walk as walk

-- the text of this location is asked on the way from the root
abbrev pub IsAskedText : Record → Ask → Key → Loc → Type 0
IsAskedText r ask root l = (j : Key) × From r ask root j × (part_of j ≡ Some (TextOf l))

-- no location stands twice
abbrev pub AreOnce : List Loc → Type 0
AreOnce [] = Unit {0}
AreOnce (l ∷ ls) = (¬ IsAmong l ls) × AreOnce ls

-- so many locations are those whose text is asked and was not kept
pub record IsCount (r : Record) (ask : Ask) (root : Key) (kept : Record) (n : ℕ) : Type 0 where
  pub locs : List Loc
  pub once : AreOnce locs
  pub members : (l : Loc) → IsAmong l locs ↔ ((text_at kept l ≡ None) × IsAskedText r ask root l)
  pub count : n ≡ length locs

-- so many keys are those that are visited
pub record AreVisited (r : Record) (ask : Ask) (root : Key) (n : ℕ) : Type 0 where
  pub keys : List Key
  pub apart : AreApart keys
  pub members : (k : Key) → IsAmong k keys ↔ From r ask root k
  pub count : n ≡ length keys

-- A run fetches each location whose text is asked and was not kept, once, and no other.
abbrev pub RunsCount : Type 0
RunsCount =
    (old s : Kept) (root : Key) (trail : List Key) (ask : Ask) (o : Outcome) (n : ℕ) → IsSound old → Runs old root s trail
    → IsClosed s.recorded ask → ((k : Key) (p : Outcome) → known s.outcomes k ≡ Some p → ask k ≡ Some p) → ask root ≡ Some o
    → n + length old.recorded.texts ≡ length s.recorded.texts → IsCount s.recorded ask root old.recorded n

-- The number is one.
abbrev pub OneCount : Type 0
OneCount = (r : Record) (ask : Ask) (root : Key) (kept : Record) (m n : ℕ) → IsCount r ask root kept m → IsCount r ask root kept n → m ≡ n

-- A run puts the texts that it fetches before those that were kept.
abbrev pub TextsGrow : Type 0
TextsGrow = (old s : Kept) (root : Key) (trail : List Key) → Runs old root s trail → (new : List (Loc × Noted)) × (s.recorded.texts ≡ new ++ old.recorded.texts)

-- The keys of the trail of a run and those that it found are so many different keys that are visited.
pub record Many (s : Kept) (root : Key) (n : ℕ) : Type 0 where
  pub keys : List Key
  pub apart : AreApart keys
  pub visited : (k : Key) → IsAmong k keys → IsVisited s root k
  pub count : n ≡ length keys

-- The keys on the trail of a run and those that it gave outcomes are so many different keys, each visited.
abbrev pub ManyAreVisited : Type 0
ManyAreVisited =
    (old s : Kept) (root : Key) (trail : List Key) (n : ℕ) → IsSound old → Runs old root s trail
    → n + length old.outcomes ≡ length trail + length s.outcomes → Many s root n

-- So many different visited keys are no more than all the visited keys, by all outcomes that know more.
abbrev pub ManyAreNoMore : Type 0
ManyAreNoMore =
    (s : Kept) (root : Key) (ask : walk.Ask) (m n : ℕ) → ((k : Key) (o : Outcome) → known s.outcomes k ≡ Some o → ask k ≡ Some o)
    → Many s root m → AreVisited s.recorded ask root n → m ≤ n
