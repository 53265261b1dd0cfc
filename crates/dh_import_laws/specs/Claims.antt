-- A task is claimed again only after its claim was released.
use Rattle.std.specs.Prelude.{◌≤◌, ◌+◌, ℕ, Bool, true, false, List, ◌∷◌, ◌++◌, count_by}
use Rattle.dh_syntax.specs.declared.locations.Loc.{Loc}
use Rattle.dh_syntax.specs.Expressions.SameTree.{loc_eq}
use Rattle.dh_syntax.specs.Expressions.Tree.{Term}
use Rattle.dh_imports.specs.Machine.{IsAmong, Task, Fetch, InFlight, Event, Claim, Release, after_all, Lawful}

-- Between two claims of one task stands a release of the first, by the serial under which that put the task in flight.
abbrev pub ReleasedBetween : Type 0
ReleasedBetween =
    (root : Term) (later middle earlier : List Event) (v w : ℕ) (t : Task)
    → Lawful root (later ++ Claim w t ∷ (middle ++ Claim v t ∷ earlier))
    → (n : ℕ) × InFlight (after_all root (Claim v t ∷ earlier)) n t × IsAmong (Release n) middle

-- the claim of a fetch of this location
abbrev pub is_fetch_of : Loc → Event → Bool
is_fetch_of l (Claim worker (Fetch m)) = loc_eq m l
is_fetch_of l _ = false

-- whether an event is a release
abbrev pub is_release : Event → Bool
is_release (Release serial) = true
is_release _ = false

-- The claims of fetches of one location are at most one more than the releases: without a release there is one at most.
abbrev pub FetchesByReleases : Type 0
FetchesByReleases = (root : Term) (es : List Event) (l : Loc) → Lawful root es → count_by (is_fetch_of l) es ≤ count_by is_release es + 1
