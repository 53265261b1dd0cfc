-- The keys that the resolver visits from a key on, by the outcomes that are known, and loops.
use Rattle.std.specs.Prelude.{◌≡◌, true, Some, ℕ, [], ◌↔◌, List, ◌∷◌, if◌then◌else◌}
use Rattle.dh_syntax.specs.declared.locations.Key.{Key}
use Rattle.dh_imports.specs.Outcomes.{Outcome, Loop}
use Rattle.dh_imports.specs.Records.{Record}
use Rattle.dh_imports.specs.Resolver.{stage, resolve, is_in, least_back_to}
use Rattle.dh_imports.specs.Walk.{Ask}
use Rattle.dh_watch_laws.specs.Sweeping.{is_due}
use Rattle.dh_watch_laws.specs.Kept.{known, Outcomes, Found}
use Rattle.dh_watch_laws.specs.Depending.{From}
use Rattle.dh_imports.specs.Machine.{Blocks}

-- of each key that has an outcome the last step is due
abbrev pub IsClosed : Record → Ask → Type 0
IsClosed r ask = (k : Key) (o : Outcome) → ask k ≡ Some o → is_due (stage r ask k) ≡ true

-- these outcomes are the resolver's, for one number
abbrev pub AreThese : Record → Ask → ℕ → Type 0
AreThese r ask n = (k : Key) (o : Outcome) → ask k ≡ Some o → resolve r n [] k ≡ Some o

-- the resolver's outcomes with enough to spend, and the keys that are visited by these
pub record Visits (r : Record) (ask : Ask) (k : Key) : Type 0 where
  pub units : ℕ
  pub these : AreThese r ask units
  pub same : (j : Key) → From r ask k j ↔ From r (resolve r units []) k j
  pub known : (j : Key) → From r ask k j → (o : Outcome) × (ask j ≡ Some o)

-- From a key that has an outcome the resolver visits the keys that are asked by the outcomes that are kept.
abbrev pub VisitsKept : Type 0
VisitsKept = (r : Record) (l : Outcomes) (k : Key) (o : Outcome) → Found r l → known l k ≡ Some o → Visits r (known l) k

-- each key of the list waits for the one before it, the first for the key
pub data Chain (r : Record) (ask : Ask) : Key → List Key → Type 0 where
  ends : {k : Key} → Chain r ask k []
  waits : {x y : Key} {xs : List Key} → Blocks r ask x y → Chain r ask x xs → Chain r ask y (x ∷ xs)

-- the keys of a chain come to this loop
abbrev pub looped : List Key → Key → Ask → Ask
looped xs j ask k = if is_in k xs then Some (Loop j) else ask k

-- Where a chain meets itself, each of its keys comes to the loop that is so closed, and the resolver visits the keys that are asked by that.
abbrev pub VisitsLoop : Type 0
VisitsLoop =
    (r : Record) (l : Outcomes) (k : Key) (xs : List Key) (x : Key) → Found r l → Chain r (known l) k xs → is_in k xs ≡ true → is_in x xs ≡ true
    → Visits r (looped xs (least_back_to k xs) (known l)) x

-- The key for which another one waits is visited from that on, over a longer record and by more outcomes.
abbrev pub WaitsAreVisited : Type 0
WaitsAreVisited =
    (r : Record) (ask more : Ask) (x y : Key) → ((k : Key) (o : Outcome) → ask k ≡ Some o → more k ≡ Some o) → Blocks r ask x y → From r more x y
