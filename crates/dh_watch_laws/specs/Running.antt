-- A depth-first run from a key, over what is kept: a trail of keys, each waiting for the next, and the steps that it makes.
use Rattle.std.specs.Prelude.{◌≡◌, false, List, [], ◌∷◌, Option, None, Some, ◌++◌, true}
use Rattle.dh_syntax.specs.declared.locations.Key.{Key}
use Rattle.dh_imports.specs.Resolver.{Stage, stage, TextOf, Lacks, Waits, is_in, Resolves, least_back_to}
use Rattle.dh_watch_laws.specs.Kept.{known, Kept, keep_text, keep_look, keep_outcome, IsLast, Outcomes, IsSound}
use Rattle.dh_syntax.specs.declared.locations.Digest.{Digest}
use Rattle.dh_syntax.specs.declared.locations.Loc.{Loc}
use Rattle.dh_imports.specs.declared.outcomes.Why.{Why}
use Rattle.dh_imports.specs.Outcomes.{Outcome, Loop}
use Rattle.dh_imports.specs.Records.{Noted, Seen, look_at, text_at}
use Rattle.dh_imports.specs.Walk.{Ask}
use Rattle.dh_watch_laws.specs.Depending.{From, part_of}
use Rattle.dh_imports.specs.Machine.{IsAmong}
use Rattle.dh_watch_laws.specs.Sweeping.{AreOf}
use Rattle.dh_watch_laws.specs.Visiting.{Visits, looped, IsClosed}

-- the stage of a key by what is kept
abbrev pub stage_at : Kept → Key → Stage
stage_at s k = stage s.recorded (known s.outcomes) k

-- what a run from the root has come to, and its trail, the latest key first
pub data Runs (old : Kept) (root : Key) : Kept → List Key → Type 0 where
  begins : known old.outcomes root ≡ None → Runs old root old (root ∷ [])
  -- the text that the latest key lacks is fetched
  fetches : {s : Kept} {k : Key} {xs : List Key} {l : Loc} → Runs old root s (k ∷ xs) → stage_at s k ≡ Lacks (TextOf l) → (t : Noted) → Runs old root (keep_text s l t) (k ∷ xs)
  -- a digest has this look, which was not recorded
  looks : {s : Kept} {trail : List Key} {d : Digest} → Runs old root s trail → look_at s.recorded d ≡ None → (look : Seen) → Runs old root (keep_look s d look) trail
  -- it waits for a key that is not on the trail
  enters : {s : Kept} {k y : Key} {xs : List Key} → Runs old root s (k ∷ xs) → stage_at s k ≡ Waits y → is_in y (k ∷ xs) ≡ false → Runs old root s (y ∷ k ∷ xs)
  -- it comes to its outcome
  finishes : {s : Kept} {k : Key} {xs : List Key} → Runs old root s (k ∷ xs) → (limit : Option Why) (o : Outcome) → IsLast s k limit o → Runs old root (keep_outcome s k limit o) xs

-- by these outcomes, and by all that know more, the run visits this key
abbrev pub IsVisited : Kept → Key → Key → Type 0
IsVisited s root j = (more : Ask) → ((k : Key) (o : Outcome) → known s.outcomes k ≡ Some o → more k ≡ Some o) → From s.recorded more root j

-- the keys that have outcomes
abbrev pub keys_of_outcomes : Outcomes → List Key
keys_of_outcomes [] = []
keys_of_outcomes (p ∷ l) = p.0 ∷ keys_of_outcomes l

-- no key stands twice in the list
abbrev pub AreApart : List Key → Type 0
AreApart [] = Unit {0}
AreApart (k ∷ ks) = (is_in k ks ≡ false) × AreApart ks

-- what a run adds to what was kept
pub record Adds (old : Kept) (root : Key) (s : Kept) (trail : List Key) : Type 0 where
  pub sound : IsSound s
  pub texts : AreOf old.recorded.texts s.recorded.texts
  -- each text that was fetched is that of a key that is visited
  pub fetched : (l : Loc) (t : Noted) → text_at s.recorded l ≡ Some t → text_at old.recorded l ≡ None → (j : Key) × (part_of j ≡ Some (TextOf l)) × IsVisited s root j
  -- the outcomes that were found, each of a key that is visited; these and those of the trail are so many different keys
  pub found : Outcomes
  pub outcomes : s.outcomes ≡ found ++ old.outcomes
  pub apart : AreApart (trail ++ keys_of_outcomes found)
  pub visited : (j : Key) → IsAmong j (trail ++ keys_of_outcomes found) → IsVisited s root j

-- A run keeps what is kept sound, and fetches and finds nothing but what is visited.
abbrev pub RunsAdd : Type 0
RunsAdd = (old s : Kept) (root : Key) (trail : List Key) → IsSound old → Runs old root s trail → Adds old root s trail

-- Where the trail is empty, the root has an outcome, which is the resolver's, and the keys that are asked are those that the resolver visits.
abbrev pub RunsDecide : Type 0
RunsDecide =
    (old s : Kept) (root : Key) → IsSound old → Runs old root s []
    → (o : Outcome) × (known s.outcomes root ≡ Some o) × Resolves s.recorded root o × Visits s.recorded (known s.outcomes) root

-- Where the latest key waits for one of the trail, the root comes to that loop.
abbrev pub RunsLoop : Type 0
RunsLoop =
    (old s : Kept) (root k y : Key) (xs : List Key) → IsSound old → Runs old root s (k ∷ xs) → stage_at s k ≡ Waits y → is_in y (k ∷ xs) ≡ true
    → Resolves s.recorded root (Loop (least_back_to y (k ∷ xs))) × Visits s.recorded (looped (k ∷ xs) (least_back_to y (k ∷ xs)) (known s.outcomes)) root

-- By these outcomes, too, each key is due, and they are more than those that are kept.
abbrev pub LoopsClose : Type 0
LoopsClose =
    (old s : Kept) (root k y : Key) (xs : List Key) → IsSound old → Runs old root s (k ∷ xs) → stage_at s k ≡ Waits y → is_in y (k ∷ xs) ≡ true
    → IsClosed s.recorded (looped (k ∷ xs) (least_back_to y (k ∷ xs)) (known s.outcomes))
    × ((j : Key) (o : Outcome) → known s.outcomes j ≡ Some o → looped (k ∷ xs) (least_back_to y (k ∷ xs)) (known s.outcomes) j ≡ Some o)
    × (looped (k ∷ xs) (least_back_to y (k ∷ xs)) (known s.outcomes) root ≡ Some (Loop (least_back_to y (k ∷ xs))))
