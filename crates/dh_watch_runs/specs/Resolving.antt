-- Keys by their numbers, what is kept of them, and how a depth-first run ends.
use Rattle.std.specs.Prelude.{◌≡◌, ◌<◌, ◌≤◌, ◌+◌, ◌++◌, ℕ, true, slice_index_or, List, ◌∷◌, length, map, Option, Some, None}
use Rattle.dh_syntax.specs.declared.locations.Key.{Key}
use Rattle.dh_syntax.specs.declared.locations.Loc.TheVariants as locs
use Rattle.dh_syntax.specs.declared.locations.Mode.TheVariants as modes
use Rattle.dh_imports.specs.Resolver.{Stage, Waits, is_in, least_back_to}
use Rattle.dh_watch_laws.specs.Kept.{Kept}
use Rattle.dh_watch_laws.specs.Running.{stage_at, Runs}
use Rattle.dh_watch_laws.specs.Contents.{Now, IsOver}

-- what stands at a number that is no key's
abbrev pub no_key : Key
no_key = record { loc = locs.Missing; mode = modes.Location; digest = None }

-- the key of this number
abbrev pub named : List Key → ℕ → Key
named ks n = slice_index_or ks n no_key

-- the keys of these numbers
abbrev pub trail_of : List Key → List ℕ → List Key
trail_of keys ns = map (named keys) ns

-- how far a key has come
abbrev pub IsWait : List Key → Stage → ℕ → Type 0
IsWait keys s n = (n < length keys) × (s ≡ Waits (named keys n))

-- keys have more behind them
abbrev pub AreMore : List Key → List Key → Type 0
AreMore keys more = (ks : List Key) × (more ≡ keys ++ ks)

-- what goes on at this key is a part of every run whose latest key it is
abbrev pub GoesOn : Kept → Kept → Key → Type 0
GoesOn s s' k = (old : Kept) (root : Key) (xs : List Key) → Runs old root s (k ∷ xs) → Runs old root s' (k ∷ xs)

-- the key comes to its outcome, in every such run
abbrev pub Finishes : Kept → Kept → Key → Type 0
Finishes s s' k = (old : Kept) (root : Key) (xs : List Key) → Runs old root s (k ∷ xs) → Runs old root s' xs

-- a run that has met a loop, whose least key this is
pub record HasLooped (old : Kept) (root : Key) (s : Kept) (least : Key) : Type 0 where
  pub latest : Key
  pub next : Key
  pub trail : List Key
  pub run : Runs old root s (latest ∷ trail)
  pub waits : stage_at s latest ≡ Waits next
  pub closes : is_in next (latest ∷ trail) ≡ true
  pub is_least : least ≡ least_back_to next (latest ∷ trail)

-- a run that has stopped
pub record HasStopped (old : Kept) (root : Key) (s : Kept) : Type 0 where
  pub trail : List Key
  pub run : Runs old root s trail

-- a run that has met too many keys: those of its trail, and those to which it found outcomes
pub record HasMany (most : ℕ) (old : Kept) (root : Key) (s : Kept) : Type 0 where
  pub trail : List Key
  pub run : Runs old root s trail
  pub many : most + length old.outcomes < length trail + length s.outcomes

-- what was of the contents as they now are, where they are told, still is
abbrev pub StaysOver : Option Now → Kept → Kept → Type 0
StaysOver told s s' = (now : Now) → told ≡ Some now → IsOver now s.recorded → IsOver now s'.recorded

-- no more texts were asked for than were recorded, but for so many
abbrev pub AsksFor : ℕ → ℕ → Kept → ℕ → Kept → Type 0
AsksFor more asked s asked' s' = asked' + length s.recorded.texts ≤ asked + length s'.recorded.texts + more
