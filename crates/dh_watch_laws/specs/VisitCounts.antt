-- How many keys the resolver visits from a root that what is kept decides.
use Rattle.std.specs.Prelude.{◌≡◌, ◌<◌, ◌≤◌, ◌+◌, ◌++◌, ℕ, true, if◌then◌else◌, List, [], ◌∷◌, length, Some}
use Rattle.dh_syntax.specs.declared.locations.Key.{Key}
use Rattle.dh_syntax.specs.Limits.{most_keys}
use Rattle.dh_imports.specs.Keeps.{asked_by}
use Rattle.dh_imports.specs.Outcomes.{Outcome}
use Rattle.dh_imports.specs.Records.{Record}
use Rattle.dh_imports.specs.Resolver.{Waits, is_in, least_back_to, plan, resolve}
use Rattle.dh_imports.specs.Walk.{Ask}
use Rattle.dh_watch_laws.specs.Asking.{Asked, Decides}
use Rattle.dh_watch_laws.specs.Contents.{Now, IsOver}
use Rattle.dh_watch_laws.specs.Counting.{AreVisited}
use Rattle.dh_watch_laws.specs.Kept.{Kept, IsSound, Outcomes, known}
use Rattle.dh_watch_laws.specs.Overflowing.{Overflows}
use Rattle.dh_watch_laws.specs.Running.{AreApart, Runs, stage_at}
use Rattle.dh_watch_laws.specs.Visiting.{Chain, looped}

-- the keys from a root on, the latest first, each of which waits for the next, and the latest for one of them; the least of the loop
pub record ClosesLoop (s : Kept) (root : Key) (xs : List Key) (least : Key) : Type 0 where
  pub next : Key
  pub chain : Chain s.recorded (known s.outcomes) next xs
  pub closes : is_in next xs ≡ true
  pub apart : AreApart xs
  pub later : List Key
  pub root_is : xs ≡ later ++ root ∷ []
  pub is_least : least ≡ least_back_to next xs

-- the outcomes by which what is kept decides a root: it has one, or its chain closes a loop
pub data Settles (s : Kept) (root : Key) : Ask → Type 0 where
  has : (o : Outcome) → known s.outcomes root ≡ Some o → Settles s root (known s.outcomes)
  comes_to_loop : (xs : List Key) (j : Key) → ClosesLoop s root xs j → Settles s root (looped xs j (known s.outcomes))

-- by these, so many keys are visited from the root on
pub record Counts (s : Kept) (root : Key) (n : ℕ) : Type 0 where
  pub ask : Ask
  pub settles : Settles s root ask
  pub visited : AreVisited s.recorded ask root n

-- the resolver visits no more keys from the root than are allowed, with so much to spend or more
abbrev pub AreFew : Record → ℕ → Key → Type 0
AreFew r units root = (extra n : ℕ) → AreVisited r (resolve r (extra + units) []) root n → n ≤ most_keys

-- Where the latest key of a run waits for one of it, its keys close a loop.
abbrev pub RunsClose : Type 0
RunsClose =
    (old s : Kept) (root k y : Key) (xs : List Key) → IsSound old → Runs old root s (k ∷ xs) → stage_at s k ≡ Waits y → is_in y (k ∷ xs) ≡ true
    → ClosesLoop s root (k ∷ xs) (least_back_to y (k ∷ xs))

-- Where they are more than are allowed, the resolver visits too many.
abbrev pub CountsOverflow : Type 0
CountsOverflow = (now : Now) (s : Kept) (root : Key) (n : ℕ) → IsSound s → IsOver now s.recorded → Counts s root n → most_keys < n → Overflows now root

-- The number is one.
abbrev pub OneCounts : Type 0
OneCounts = (s : Kept) (root : Key) (m n : ℕ) → IsSound s → Counts s root m → Counts s root n → m ≡ n

-- No more are visited than have outcomes or are of the chain.
abbrev pub CountsAreKept : Type 0
CountsAreKept =
    (s : Kept) (root : Key) (n : ℕ) → IsSound s → Counts s root n
    → ((o : Outcome) → known s.outcomes root ≡ Some o → n ≤ length s.outcomes)
    × ((xs : List Key) (j : Key) → ClosesLoop s root xs j → n ≤ length xs + length s.outcomes)

-- An ask that is not refused is decided so; where those are no more than are allowed, the resolver visits no more.
abbrev pub CountsAreAsked : Type 0
CountsAreAsked =
    (old s : Kept) (root : Key) (m : ℕ) → IsSound old → Asked old root s m → ((n : ℕ) → Counts s root n → n ≤ most_keys)
    → (d : Decides old s root m) → AreFew s.recorded d.visits.units root

-- ---- in one pass over what is kept

-- of these outcomes, the latest first, so many are of keys that are visited from these keys on: a key asks those alone that were found
-- before it
abbrev pub count_from : Record → Ask → Outcomes → List Key → ℕ
count_from r ask [] ks = 0
count_from r ask (p ∷ l) ks = if is_in p.0 ks then count_from r ask l (asked_by ask p.0 (plan r p.0) ++ ks) + 1 else count_from r ask l ks

-- the keys that these ask
abbrev pub asked_by_all : Record → Ask → List Key → List Key
asked_by_all r ask [] = []
asked_by_all r ask (k ∷ ks) = asked_by ask k (plan r k) ++ asked_by_all r ask ks

-- So many are visited from a key that has an outcome; and from one whose chain closes a loop, the keys of the chain with those that are
-- visited from what these ask.
abbrev pub PassesCount : Type 0
PassesCount =
    (s : Kept) (root : Key) → IsSound s
    → ((o : Outcome) → known s.outcomes root ≡ Some o → Counts s root (count_from s.recorded (known s.outcomes) s.outcomes (root ∷ [])))
    × ((xs : List Key) (j : Key) → ClosesLoop s root xs j
    → Counts s root (length xs + count_from s.recorded (looped xs j (known s.outcomes)) s.outcomes (asked_by_all s.recorded (looped xs j (known s.outcomes)) xs)))
