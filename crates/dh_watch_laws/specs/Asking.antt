-- How an ask goes from what was kept to what is then kept.
use Rattle.std.specs.Prelude.{◌≡◌, ◌↔◌, ◌+◌, ℕ, true, List, [], ◌∷◌, length, Some, None}
use Rattle.dh_syntax.specs.declared.locations.Key.{Key}
use Rattle.dh_syntax.specs.declared.locations.Loc.{Loc}
use Rattle.dh_imports.specs.Machine.{IsAmong}
use Rattle.dh_imports.specs.Outcomes.{Outcome}
use Rattle.dh_imports.specs.Records.{Noted, text_at}
use Rattle.dh_imports.specs.Resolver.{Waits, is_in}
use Rattle.dh_imports.specs.Walk.{Ask}
use Rattle.dh_watch_laws.specs.Counting.{AreOnce, IsAskedText, IsCount}
use Rattle.dh_watch_laws.specs.Kept.{Kept, IsSound, known}
use Rattle.dh_watch_laws.specs.Sweeping.{AreOf}
use Rattle.dh_watch_laws.specs.Visiting.{IsClosed, Visits}
use Rattle.dh_watch_laws.specs.Running.{Runs, stage_at}

-- so many texts were fetched
abbrev pub Fetched : Kept → Kept → ℕ → Type 0
Fetched old s n = n + length old.recorded.texts ≡ length s.recorded.texts

-- An ask of this root, and how many texts were fetched: a run to its outcome, a run that met a loop, or the root had an outcome already.
pub data Asked (old : Kept) (root : Key) : Kept → ℕ → Type 0 where
  decided : {s : Kept} {n : ℕ} → Runs old root s [] → Fetched old s n → Asked old root s n
  loops : {s : Kept} {n : ℕ} (k y : Key) (xs : List Key) → Runs old root s (k ∷ xs) → stage_at s k ≡ Waits y → is_in y (k ∷ xs) ≡ true → Fetched old s n
      → Asked old root s n
  kept : (o : Outcome) → known old.outcomes root ≡ Some o → Asked old root old 0

-- By these outcomes, which are those that are kept or more, the root is decided; so many texts were fetched for it, and the locations
-- whose texts it asks are these.
pub record Decides (old s : Kept) (root : Key) (n : ℕ) : Type 0 where
  pub sound : IsSound s
  pub kept : AreOf old.recorded.texts s.recorded.texts
  pub ask : Ask
  pub closed : IsClosed s.recorded ask
  pub more : (k : Key) (o : Outcome) → known s.outcomes k ≡ Some o → ask k ≡ Some o
  pub outcome : Outcome
  pub decided : ask root ≡ Some outcome
  pub visits : Visits s.recorded ask root
  pub count : IsCount s.recorded ask root old.recorded n
  pub only : (l : Loc) (t : Noted) → text_at s.recorded l ≡ Some t → text_at old.recorded l ≡ None → IsAskedText s.recorded ask root l
  pub texts : List Loc
  pub once : AreOnce texts
  pub members : (l : Loc) → IsAmong l texts ↔ IsAskedText s.recorded ask root l

-- An ask that is not refused decides its root.
abbrev pub AsksDecide : Type 0
AsksDecide = (old s : Kept) (root : Key) (n : ℕ) → IsSound old → Asked old root s n → Decides old s root n
