-- How an ask is answered of what is kept, whatever asks before it were refused.
use Rattle.std.specs.Prelude.{◌≡◌, ◌+◌, ◌≤◌, ◌++◌, ℕ, true, List, [], ◌∷◌, length, Some}
use Rattle.dh_syntax.specs.declared.locations.Key.{Key}
use Rattle.dh_syntax.specs.declared.locations.Loc.{Loc}
use Rattle.dh_command.specs.declared.statuses.Status.{Status}
use Rattle.dh_imports.specs.Machine.{IsAmong}
use Rattle.dh_imports.specs.Outcomes.{Outcome}
use Rattle.dh_imports.specs.Resolver.{Waits, is_in}
use Rattle.dh_watch_laws.specs.Contents.{Now, IsOver}
use Rattle.dh_watch_laws.specs.Kept.{Kept, known}
use Rattle.dh_watch_laws.specs.Overflowing.{Overflows}
use Rattle.dh_watch_laws.specs.Running.{Runs, stage_at}
use Rattle.dh_watch_laws.specs.VisitCounts.{AreFew}
use Rattle.dh_script_laws.specs.Asks.{root_of, root_key, RootLine, IsAsked}

-- why an ask is refused: a device failed, it visits too many keys, or memory is wanting
pub data Refusal : Type 0 where
  Failed : Refusal
  TooMany : Refusal
  Memory : Refusal

-- how an ask goes from what was kept to what is kept, with this line, this status and so many fetched
pub data Answers (now : Now) (old : Kept) (l : Loc) : Kept → List ℕ → Status → ℕ → Type 0 where
  decided : {s : Kept} {line : List ℕ} {st : Status} {n : ℕ} → Runs old (root_key l) s [] → IsOver now s.recorded
      → n + length old.recorded.texts ≡ length s.recorded.texts → RootLine s.recorded (root_of l) line st → Answers now old l s line st n
  loops : {s : Kept} {line : List ℕ} {st : Status} {n : ℕ} (k y : Key) (xs : List Key) → Runs old (root_key l) s (k ∷ xs)
      → stage_at s k ≡ Waits y → is_in y (k ∷ xs) ≡ true → IsOver now s.recorded
      → n + length old.recorded.texts ≡ length s.recorded.texts → RootLine s.recorded (root_of l) line st → Answers now old l s line st n
  kept : {line : List ℕ} {st : Status} (o : Outcome) → known old.outcomes (root_key l) ≡ Some o → RootLine old.recorded (root_of l) line st → Answers now old l old line st 0

-- each of these locations is one of those
abbrev pub AreAmong : List Loc → List Loc → Type 0
AreAmong xs ys = (x : Loc) → IsAmong x xs → IsAmong x ys

-- An ask in one script over the contents, after these locations were asked there: it has this line, and visits no more keys than are
-- allowed; and there at least so many locations are fetched; exactly so many, if these are all whose texts were kept.
pub record IsAnsweredAs (now : Now) (before after asked : List Loc) (l : Loc) (line : List ℕ) (s : Status) (n : ℕ) : Type 0 where
  pub most : ℕ
  pub new : List Loc
  pub is_asked : IsAsked now asked l line s most new
  pub few : AreFew is_asked.recorded is_asked.units (root_key l)
  pub fewer : n ≤ most
  pub kept : AreAmong (new ++ asked) after
  pub exact : AreAmong before asked → (n ≡ most) × AreAmong after (new ++ asked)

-- An ask before which the texts of the first locations were kept, and after which those of the second are: whichever of the first were
-- asked, it is that ask.
abbrev pub IsAnswered : Now → List Loc → List Loc → Loc → List ℕ → Status → ℕ → Type 0
IsAnswered now before after l line s n = (asked : List Loc) → AreAmong asked before → IsAnsweredAs now before after asked l line s n

-- An ask that was refused: no text that was kept is lost, and where it met too many keys the resolver visits too many.
pub record IsRefused (now : Now) (before after : List Loc) (l : Loc) (fault : Refusal) : Type 0 where
  pub kept : AreAmong before after
  pub many : fault ≡ TooMany → Overflows now (root_key l)
