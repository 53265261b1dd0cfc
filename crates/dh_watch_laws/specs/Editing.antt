-- That what is kept agrees with the contents, and what an edit leaves of it.
use Rattle.std.specs.Prelude.{if◌then◌else◌, List, [], ◌∷◌, ◌≡◌, ◌↔◌, Some, ℕ, false, None}
use Rattle.dh_syntax.specs.declared.locations.Loc.{Loc}
use Rattle.dh_syntax.specs.Expressions.SameTree.{loc_eq}
use Rattle.dh_imports.specs.Machine.{IsAmong}
use Rattle.dh_imports.specs.Records.{Noted, text_at, lookup, Seen, look_at}
use Rattle.dh_watch_laws.specs.Kept.{Kept, IsSound}
use Rattle.dh_watch_laws.specs.Contents.{Now, IsOver, dropped, set, IsTold}
use Rattle.dh_watch_laws.specs.Sweeping.{swept, AreOf}
use Rattle.dh_syntax.specs.declared.locations.Digest.{Digest}
use Rattle.dh_syntax.specs.declared.locations.Key.{Key}
use Rattle.dh_watch_laws.specs.Running.{Runs}
use Rattle.dh_imports.specs.Records as found

-- the asked locations but for one that is edited
abbrev pub edited : Loc → List Loc → List Loc
edited l [] = []
edited l (x ∷ xs) = if loc_eq x l then edited l xs else x ∷ edited l xs

-- what is kept is of the contents as they now are, and the texts that are kept are those that were asked
pub record Agrees (now : Now) (asked : List Loc) (s : Kept) : Type 0 where
  pub sound : IsSound s
  pub over : IsOver now s.recorded
  pub asked_are_kept : (l : Loc) → IsAmong l asked ↔ ((t : Noted) × (text_at s.recorded l ≡ Some t))

-- the texts but for that of a location
abbrev pub texts_without : Loc → List (Loc × Noted) → List (Loc × Noted)
texts_without l [] = []
texts_without l (p ∷ ps) = if loc_eq p.0 l then texts_without l ps else p ∷ texts_without l ps

-- what is left after an edit at this location
abbrev pub after_edit : Loc → Kept → Kept
after_edit l s = swept (texts_without l s.recorded.texts) s

-- After an edit what is left agrees with the contents as they then are.
abbrev pub EditsAgree : Type 0
EditsAgree =
    (now : Now) (asked : List Loc) (s : Kept) (l : Loc) (bytes : List ℕ) → Agrees now asked s
    → Agrees (set l bytes now) (edited l asked) (after_edit l s) × Agrees (dropped l now) (edited l asked) (after_edit l s)

-- These texts are left of what was kept, and agree with the contents as they now are.
pub record AgreesLater (now : Now) (asked : List Loc) (texts : List (Loc × Noted)) (s : Kept) : Type 0 where
  pub sound : IsSound s
  pub left : AreOf texts s.recorded.texts
  pub told : (l : Loc) (t : Noted) → lookup loc_eq texts l ≡ Some t → IsTold (lookup loc_eq now l) t
  pub misses : (d : Digest) (look : Seen) → look_at s.recorded d ≡ Some look → look ≡ found.Miss
  pub asked_are_left : (l : Loc) → IsAmong l asked ↔ ((t : Noted) × (lookup loc_eq texts l ≡ Some t))

-- Edits take texts away alone, whatever order the others are left in; one sweep before the next ask does for all.
abbrev pub EditsAgreeLater : Type 0
EditsAgreeLater =
    (now now' : Now) (asked : List Loc) (texts texts' : List (Loc × Noted)) (s : Kept) (l : Loc) → AgreesLater now asked texts s
    → lookup loc_eq texts' l ≡ None → ((x : Loc) → loc_eq l x ≡ false → lookup loc_eq texts' x ≡ lookup loc_eq texts x)
    → ((x : Loc) → loc_eq l x ≡ false → lookup loc_eq now' x ≡ lookup loc_eq now x)
    → AgreesLater now' (edited l asked) texts' s

-- What agrees also agrees before a sweep, with its own texts; and what agrees before a sweep agrees after it.
abbrev pub AgreesLaterThenSwept : Type 0
AgreesLaterThenSwept =
    (now : Now) (asked : List Loc) (texts : List (Loc × Noted)) (s : Kept)
    → (Agrees now asked s → AgreesLater now asked s.recorded.texts s) × (AgreesLater now asked texts s → Agrees now asked (swept texts s))

-- what is kept is of the contents as they now are, and has at least the texts that these asks asked
pub record AgreesMore (now : Now) (asked : List Loc) (s : Kept) : Type 0 where
  pub sound : IsSound s
  pub over : IsOver now s.recorded
  pub asked_are_kept : (l : Loc) → IsAmong l asked → (t : Noted) × (text_at s.recorded l ≡ Some t)

-- A run that is refused leaves what agrees with the contents, with no less than before.
abbrev pub RefusedAgree : Type 0
RefusedAgree =
    (now : Now) (asked : List Loc) (old s : Kept) (root : Key) (trail : List Key)
    → AgreesMore now asked old → Runs old root s trail → IsOver now s.recorded → AgreesMore now asked s

-- the locations of these texts
abbrev pub locs_of : List (Loc × Noted) → List Loc
locs_of [] = []
locs_of (p ∷ ps) = p.0 ∷ locs_of ps
