-- Scripts.
use Rattle.std.specs.Prelude.{◌≡◌, ◌++◌, ℕ, Bool, true, List, [], ◌∷◌, refl}
use Rattle.std.proofs.Common.{sym, subst}
use Rattle.dh_syntax.specs.declared.locations.Loc.{Loc}
use Rattle.dh_command.specs.declared.statuses.Status.{Status}
use Rattle.dh_watch_laws.specs.Contents.{Now}
use Rattle.dh_watch_laws.specs.ScriptLines.{Order}
use Rattle.dh_script_laws.specs.Answering.{Refusal}
use Rattle.dh_script_laws.specs.Asks.{IsAsked}
use Rattle.dh_script_laws.specs.Scripts as watched
use Rattle.dh_script_laws.specs.Scripts.{Watched, Tried, ends, sets, drops, asks, refuses, TriedIsWatched}

cons_nil : {A P : Type 0} {a : A} {xs : List A} → a ∷ xs ≡ [] → P
cons_nil p = cc

all : {now : Now} {asked : List Loc} {exact : Bool} {orders : List Order} {out : List ℕ} {s : Status} {refused : List Refusal}
    → Tried now asked exact orders out s refused → exact ≡ true → refused ≡ [] → Watched now asked orders out s
all ends e n = watched.ends
all (sets t) e n = watched.sets (all t e n)
all (drops t) e n = watched.drops (all t e n)
all (asks {now = now} {asked = asked} {new = new} {l = l} {line = line} {s = s} {n = n} x few f g t) e r =
    watched.asks (subst (λ m. IsAsked now asked l line s m new) (sym (g e)) x) (all t e r)
all (refuses f g t) e n = cons_nil n

pub tried_is_watched : TriedIsWatched
tried_is_watched now asked orders out s t = all t refl refl
