-- How a run ends.
use Rattle.std.specs.Prelude.{◌<◌, ℕ, List, [], length, All}
use Rattle.dh_syntax.specs.declared.locations.Key.{Key}
use Rattle.dh_watch_runs.specs.declared.deciding.End.{End}
use Rattle.dh_watch_runs.specs.declared.deciding.End.TheVariants as ends
use Rattle.dh_watch_runs.specs.declared.deciding.Stop.{Stop}
use Rattle.dh_watch_runs.specs.declared.deciding.Stop.TheVariants as stops
use Rattle.dh_watch_runs.specs.declared.resolving.Refusal.{Refusal}
use Rattle.dh_watch_runs.specs.declared.resolving.Refusal.TheVariants as refusals
use Rattle.dh_watch_laws.specs.Kept.{Kept}
use Rattle.dh_watch_laws.specs.Running.{Runs}
use Rattle.dh_watch_laws.specs.VisitCounts.{ClosesLoop}
use Rattle.dh_watch_runs.specs.Resolving.{named, trail_of, HasLooped}

-- why a run stops, by why it was refused
abbrev pub stop_of : Refusal → Stop
stop_of refusals.Failed = stops.Failed
stop_of refusals.Memory = stops.Memory

-- a run from the root over what was kept has come to this end
abbrev pub HasEnded : Kept → Key → List Key → Kept → End → Type 0
HasEnded old root keys s ends.Decided = Runs old root s []
HasEnded old root keys s (ends.Loop least) = (least < length keys) × HasLooped old root s (named keys least)

-- where it comes to a loop, its trail is the chain of that
abbrev pub LeavesChain : Key → List Key → Kept → List ℕ → End → Type 0
LeavesChain root keys s trail ends.Decided = Unit {0}
LeavesChain root keys s trail (ends.Loop n) = All (λ (m : ℕ). m < length keys) trail × ClosesLoop s root (trail_of keys trail) (named keys n)
