-- How an ask is answered.
use Rattle.std.specs.Prelude.{◌≡◌, ◌<◌, List, length, Some}
use Rattle.dh_syntax.specs.declared.locations.Key.{Key}
use Rattle.dh_syntax.specs.Limits.{most_keys}
use Rattle.dh_imports.specs.Outcomes.{Outcome, Loop}
use Rattle.dh_imports.specs.Resolver.{Resolves}
use Rattle.dh_watch_laws.specs.Kept.{Kept, known}
use Rattle.dh_watch_runs.specs.declared.deciding.End.{End}
use Rattle.dh_watch_runs.specs.declared.deciding.End.TheVariants as ends
use Rattle.dh_watch_runs.specs.declared.deciding.Stop.{Stop}
use Rattle.dh_watch_runs.specs.declared.deciding.Stop.TheVariants as stops
use Rattle.dh_watch_runs.specs.Resolving.{named, HasStopped, HasMany}

-- to this the root comes: it has an outcome, or comes to a loop with this least key
abbrev pub ComesTo : Key → List Key → Kept → End → Type 0
ComesTo root keys s ends.Decided = (o : Outcome) × (known s.outcomes root ≡ Some o)
ComesTo root keys s (ends.Loop n) = (n < length keys) × Resolves s.recorded root (Loop (named keys n))

-- it was refused
abbrev pub IsRefused : Kept → Key → Kept → Stop → Type 0
IsRefused old root s stop = HasStopped old root s × (stop ≡ stops.TooMany → HasMany most_keys old root s)
