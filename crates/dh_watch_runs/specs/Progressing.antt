-- How far a key has come.
use Rattle.std.specs.Prelude.{◌≡◌, true, List}
use Rattle.dh_syntax.specs.declared.locations.Key.{Key}
use Rattle.dh_imports.specs.Resolver.{Stage}
use Rattle.dh_watch_runs.specs.declared.resolving.Progress.{Progress}
use Rattle.dh_watch_runs.specs.declared.resolving.Progress.TheVariants as progress
use Rattle.dh_watch_laws.specs.Sweeping.{is_due}
use Rattle.dh_watch_runs.specs.Resolving.{IsWait}

-- a key at this stage has come so far: it is due, or it waits for the key of this number
abbrev pub IsProgress : List Key → Stage → Progress → Type 0
IsProgress keys s progress.Due = is_due s ≡ true
IsProgress keys s (progress.Wait n) = IsWait keys s n
