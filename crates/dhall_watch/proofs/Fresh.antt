-- Runs over files of the system.
use Rattle.std.proofs.Common.{ℕ, List, [], None, false, refl}
use Rattle.dh_command.specs.declared.statuses.Status.{Status}
use Rattle.dh_command.specs.Responses.{without_memory}
use Rattle.dh_streams.specs.Deliveries.{Delivers}
use Rattle.dh_streams.specs.Streams.{Output}
use Rattle.dh_watch_disk.specs.FilesRuns.{lacks, pausing}
use Rattle.dh_watching.specs.Steps.{state}
use Rattle.dhall_watch.specs.FreshRuns.{FollowsSystem}

-- memory is wanting before anything is watched
pub lacks_at_once : (words : List (List ℕ)) (out err : Output) (s : Status) → Delivers without_memory out err s → FollowsSystem words out err s
lacks_at_once words out err s d = (
  pausing 0 0 false,
  record { before = state None [] 0 0; after = state None [] 0 0; untold = refl; nothing = refl; runs = lacks refl d },
)
