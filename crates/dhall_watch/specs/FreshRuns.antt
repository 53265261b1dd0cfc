-- Runs of the program on scripts, and on files that others edit.
use Rattle.std.specs.Prelude.{◌≡◌, ℕ, List, [], Some, None}
use Rattle.dh_command.specs.declared.statuses.Status.{Status}
use Rattle.dh_streams.specs.Streams.{Input, Output}
use Rattle.dh_watch_disk.specs.FilesRuns.{Pausing, RunsFiles}
use Rattle.dh_watching.specs.Runs.{Runs}
use Rattle.dh_watching.specs.Steps.{State}

-- One run from contents that are told and empty, with nothing kept.
pub record RunsFresh (words : List (List ℕ)) (input : Input) (out err : Output) (s : Status) : Type 0 where
  pub before : State
  pub after : State
  pub empty : before.told ≡ Some []
  pub nothing : before.kept ≡ []
  pub runs : Runs words input before after out err s

-- One run over files that others edit, of which nothing is told and nothing kept.
pub record FollowsFresh (words : List (List ℕ)) (p : Pausing) (out err : Output) (s : Status) : Type 0 where
  pub before : State
  pub after : State
  pub untold : before.told ≡ None
  pub nothing : before.kept ≡ []
  pub runs : RunsFiles words before after p out err s

-- the same, with pauses of its own
abbrev pub FollowsSystem : List (List ℕ) → Output → Output → Status → Type 0
FollowsSystem words out err s = (p : Pausing) × FollowsFresh words p out err s
