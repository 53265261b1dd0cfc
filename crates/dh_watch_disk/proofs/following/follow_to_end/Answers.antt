use Rattle.std.proofs.Common.{ap, ◌∙◌}
use Rattle.dh_streams.proofs.Joining.{gains-nothing}
use Rattle.dh_watch_disk.proofs.Rounds.{run_halted, run_through}
use Rattle.dh_watch_disk.specs.Showing.{status_of}
use Rattle.dh_watch_disk.proofs.following.follow_to_end.Goals as goal

pub returns-in-Ok-follow-clause-runs : goal.returns-in-Ok-follow-clause-runs
returns-in-Ok-follow-clause-runs g c =
    λ words named. run_through words _ named _ _ _ _ _ _ _ c.in-Ok-follow.ensures.shows (gains-nothing _ _) (c.status_of.ensures ∙ ap status_of c.as_slice-in-Ok-follow.ensures.value)

pub returns-clause-runs : goal.returns-clause-runs
returns-clause-runs g c = λ words named. run_halted words _ named _ _ _ _ _ _ c.in-Err.halt c.in-Err.ensures.halts c.end.ensures
