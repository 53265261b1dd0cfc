use Rattle.std.proofs.Common.{◌∙◌}
use Rattle.dh_watch_disk.proofs.Rounds.{told_word}
use Rattle.dh_watch_disk.proofs.following.tell_word.Goals as goal

pub returns-in-Ok : goal.returns-in-Ok
returns-in-Ok g c = told_word _ _ _ _ _ (c.as_bytes.ensures.value ∙ c.as_str.ensures.value ∙ c.in-Ok.ensures) c.deliver.ensures
