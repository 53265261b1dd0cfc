use Rattle.std.proofs.Common.{map, string_bytes, subst, sym}
use Rattle.dh_watch_disk.proofs.Rounds.{misused}
use Rattle.dh_watch_disk.specs.Inside.Rounds.{IsMisusedBy}
use Rattle.dh_watch_disk.specs.Words.{Name}
use Rattle.dh_watch_disk.proofs.following.watch_files.Goals as goal

pub returns-in-Ok-clause-runs : goal.returns-in-Ok-clause-runs
returns-in-Ok-clause-runs g c =
    c.follow_to_end.ensures.runs _ (subst (Name (map string_bytes c.args.words.now)) (sym c.as_slice.ensures.value) c.in-Ok.ensures.named)

pub returns-in-Err-Word-clause-runs : goal.returns-in-Err-Word-clause-runs
returns-in-Err-Word-clause-runs g c =
    misused _ _ _ _ _ _ _ (subst (IsMisusedBy (map string_bytes c.args.words.now)) c.in-Err-Word.field-0-is c.in-Err-Word.ensures.misused) c.tell_word.ensures
