use Rattle.std.specs.Prelude.{take}
use Rattle.std.proofs.Common.{ap, get_or, sym, ◌∙◌}
use Rattle.std.proofs.lemmas.List.{take_more}
use Rattle.dh_script_laws.specs.Scripts.{first_fault}
use Rattle.dh_watch_disk.specs.Showing.{status_of, told_status}
use Rattle.dh_watch_disk.proofs.Telling.{status_more}
use Rattle.dh_watch_disk.proofs.told.status_of.Goals as goal

pub loop-one-preserved : goal.loop-one-preserved
loop-one-preserved c =
    let ts = c.args.told.now in
    let i = c.loop-one.one-index in
    c.first_fault-status.ensures ∙ ap (λ s. first_fault s c.status.result) c.loop-one.invariant ∙ ap (first_fault (status_of (take i ts))) (c.status.ensures ∙ ap told_status c.one-item.is)
    ∙ sym (ap status_of (take_more ts i c.one-item.result c.loop-one-test.true) ∙ status_more (take i ts) (get_or ts i c.one-item.result))
