use Rattle.std.specs.Prelude.{◌||◌, take}
use Rattle.std.proofs.Common.{ap, get_or, sym, ◌∙◌}
use Rattle.std.proofs.lemmas.List.{take_more}
use Rattle.dh_watch_disk.specs.Showing.{are_open, is_open}
use Rattle.dh_watch_disk.proofs.Telling.{open_more}
use Rattle.dh_watch_disk.proofs.told.are_open.Goals as goal

pub loop-one-preserved : goal.loop-one-preserved
loop-one-preserved c =
    let ts = c.args.told.now in
    let i = c.loop-one.one-index in
    ap (λ b. b || c.is_open-open.result) c.loop-one.invariant ∙ ap (λ b. are_open (take i ts) || b) (c.is_open-open.ensures ∙ ap is_open c.one-item.is)
    ∙ sym (ap are_open (take_more ts i c.one-item.result c.loop-one-test.true) ∙ open_more (take i ts) (get_or ts i c.one-item.result))
