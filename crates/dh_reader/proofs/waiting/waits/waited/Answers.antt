use Rattle.std.proofs.Common.{sym, ap, ◌∙◌}
use Rattle.dh_grammar.specs.Machine.{after}
use Rattle.dh_reader.specs.Stacks.{stack_of}
use Rattle.dh_reader.specs.States.{state_of, wait_of}
use Rattle.dh_reader.proofs.Following.{follows}
use Rattle.dh_reader.proofs.Nexts.{next_is}
use Rattle.dh_reader.proofs.waiting.waits.waited.Goals as goal

pub returns : goal.returns
returns g c =
    let v = g.M.Makes.views in
    let reader = c.args.reader.now in
    let m = g.M.Makes.makes reader.at in
    follows v _ _ c.awaited.new.reader c.awaited.result
    (ap (λ top. after m c.args.kind (state_of v reader.frames top)) c.take_wait-wait.ensures.taken
    ∙ sym (next_is m (wait_of v c.take_wait-wait.result) c.args.kind (stack_of v reader.frames)))
    c.awaited.ensures
