use Rattle.std.proofs.Common.{sym, ap, ◌∙◌}
use Rattle.dh_grammar.specs.Machine.{after}
use Rattle.dh_reader.proofs.Extending.{extends_is}
use Rattle.dh_reader.proofs.Following.{follows}
use Rattle.dh_reader.specs.Inside.Extends.{extends}
use Rattle.dh_reader.specs.Stacks.{stack_of}
use Rattle.dh_reader.specs.States.{held_of, state_of}
use Rattle.dh_reader.proofs.reader.Reader.after.Goals as goal

pub returns-in-Have : goal.returns-in-Have
returns-in-Have g c =
    let v = g.M.Makes.views in
    let reader = c.args.self.now in
    let m = g.M.Makes.makes reader.at in
    let k = c.args.kind in
    follows v _ _ c.extend.new.reader c.extend.result
    (ap (λ top. after m k (state_of v reader.frames top)) c.in-Have.is
    ∙ sym (extends_is m k (stack_of v reader.frames) (held_of v c.in-Have.field-0))
    ∙ ap (λ top. extends m k (state_of v reader.frames top)) (sym c.in-Have.is))
    c.extend.ensures
