use Rattle.dh_infer.proofs.LetSteps.{let-left}
use Rattle.dh_infer.proofs.Opening.{popped}
use Rattle.dh_infer.proofs.lets.let_body.Goals as goal

pub returns : goal.returns
returns c =
    let m = c.args.typer.now in
    let-left m c.args.part c.args.typed c.args.purse.now.left c.requires.ready c.pop.new.self (popped m.scope c.pop.new.self c.pop.result c.pop.ensures.some c.pop.ensures.none c.pop.ensures.left)
