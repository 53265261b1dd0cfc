use Rattle.dh_infer.proofs.Starting.{free-unbound}
use Rattle.dh_infer.proofs.beginnings.free.Goals as goal

pub returns : goal.returns
returns c = free-unbound c.args.typer.now c.args.code c.args.purse.now.left c.requires.ready c.refuse.result c.refuse.ensures c.requires.form
