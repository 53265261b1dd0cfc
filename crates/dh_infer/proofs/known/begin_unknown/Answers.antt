use Rattle.dh_infer.proofs.Remembering.{type-known}
use Rattle.dh_infer.proofs.known.begin_unknown.Goals as goal

pub returns-in-Some-clause-ok : goal.returns-in-Some-clause-ok
returns-in-Some-clause-ok c =
    type-known c.args.typer.now c.args.code c.seen.result c.args.purse.now.left c.requires.ready (λ g m. c.seen.ensures g (c.requires.known g m).shared) c.in-Some.typed c.in-Some.ensures.there
    (λ g m. c.in-Some.ensures.typed g (c.requires.known g m).facts)
