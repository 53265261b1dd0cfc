use Rattle.dh_infer.proofs.Remembering.{facts-kept, waited}
use Rattle.dh_infer.proofs.known.remember.Goals as goal

pub returns-in_ok-keep-in-Some : goal.returns-in_ok-keep-in-Some
returns-in_ok-keep-in-Some c = λ g m.
    let k = c.requires.known g m in
    facts-kept g c.args.known.now c.keep.new.self k
    (c.in_ok-keep-in-Some.ensures g k.facts
    (waited c.args.typer.now c.args.frame.now c.in-Some.code c.args.typed c.args.purse.now.left c.requires.ready c.requires.at_work c.in-Some.ensures g m))
