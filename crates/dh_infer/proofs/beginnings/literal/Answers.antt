use Rattle.dh_infer.specs.declared.frames.State.TheVariants as states
use Rattle.dh_infer.proofs.Modelled.{models-before}
use Rattle.dh_infer.proofs.Readiness.{with_codes, ready-grown, advances-grown}
use Rattle.dh_infer.proofs.Starting.{literal-typed}
use Rattle.dh_infer.proofs.beginnings.literal.Goals as goal

pub returns-clause-ok : goal.returns-clause-ok
returns-clause-ok c =
    let m = c.args.typer.now in
    let cs = c.constant.new.codes in
    let grows = c.in_ok-typed.ensures.grows in
    advances-grown m (with_codes cs m) cs (states.Type c.args.code) (states.Typed c.in_ok-typed.typed) c.args.purse.now.left c.args.purse.now.left grows
    (literal-typed (with_codes cs m) c.args.code c.args.purse.now.left (ready-grown m (states.Type c.args.code) cs grows c.requires.ready) c.args.builtin c.in_ok-typed.typed
    (λ g h. c.requires.form g (models-before m.codes cs g grows h)) c.in_ok-typed.ensures.made)
