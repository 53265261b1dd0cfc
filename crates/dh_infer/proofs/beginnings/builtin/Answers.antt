use Rattle.std.specs.Prelude.{option_map}
use Rattle.std.proofs.Common.{ap, sym, ◌∙◌}
use Rattle.dh_store.specs.Cells.{code_core}
use Rattle.dh_infer.specs.declared.frames.State.TheVariants as states
use Rattle.dh_infer.proofs.Modelled.{models-before}
use Rattle.dh_infer.proofs.Readiness.{with_codes, ready-grown, advances-grown}
use Rattle.dh_infer.proofs.Starting.{builtin-typed, builtin-refused, some-there}
use Rattle.dh_store.specs.Growth.{count}
use Rattle.dh_infer.proofs.beginnings.builtin.Goals as goal

pub returns-in-Some-clause-ok : goal.returns-in-Some-clause-ok
returns-in-Some-clause-ok c =
    let m = c.args.typer.now in
    let cs = c.type_of.new.codes in
    let grows = c.in_ok-typed.ensures.grows in
    advances-grown m (with_codes cs m) cs (states.Type c.args.code) (states.Typed c.in-Some.typed) c.args.purse.now.left c.args.purse.now.left grows
    (builtin-typed (with_codes cs m) c.args.code c.args.purse.now.left (ready-grown m (states.Type c.args.code) cs grows c.requires.ready) c.args.builtin
    (λ g h. c.requires.form g (models-before m.codes cs g grows h)) c.in-Some.typed
    (some-there (count cs) c.in_ok-typed.field-0 c.in-Some.typed c.in-Some.is c.in_ok-typed.ensures.there)
    (sym (ap (option_map (code_core cs)) c.in-Some.is) ∙ c.in_ok-typed.ensures.core))

pub returns-in-None-clause-ok : goal.returns-in-None-clause-ok
returns-in-None-clause-ok c =
    let m = c.args.typer.now in
    let cs = c.type_of.new.codes in
    let grows = c.in_ok-typed.ensures.grows in
    advances-grown m (with_codes cs m) cs (states.Type c.args.code) c.refuse.result c.args.purse.now.left c.args.purse.now.left grows
    (builtin-refused (with_codes cs m) c.args.code c.args.purse.now.left (ready-grown m (states.Type c.args.code) cs grows c.requires.ready) c.args.builtin
    (λ g h. c.requires.form g (models-before m.codes cs g grows h)) c.refuse.result c.refuse.ensures
    (sym (ap (option_map (code_core cs)) c.in-None.is) ∙ c.in_ok-typed.ensures.core))
