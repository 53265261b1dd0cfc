use Rattle.std.proofs.Common.{arith}
use Rattle.std.proofs.lemmas.Result.{IfOk-weaker, IfErr-weaker}
use Rattle.dh_store.specs.Cells.{code_core}
use Rattle.dh_infer.proofs.KnownForms.{form-found, form-known, form-stopped}
use Rattle.dh_infer.proofs.Modelled.{models-itself}
use Rattle.dh_infer.proofs.Remembering.{sharing-kept}
use Rattle.dh_infer.proofs.known.known_form.Goals as goal

pub seen_form-requires-clause-there : goal.seen_form-requires-clause-there
seen_form-requires-clause-there c =
    let cs = c.args.codes.now in
    let g = code_core cs in
    let m = models-itself cs in
    let o = (c.in_ok-number.ensures.ok g m (c.requires.known g m).shared).older in
    let l = c.requires.there in
    omega (arith, o, l)

pub seen_form-requires-clause-known : goal.seen_form-requires-clause-known
seen_form-requires-clause-known c = λ g m.
    let k = c.requires.known g m in
    sharing-kept g c.args.known.now c.first.new.self k (c.in_ok-number.ensures.shared g m k.shared)

pub returns-in-Some-clause-known : goal.returns-in-Some-clause-known
returns-in-Some-clause-known c = λ g m.
    let k = c.requires.known g m in
    sharing-kept g c.args.known.now c.first.new.self k (c.in_ok-number.ensures.shared g m k.shared)

pub returns-in-Some-clause-ok : goal.returns-in-Some-clause-ok
returns-in-Some-clause-ok c =
    form-known c.args.codes.now c.args.code c.in_ok-number.number (λ g m. c.in_ok-number.ensures.ok g m (c.requires.known g m).shared) c.args.purse.now.left c.in-Some.form c.in-Some.ensures.there
    (λ g m.
    let k = c.requires.known g m in
    c.in-Some.ensures.form g (sharing-kept g c.args.known.now c.first.new.self k (c.in_ok-number.ensures.shared g m k.shared)))

pub returns-in-None-clause-ok : goal.returns-in-None-clause-ok
returns-in-None-clause-ok c =
    IfOk-weaker c.seen_form.result _ _
    (λ k n. form-found c.args.codes.now c.args.code c.in_ok-number.number (λ g m. c.in_ok-number.ensures.ok g m (c.requires.known g m).shared) c.seen_form.new.codes c.args.purse.now.left c.seen_form.new.purse.left k
    c.seen_form.ensures.grows n)
    c.seen_form.ensures.ok

pub returns-in-None-clause-err : goal.returns-in-None-clause-err
returns-in-None-clause-err c =
    IfErr-weaker c.seen_form.result _ _
    (λ h s. form-stopped c.args.codes.now c.args.code c.in_ok-number.number (λ g m. c.in_ok-number.ensures.ok g m (c.requires.known g m).shared) c.args.purse.now.left h s)
    c.seen_form.ensures.err
