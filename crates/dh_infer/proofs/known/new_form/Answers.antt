use Rattle.std.specs.Prelude.{ℕ}
use Rattle.dh_norm.proofs.Running.{handed-on}
use Rattle.dh_syntax.specs.Names.Nameless.{Core}
use Rattle.dh_infer.proofs.KnownForms.{form-kept}
use Rattle.dh_infer.proofs.Remembering.{first-normal, keeps-grown}
use Rattle.dh_infer.proofs.known.new_form.Goals as goal

pub returns-in_err-normal-clause-err : goal.returns-in_err-normal-clause-err
returns-in_err-normal-clause-err c = handed-on c.from_residual.result c.in_err-normal.field-0.0 _ c.from_residual.ensures.1 c.in_err-normal.ensures.err

pub returns-clause-known : goal.returns-clause-known
returns-clause-known c =
    form-kept c.args.codes.now c.normal_code.new.codes c.args.known.now c.first.new.self c.put.new.self c.args.purse.now.left c.normal_code.new.purse.left c.args.code c.in_ok-normal.normal c.in_ok-form.form
    c.in_ok-normal.ensures.grows c.requires.known c.in_ok-normal.ensures.ok (λ g m s. c.in_ok-form.ensures.shared g m s) (λ g m s. c.in_ok-form.ensures.ok g m s) c.in_ok-put.ensures

pub returns-clause-ok : goal.returns-clause-ok
returns-clause-ok c =
    let cs = c.normal_code.new.codes in
    first-normal cs c.args.purse.now.left c.normal_code.new.purse.left (λ (g : ℕ → Core). g c.args.code) c.in_ok-normal.normal c.in_ok-form.form c.in_ok-normal.ensures.ok
    (λ g m. c.in_ok-form.ensures.ok g m (keeps-grown c.args.codes.now cs c.args.known.now c.in_ok-normal.ensures.grows c.requires.known g m).shared)
