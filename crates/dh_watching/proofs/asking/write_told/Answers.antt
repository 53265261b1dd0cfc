use Rattle.std.proofs.Common.{◌≡◌, ◌++◌, ◌∙◌, ap, codes, refl}
use Rattle.std.specs.Fmt.{decimal}
use Rattle.dh_streams.proofs.Joining.{around, both-err, first-err}
use Rattle.dh_watching.proofs.asking.write_told.Goals as goal

pub returns-in-Ok-clause-err : goal.returns-in-Ok-clause-err
returns-in-Ok-clause-err g c =
    let digits : c.format.result.now ≡ decimal c.args.line.now.asked = c.format.ensures.text in
    let joined = around c.as_bytes.result.now (c.as_bytes-in-Ok.result.now ++ codes ")\n") c.args.line.now.text (decimal c.args.line.now.asked ++ codes ")\n") (codes " (asked ")
    (c.as_bytes.ensures.value ∙ c.as_str.ensures) (ap (λ t. t ++ codes ")\n") (c.as_bytes-in-Ok.ensures.value ∙ digits)) in
    both-err _ _ _ _ _ _ _ _ _ joined _ c.in-Ok.ensures.ok c.write_both-in-Ok.ensures.err

pub returns-in-Err-clause-err : goal.returns-in-Err-clause-err
returns-in-Err-clause-err g c =
    let told = decimal c.args.line.now.asked ++ codes ")\n" in
    first-err _ _ _ _ _ told _ (around c.as_bytes.result.now told c.args.line.now.text told (codes " (asked ") (c.as_bytes.ensures.value ∙ c.as_str.ensures) refl) c.in-Err.ensures.err
