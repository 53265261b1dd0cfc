use Rattle.std.proofs.Common.{◌++◌, ◌∙◌, ap, codes, refl}
use Rattle.dh_script_laws.specs.Scripts.{refusal_text}
use Rattle.dh_streams.proofs.Joining.{around, both-err, first-err}
use Rattle.dh_watching.specs.Steps.{refusal_of}
use Rattle.dh_watching.proofs.asking.write_refusal.Goals as goal

pub returns-in-Ok-clause-err : goal.returns-in-Ok-clause-err
returns-in-Ok-clause-err g c =
    let joined = around c.as_bytes.result.now (c.as_bytes-in-Ok.result.now ++ codes "\n") c.args.place.now (refusal_text (refusal_of c.args.fault) ++ codes "\n") (codes ": ")
    c.as_bytes.ensures.value (ap (λ t. t ++ codes "\n") (c.as_bytes-in-Ok.ensures.value ∙ c.refusal_text.ensures)) in
    both-err _ _ _ _ _ _ _ _ _ joined _ c.in-Ok.ensures.ok c.write_both-in-Ok.ensures.err

pub returns-in-Err-clause-err : goal.returns-in-Err-clause-err
returns-in-Err-clause-err g c =
    let told = refusal_text (refusal_of c.args.fault) ++ codes "\n" in
    first-err _ _ _ _ _ told _ (around c.as_bytes.result.now told c.args.place.now told (codes ": ") c.as_bytes.ensures.value refl) c.in-Err.ensures.err
