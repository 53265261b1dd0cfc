use Rattle.std.proofs.Common.{◌++◌, codes, refl}
use Rattle.std.specs.Fmt.{decimal}
use Rattle.dh_streams.proofs.Joining.{around, both-err, first-err}
use Rattle.dh_watching.proofs.asking.write_answer.Goals as goal

pub returns-in-Ok-clause-err : goal.returns-in-Ok-clause-err
returns-in-Ok-clause-err g c =
    let told = c.args.line.now.text ++ (codes " (asked " ++ (decimal c.args.line.now.asked ++ codes ")\n")) in
    both-err _ _ _ _ _ _ _ _ _ (around c.as_bytes.result.now told c.args.place.now told (codes ": ") c.as_bytes.ensures.value refl) _ c.in-Ok.ensures.ok c.write_told.ensures.err

pub returns-in-Err-clause-err : goal.returns-in-Err-clause-err
returns-in-Err-clause-err g c =
    let told = c.args.line.now.text ++ (codes " (asked " ++ (decimal c.args.line.now.asked ++ codes ")\n")) in
    first-err _ _ _ _ _ told _ (around c.as_bytes.result.now told c.args.place.now told (codes ": ") c.as_bytes.ensures.value refl) c.in-Err.ensures.err
