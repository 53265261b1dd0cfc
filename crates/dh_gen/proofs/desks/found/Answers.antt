use Rattle.std.proofs.Common.{◌∙◌, ap, arith, length}
use Rattle.dh_gen.proofs.Told.{short_text}
use Rattle.dh_gen.proofs.desks.found.Goals as goal

pub returns-clause-short : goal.returns-clause-short
returns-clause-short c =
    let made = ap length (c.of.ensures ∙ (ap (λ v. v.items) c.into_bytes.ensures.value ∙ c.in_ok-text.ensures)) in
    let short = short_text c.args.number (omega (arith, c.ranges.number)) in
    omega (arith, made, short)
