use Rattle.std.specs.Prelude.{refl}
use Rattle.std.proofs.Common.{◌∙◌}
use Rattle.dh_infer.proofs.Answering.{refused}
use Rattle.dh_infer.proofs.inference.refusal.Goals as goal

pub returns : goal.returns
returns c = λ units e g left h.
    refused units e g left c.args.failure (record { path = c.of.result; rule = c.args.failure.rule }) (c.of.ensures ∙ c.reverse.ensures.items) refl h
