use Rattle.dh_infer.proofs.AppliedSteps.{forall-seen}
use Rattle.dh_infer.proofs.functions.function_parts.Goals as goal

pub returns-in-Some-clause-some : goal.returns-in-Some-clause-some
returns-in-Some-clause-some c =
    forall-seen c.args.codes.now c.args.typed c.in-Some.domain c.in-Some.range c.in-Some.field-0-1.now c.requires.there c.in-Some.ensures.older.0 c.in-Some.ensures.older.1 c.in-Some.ensures.view
