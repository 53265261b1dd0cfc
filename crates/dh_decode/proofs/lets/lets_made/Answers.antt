use Rattle.std.proofs.Common.{◌∙◌}
use Rattle.dh_decode.proofs.LetLaws.{lets_next}
use Rattle.dh_decode.proofs.lets.lets_made.Goals as goal

pub loop-bound-preserved : goal.loop-bound-preserved
loop-bound-preserved c = lets_next _ _ c.in-Some.bound _ _ c.in-Some.ensures.items c.in_ok-made.ensures ∙ c.loop-bound.invariant
