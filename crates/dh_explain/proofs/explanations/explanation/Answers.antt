use Rattle.std.proofs.Common.{arith}
use Rattle.dh_explain.proofs.Unexplained.{unexplained}
use Rattle.dh_explain.proofs.explanations.explanation.Goals as goal
use Rattle.dh_explain.proofs.explanations.explanation.Goals.{in_default-via-then-rule-lt28+then-rule-lt1, in_default-via-else-rule-lt28+else-rule-lt34+else-rule-lt39+else-rule-lt42+else-rule-lt47+else-rule-lt52+else-rule-lt57}

pub returns-in_default : goal.returns-in_default
returns-in_default c =
    unexplained c.args.rule
    (λ low high. elim c.in_default.branch as (λ _. ⊥) [
      | in_default-via-then-rule-lt28+then-rule-lt1 w ↦ grind (arith, w, low, high)
      | in_default-via-else-rule-lt28+else-rule-lt34+else-rule-lt39+else-rule-lt42+else-rule-lt47+else-rule-lt52+else-rule-lt57 w ↦ grind (arith, w, low, high)
    ])
