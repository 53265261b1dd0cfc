-- The one line of each reason for which steps are not made, without its line feed, and the lines that tell where steps end.
use Rattle.std.specs.Prelude.{ℕ, List, ◌++◌, codes}
use Rattle.std.specs.Fmt.{decimal}
use Rattle.dh_syntax.specs.FaultLines.{path_text}
use Rattle.dh_steps.specs.declared.faults.StepFault.{StepFault}
use Rattle.dh_steps.specs.declared.faults.StepFault.TheVariants as fault

-- the first node that the fragment does not have, by its place
abbrev pub outside_line : List ℕ → List ℕ
outside_line place = codes "not in the fragment at " ++ path_text place

-- a step by its number, from 1: it has no place, or no rule applies there
abbrev pub no_rule_line : ℕ → List ℕ
no_rule_line n = codes "no rule at step " ++ decimal n

-- a step by its number, from 1: it gives an expression beyond the limits
abbrev pub grown_line : ℕ → List ℕ
grown_line n = codes "grown too large at step " ++ decimal n

-- the line of a reason for which steps are not made
abbrev pub step_fault_line : StepFault → List ℕ
step_fault_line (fault.Outside place) = outside_line place
step_fault_line (fault.NoRule n) = no_rule_line n
step_fault_line (fault.Grown n) = grown_line n
step_fault_line fault.Memory = codes "out of memory"

-- no step leads on from the expression before
abbrev pub settled_line : List ℕ
settled_line = codes "normal"

-- some step leads on from the expression before
abbrev pub unsettled_line : List ℕ
unsettled_line = codes "not normal"
