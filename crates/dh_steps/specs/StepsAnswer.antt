-- What the command `steps` tells of its places and its input.
use Rattle.std.specs.Prelude.{◌≡◌, ℕ, List, Some, None, Ok, Err}
use Rattle.dh_syntax.specs.declared.faults.ParseFault.{ParseFault}
use Rattle.dh_syntax.specs.Expressions.Tree.{Term}
use Rattle.dh_syntax.specs.Normalising.Named.{names}
use Rattle.dh_syntax.specs.Normalising.Steps.{IsSettled}
use Rattle.dh_syntax.specs.Text.Printed.{text_of}
use Rattle.dh_syntax.specs.Text.Spelling.{ParsesTo}
use Rattle.dh_steps.specs.Outside.{first_outside}
use Rattle.dh_steps.specs.StepLines.{outside_line, no_rule_line, grown_line, settled_line, unsettled_line}
use Rattle.dh_steps.specs.StepRuns.{Ends, NoRow, Grows, outcome, IsEnd}

-- what is told; lines are without their line feeds
pub data StepsReply : Type 0 where
  -- the input spells no expression
  Misspelt : ParseFault → StepsReply
  -- a step cannot be made, with the line that tells why
  Stuck : List ℕ → StepsReply
  -- a step would give an expression beyond the limits, with the line that tells it
  TooLarge : List ℕ → StepsReply
  -- the line of the expression after all steps, and the line that tells whether a step leads on from it
  Printed : List ℕ → List ℕ → StepsReply

-- What `steps` tells of the steps at these places, one after another, of the expression that the input spells.
pub data StepsAnswer (places : List (List ℕ)) (input : List ℕ) (w : StepsReply) : Type 0 where
  spells_none : (f : ParseFault) → ParsesTo input (Err f) → w ≡ Misspelt f → StepsAnswer places input w
  is_outside : (e : Term) (place : List ℕ) → ParsesTo input (Ok e) → first_outside e ≡ Some place → w ≡ Stuck (outside_line place)
      → StepsAnswer places input w
  has_no_rule : (e : Term) (n : ℕ) → ParsesTo input (Ok e) → first_outside e ≡ None → outcome 0 places e ≡ NoRow n → w ≡ Stuck (no_rule_line n)
      → StepsAnswer places input w
  grows : (e : Term) (n : ℕ) → ParsesTo input (Ok e) → first_outside e ≡ None → outcome 0 places e ≡ Grows n → w ≡ TooLarge (grown_line n)
      → StepsAnswer places input w
  -- no step leads on: so all steps of the expression that end end here, at its normal form if it has one (`IsEnd`)
  is_normal : (e f : Term) → ParsesTo input (Ok e) → first_outside e ≡ None → outcome 0 places e ≡ Ends f → IsEnd e places f → IsSettled names f
      → w ≡ Printed (text_of f) settled_line → StepsAnswer places input w
  is_not_normal : (e f : Term) → ParsesTo input (Ok e) → first_outside e ≡ None → outcome 0 places e ≡ Ends f → IsEnd e places f → ¬ IsSettled names f
      → w ≡ Printed (text_of f) unsettled_line → StepsAnswer places input w

-- the command answers this input with an expression and status 0
abbrev pub StepsSucceed : List (List ℕ) → List ℕ → Type 0
StepsSucceed places input = (e : Term) × (f : Term) × ParsesTo input (Ok e) × (first_outside e ≡ None) × (outcome 0 places e ≡ Ends f)
