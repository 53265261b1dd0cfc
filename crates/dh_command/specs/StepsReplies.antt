-- What the command `steps` writes: what is told of its places and its input, as bytes and a status.
use Rattle.std.specs.Prelude.{◌≡◌, ℕ, List, ◌++◌, Some}
use Rattle.std.specs.Result.{result_ok}
use Rattle.dh_command.specs.declared.statuses.Status.TheVariants as status
use Rattle.dh_command.specs.Responses.{Response, answer, fault, line, misspelt}
use Rattle.dh_steps.specs.StepsAnswer.{StepsReply, Misspelt, Stuck, TooLarge, Printed, StepsSucceed}
use Rattle.dh_steps.specs.StepWords.{most_places, operand_places}

-- these operands name these places
abbrev pub AreNamed : List (List ℕ) → List (List ℕ) → Type 0
AreNamed ops places = result_ok (operand_places most_places 1 ops) ≡ Some places

-- the response that says this
abbrev pub steps_response : StepsReply → Response
steps_response (Misspelt f) = misspelt f
steps_response (Stuck text) = fault text status.Step
steps_response (TooLarge text) = fault text status.Limit
steps_response (Printed first second) = answer (line first ++ line second)

-- every step at the places that these operands name can be made
abbrev pub OperandsSucceed : List (List ℕ) → List ℕ → Type 0
OperandsSucceed ops input = (places : List (List ℕ)) × AreNamed ops places × StepsSucceed places input
