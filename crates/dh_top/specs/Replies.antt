-- A reply of the program as what it has to write.
use Rattle.std.specs.Prelude.{◌≡◌, ℕ, ◌<◌, List, Option, Some, Result, Ok, Err}
use Rattle.dh_command.specs.declared.commands.Command.{Command}
use Rattle.dh_syntax.specs.declared.faults.Ill.{Ill}
use Rattle.dh_syntax.specs.declared.locations.Key.{Key}
use Rattle.dh_command.specs.declared.statuses.Status.TheVariants as status
use Rattle.dh_command.specs.declared.verbs.Verb.{Verb}
use Rattle.dh_command.specs.Answer.{DoesAll}
use Rattle.dh_command.specs.Responses.{Response, answer, fault, line}
use Rattle.dh_imports.specs.ImportFaults.{in_item}
use Rattle.dh_command.specs.PlacedFaults.{ill_line_at}
use Rattle.dh_command.specs.Words.{Word, command_of, operand_words}
use Rattle.dh_explain.specs.RuleWords.{operand_text}
use Rattle.dh_json.specs.FaultLines.{no_json_line}
use Rattle.dh_steps.specs.declared.faults.StepFault.{StepFault}
use Rattle.dh_steps.specs.declared.faults.StepFault.TheVariants as step
use Rattle.dh_command.specs.StepsReplies.{steps_response}
use Rattle.dh_steps.specs.StepsAnswer.{StepsAnswer, StepsReply}
use Rattle.dh_steps.specs.StepLines.{outside_line, no_rule_line, grown_line}
use Rattle.dh_syntax.specs.Expressions.Tree.{Term}
use Rattle.dh_imports.specs.Records.{Record}
use Rattle.dh_imports.specs.Replay.{RootEnd, root_end}
use Rattle.dh_imports.specs.RootEnds.{EndsBy}
use Rattle.dh_syntax.specs.Text.Spans.{Spans, SpellsAt}
use Rattle.serde_json.specs.Data.{Data}
use Rattle.serde_json.specs.Written.{compact_text}
use Rattle.dh_table.specs.declared.answers.roots.Ended.{Ended}
use Rattle.dh_table.specs.Roots.{IsEnd, IsFitEnd}
use Rattle.dh_table.specs.Shown.{Shown}
use Rattle.dh_table.specs.States.{record_of, state_of}
use Rattle.dh_top.specs.Outside.{Outside, Finds, all_failures}
use Rattle.dh_streams.specs.Streams.{Input}
use Rattle.dh_top.specs.Runs.{DeskFailed, LacksMemory, Makes}
use Rattle.dh_top.specs.declared.replies.Reply.{Reply}

-- what a reply writes on each output, and its status
abbrev pub written : Reply → Response
written r = record { out = r.out.items; err = r.err.items; status = r.status }

-- it tells a place without a type by a path in a text of an item
pub record TellsPlace (at : Option Key) (text : List ℕ) (e : Term) (path : List ℕ) (ill : Ill) (w : Response) : Type 0 where
  pub nodes : Spans
  pub stand : SpellsAt text e nodes
  pub written_is : w ≡ fault (in_item at (ill_line_at text nodes path ill)) status.Ill

-- a closed table, whose root ends so
pub record IsClosed (table : Shown) (ended : Ended) : Type 0 where
  pub end : RootEnd
  pub at_end : root_end (state_of table) ≡ Some end
  pub by : EndsBy (record_of table) (state_of table).root end
  pub is_end : IsEnd end ended
  pub fits : IsFitEnd (state_of table).root ended

-- an answer to a text by a command with these operands, over what was found by these desks; a failed device is told only where a
-- failure was found
pub record Answers (v : Verb) (ops : List Word) (text : List ℕ) (o : Outside) (w : Response) : Type 0 where
  pub found : List Record
  pub finds : Finds v ops text o found
  pub does : DoesAll v ops text found w
  pub devices : w.status ≡ status.Desk → 0 < all_failures found

-- a run with these words has this to write
pub record IsMade (words : List Word) (input : Input) (o : Outside) (w : Response) : Type 0 where
  pub found : List Record
  pub makes : Makes words input o found w
  pub devices : w.status ≡ status.Desk → DeskFailed o

-- a command with its operands on its input
abbrev pub Performs : Command → List Word → Input → Outside → Response → Type 0
Performs c ops input o w = (words : List Word) → command_of words ≡ Ok c → operand_words words ≡ ops → IsMade words input o w

-- the same where memory is wanting
abbrev pub Lacks : Command → List Word → Input → Outside → Type 0
Lacks c ops input o = (words : List Word) → command_of words ≡ Ok c → operand_words words ≡ ops → LacksMemory words input o

-- what is told of these places and this text, and written so
abbrev pub Tells : List (List ℕ) → List ℕ → Response → Type 0
Tells places text w = (s : StepsReply) × StepsAnswer places text s × (w ≡ steps_response s)

-- what is told of the rules of typing that these operands name, and written so
abbrev pub IsExplained : List Word → Response → Type 0
IsExplained ops w = (text : List ℕ) × (operand_text 1 ops ≡ Ok text) × (w ≡ answer text)

-- what is written of a step that cannot be made
abbrev pub IsStepFault : StepFault → Response → Type 0
IsStepFault (step.Outside place) w = w ≡ fault (outside_line place) status.Step
IsStepFault (step.NoRule n) w = w ≡ fault (no_rule_line n) status.Step
IsStepFault (step.Grown n) w = w ≡ fault (grown_line n) status.Limit
IsStepFault step.Memory w = ⊥

-- what is written of a normal form by its JSON value, or by its first place without one
abbrev pub IsJsonReply : Result Data (List ℕ) → Response → Type 0
IsJsonReply (Ok d) w = w ≡ answer (line (compact_text d))
IsJsonReply (Err place) w = w ≡ fault (no_json_line place) status.NoJson
