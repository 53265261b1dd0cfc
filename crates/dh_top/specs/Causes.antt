-- Why a run ended by the status of a fault, over what it found.
use Rattle.std.specs.Prelude.{◌≡◌, ◌<◌, ◌≤◌, ◌⊎◌, ℕ, Bool, true, false, IsTrue, List, [], ◌∷◌, length, Some, Ok, Err}
use Rattle.dh_command.specs.declared.commands.Command.{Command}
use Rattle.dh_command.specs.declared.statuses.Status.{Status}
use Rattle.dh_command.specs.declared.statuses.Status.TheVariants as status
use Rattle.dh_command.specs.declared.verbs.Verb.{Verb}
use Rattle.dh_command.specs.declared.verbs.Verb.TheVariants as verb
use Rattle.dh_command.specs.Answer.{Does, IsLimit, IsTyped, cycle_at, file_lines, too_many_keys}
use Rattle.dh_command.specs.Lines.{memory_line}
use Rattle.dh_command.specs.Responses.{Response, line}
use Rattle.dh_command.specs.StepsReplies.{AreNamed}
use Rattle.dh_command.specs.Statuses.{why_status}
use Rattle.dh_command.specs.Words.{Word, command_of, operand_words, resolves, types}
use Rattle.dh_files.specs.FileWords.{file_text}
use Rattle.dh_gen.specs.Generated.{list_text}
use Rattle.dh_gen.specs.NumberWords.{operand_number}
use Rattle.dh_imports.specs.declared.outcomes.Blame.{Blame}
use Rattle.dh_imports.specs.Readings.{HasValue, root_reading}
use Rattle.dh_imports.specs.Records.{Record}
use Rattle.dh_imports.specs.Replay.{ready, bad, looped, too_many}
use Rattle.dh_imports.specs.RootEnds.{EndsBy}
use Rattle.dh_imports.specs.Walk.{Ask}
use Rattle.dh_json.specs.JsonValue.{json}
use Rattle.dh_steps.specs.Outside.{first_outside}
use Rattle.dh_steps.specs.StepRuns.{NoRow, Grows, outcome}
use Rattle.dh_syntax.specs.declared.faults.DecodeFault.{DecodeFault}
use Rattle.dh_syntax.specs.declared.faults.Ill.{Ill}
use Rattle.dh_syntax.specs.declared.faults.NormFault.{NormFault}
use Rattle.dh_syntax.specs.declared.faults.NormFault.TheVariants as limit
use Rattle.dh_syntax.specs.declared.faults.ParseFault.{ParseFault}
use Rattle.dh_syntax.specs.declared.locations.Key.{Key}
use Rattle.dh_syntax.specs.Bytes.BinaryFaults.{DecodesTo}
use Rattle.dh_syntax.specs.Expressions.Tree.{Term}
use Rattle.dh_syntax.specs.Expressions.Nesting.{nesting}
use Rattle.dh_syntax.specs.Limits.{most_bytes, most_nesting}
use Rattle.dh_syntax.specs.Normalising.Named.{names}
use Rattle.dh_syntax.specs.Normalising.Normal.{HasNormalForm}
use Rattle.dh_syntax.specs.Text.Spelling.{ParsesTo}
use Rattle.dh_syntax.specs.Typing.NamedTyping.{IsIll}
use Rattle.dh_top.specs.Generating.{GenSession}
use Rattle.dh_top.specs.Outside.{Outside, Finds}
use Rattle.dh_streams.specs.Streams.{Input, Output, Gains}
use Rattle.dh_top.specs.Runs.{IsRead}

-- the command reads the text of an expression
abbrev pub Parses : Verb → Type 0
Parses v = (v ≡ verb.Encode) ⊎ IsTrue (resolves v) ⊎ (v ≡ verb.Steps)

-- the text is that of this expression, once each import has its value by what the run found
abbrev pub IsValued : List ℕ → Record → Term → Type 0
IsValued text r e = (root : Term) × (ask : Ask) × ParsesTo text (Ok root) × EndsBy r root (ready e) × HasValue r (root_reading text root ask) e

-- this is the item at fault, why it is, by what the run found: an import, the least key of a loop, or the whole with too many keys
pub data Decides (text : List ℕ) (r : Record) (b : Blame) : Type 0 where
  an_import : (root : Term) → ParsesTo text (Ok root) → EndsBy r root (bad b) → Decides text r b
  a_loop : (root : Term) (j : Key) → ParsesTo text (Ok root) → EndsBy r root (looped j) → b ≡ cycle_at j → Decides text r b
  all_keys : (root : Term) → ParsesTo text (Ok root) → EndsBy r root too_many → b ≡ too_many_keys → Decides text r b

-- why a command with these operands answers a text by this status, over what the run found
pub data Cause (v : Verb) (ops : List Word) (text : List ℕ) (r : Record) : Status → Type 0 where
  -- the input is no expression, or the binary form of none
  no_expression : (f : ParseFault) → Parses v → ParsesTo text (Err f) → Cause v ops text r status.Text
  no_binary_form : (f : DecodeFault) → v ≡ verb.Decode → DecodesTo text (Err f) → Cause v ops text r status.Text
  too_large : v ≡ verb.Decode → most_bytes < length text → Cause v ops text r status.Text
  -- an item is at fault: by its text, its type, or its import; or a limit was met there, or its device failed
  at_fault : (b : Blame) → IsTrue (resolves v) → Decides text r b → Cause v ops text r (why_status b.why)
  -- the expression has no type
  no_type : (e : Term) (f : Ill) → IsTrue (types v) → IsValued text r e → IsIll [] e f.path f.rule → Cause v ops text r status.Ill
  -- a limit may be named for it
  at_limit : (e : Term) (l : NormFault) → IsTrue (types v) → IsValued text r e → ¬ (l ≡ limit.Memory) → IsLimit v e l → Cause v ops text r status.Limit
  -- its normal form has no JSON value
  no_value : (e t f : Term) (place : List ℕ) → v ≡ verb.ToJson → IsValued text r e → IsTyped e t → HasNormalForm names e f → nesting f ≤ most_nesting → json f ≡ Err place
      → Cause v ops text r status.NoJson
  -- a step cannot be made
  no_fragment : (e : Term) (place : List ℕ) → v ≡ verb.Steps → ParsesTo text (Ok e) → first_outside e ≡ Some place → Cause v ops text r status.Step
  no_rule : (e : Term) (places : List (List ℕ)) (n : ℕ) → v ≡ verb.Steps → AreNamed ops places → ParsesTo text (Ok e) → outcome 0 places e ≡ NoRow n
      → Cause v ops text r status.Step
  grows : (e : Term) (places : List (List ℕ)) (n : ℕ) → v ≡ verb.Steps → AreNamed ops places → ParsesTo text (Ok e) → outcome 0 places e ≡ Grows n
      → Cause v ops text r status.Limit

-- why files are answered by this status, over what was found for each: that of the first file that is not answered by its digest
pub data FileCause (s : Status) : List Word → List Record → Type 0 where
  this_file : {word : Word} {words : List Word} {r : Record} {rs : List Record} → Cause verb.Hash [] (file_text word) r s → FileCause s (word ∷ words) (r ∷ rs)
  later_file : {word : Word} {words : List Word} {r : Record} {rs : List Record} (w : Response) → Does verb.Hash [] (file_text word) r w → w.status ≡ status.Ok
      → FileCause s words rs → FileCause s (word ∷ words) (r ∷ rs)

-- why a command with these operands answers a text by this status, over the record of its input or of each of its files
pub data RunCause (v : Verb) (ops : List Word) (text : List ℕ) (rs : List Record) (s : Status) : Type 0 where
  by_input : (r : Record) → rs ≡ r ∷ [] → Cause v ops text r s → RunCause v ops text rs s
  by_file : v ≡ verb.Batch → FileCause s ops rs → RunCause v ops text rs s

-- Such a status has a cause in the input or in what was found.
abbrev pub has_cause : Status → Bool
has_cause status.Ok = false
has_cause status.Usage = false
has_cause status.Read = false
has_cause status.Write = false
has_cause status.Memory = false
has_cause _ = true

-- A run that ended so had this cause, by the text that it read and what it found by its desks.
pub record IsCausedByInput (words : List Word) (input : Input) (o : Outside) (s : Status) : Type 0 where
  pub command : Command
  pub asked : command_of words ≡ Ok command
  pub text : List ℕ
  pub read : IsRead (Ok command) text input
  pub found : List Record
  pub finds : Finds command.verb (operand_words words) text o found
  pub cause : RunCause command.verb (operand_words words) text found s

-- A run of `gen` that ended so had this cause, in the list of its imports and what it found for that.
pub record IsCausedByList (words : List Word) (s : Status) : Type 0 where
  pub command : Command
  pub asked : command_of words ≡ Ok command
  pub of_number : command.verb ≡ verb.Gen
  pub number : ℕ
  pub named : operand_number 1 (operand_words words) ≡ Ok number
  pub found : Record
  pub fetches : ℕ
  pub session : GenSession number found fetches
  pub cause : Cause verb.Hash [] (list_text number) found s

-- A run that ended so had such a cause.
abbrev pub IsCaused : List Word → Input → Outside → Status → Type 0
IsCaused words input o s = IsCausedByInput words input o s ⊎ IsCausedByList words s

-- ---- what stands on the outputs

-- whatever is neither written whole nor cut short by a failed write
abbrev pub is_refusal : Status → Bool
is_refusal status.Ok = false
is_refusal status.Write = false
is_refusal _ = true

-- nothing to standard output, and one line to standard error, which is `out of memory` where the status says so
abbrev pub TellsOneLine : Status → Output → Output → Type 0
TellsOneLine s out err = Gains out [] × ((told : List ℕ) × (s ≡ status.Memory → told ≡ memory_line) × Gains err (line told))

-- The words are a command line of `batch`: the line of each file to standard output, and nothing to standard error.
pub record TellsFiles (words : List Word) (out err : Output) : Type 0 where
  pub command : Command
  pub asked : command_of words ≡ Ok command
  pub of_files : command.verb ≡ verb.Batch
  pub answers : List Response
  pub one_for_each : length answers ≡ length (operand_words words)
  pub lines : Gains out (file_lines (operand_words words) answers)
  pub quiet : Gains err []

-- What stands on the outputs after a refusal: one line on standard error; or, of `batch`, the line of each file on standard output.
abbrev pub TellsRefusal : List Word → Status → Output → Output → Type 0
TellsRefusal words s out err = TellsOneLine s out err ⊎ TellsFiles words out err
