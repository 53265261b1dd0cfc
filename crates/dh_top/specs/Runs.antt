-- What one run of the command does to its input and to its two outputs.
use Rattle.std.specs.Prelude.{◌≡◌, ℕ, ◌<◌, ◌⊎◌, List, [], ◌∷◌, Any, Some, MatchBool, Result, Ok, Err, IsErr}
use Rattle.dh_ports.specs.Counts.{Rose}
use Rattle.dh_command.specs.declared.commands.Command.{Command}
use Rattle.dh_command.specs.declared.statuses.Status.{Status}
use Rattle.dh_command.specs.declared.statuses.Status.TheVariants as status
use Rattle.dh_command.specs.Answer.{CommandAnswer, Succeeds, nothing_found}
use Rattle.dh_command.specs.Generating.{GenAnswer}
use Rattle.dh_command.specs.Responses.{Response, line, unread, without_memory}
use Rattle.dh_command.specs.Lines.{read_line}
use Rattle.dh_imports.specs.Records.{Record}
use Rattle.dh_command.specs.Words.{Word, reads, command_of, operand_words}
use Rattle.dh_command.specs.declared.verbs.Verb.TheVariants as verb
use Rattle.dh_gen.specs.NumberWords.{operand_number}
use Rattle.dh_session.specs.Works.{AtLast}
use Rattle.dh_streams.specs.Deliveries.{Delivers}
use Rattle.dh_streams.specs.Streams.{Gains, Input, IsLeft, IsTaken, Output}
use Rattle.dh_top.specs.Generating.{GenSession}
use Rattle.dh_top.specs.Outside.{Outside, Finds, FilesPart, IsLeftAlone, total}

-- A command that reads takes its input. Another one, and words that are no command line, leave it alone.
abbrev pub IsRead : Result Command ℕ → List ℕ → Input → Type 0
IsRead (Ok c) text input = MatchBool (reads c.verb) (IsTaken text input) (IsLeft input)
IsRead (Err k) text input = IsLeft input

-- Words that are no command line find nothing, and leave the desks alone.
abbrev pub FindsFor : Result Command ℕ → List Word → List ℕ → Outside → List Record → Type 0
FindsFor (Ok c) ops text o rs = Finds c.verb ops text o rs
FindsFor (Err k) ops text o rs = (rs ≡ nothing_found ∷ []) × IsLeftAlone o

-- Where memory is wanting: the first desk has kept nothing, or some of what the run keeps.
pub data LacksMemory (words : List Word) (input : Input) (o : Outside) : Type 0 where
  lacks_early : o.filed_after ≡ o.filed_before → LacksMemory words input o
  lacks_late : (c : Command) (text : List ℕ) → command_of words ≡ Ok c → IsRead (Ok c) text input → FilesPart c.verb (operand_words words) text o → LacksMemory words input o

-- What a run has to write: the answer to its words and its input over what it found by its desks, that of `gen` over what it found by
-- desks of its own, or one of the two faults that come before an answer.
pub data Makes (words : List Word) (input : Input) (o : Outside) (rs : List Record) (w : Response) : Type 0 where
  answers : (text : List ℕ) → IsRead (command_of words) text input → FindsFor (command_of words) (operand_words words) text o rs → CommandAnswer words text rs w
      → Makes words input o rs w
  -- by desks of its own: the input and the desks of the run are left alone
  generates : (c : Command) (n : ℕ) (r : Record) (asked : ℕ) → command_of words ≡ Ok c → c.verb ≡ verb.Gen → operand_number 1 (operand_words words) ≡ Ok n → rs ≡ r ∷ []
      → IsLeft input → IsLeftAlone o → GenSession n r asked → GenAnswer n r asked w → Makes words input o rs w
  cannot_read : (c : Command) → command_of words ≡ Ok c → Rose input.faults_before input.faults_after → IsLeftAlone o → w ≡ unread → Makes words input o rs w
  lacks_memory : LacksMemory words input o → w ≡ without_memory → Makes words input o rs w

-- no read and no write failed
pub record Works (input : Input) (out err : Output) : Type 0 where
  pub reads : ¬ Rose input.faults_before input.faults_after
  pub writes : ¬ Rose out.faults_before out.faults_after
  pub tells : ¬ Rose err.faults_before err.faults_after

-- a run of the command, with the record of each of its sessions; on an input that it answers over what it found it succeeds where
-- its streams work, unless memory is wanting
pub record Runs (words : List Word) (input : Input) (o : Outside) (out err : Output) (s : Status) : Type 0 where
  pub found : List Record
  pub written : Response
  pub makes : Makes words input o found written
  pub delivers : Delivers written out err s
  pub completes : (c : Command) (text : List ℕ) → command_of words ≡ Ok c → input.before ≡ Some text → Succeeds c.verb (operand_words words) text found → Works input out err
      → (s ≡ status.Ok) ⊎ (s ≡ status.Memory)

-- the words are no command line
abbrev pub AreMisused : List Word → Type 0
AreMisused words = IsErr (command_of words)

-- the run could not read its input: nothing stands on standard output, and one line on standard error
pub record ReadFailed (input : Input) (out err : Output) : Type 0 where
  pub rose : Rose input.faults_before input.faults_after
  pub nothing_out : Gains out []
  pub told : Gains err (line read_line)

-- a call of a desk failed, or a count stands at its last value
abbrev pub DeskFailed : Outside → Type 0
DeskFailed o = Any AtLast o.faults_after ⊎ (total o.faults_before < total o.faults_after)
