-- What a run writes to its two outputs, and how it ends.
use Rattle.std.specs.Prelude.{ℕ, List, [], ◌∷◌, ◌++◌}
use Rattle.dh_syntax.specs.declared.faults.ParseFault.{ParseFault}
use Rattle.dh_command.specs.declared.statuses.Status.{Status}
use Rattle.dh_command.specs.declared.statuses.Status.TheVariants as status
use Rattle.dh_command.specs.Lines.{usage_line, read_line, memory_line}
use Rattle.dh_syntax.specs.FaultLines.{parse_fault_line}

-- the bytes to standard output, the bytes to standard error, and the status
pub record Response : Type 0 where
  pub out : List ℕ
  pub err : List ℕ
  pub status : Status

-- a line with its line feed
abbrev pub line : List ℕ → List ℕ
line text = text ++ 10 ∷ []

-- an answer writes its bytes to standard output and nothing to standard error
abbrev pub answer : List ℕ → Response
answer bytes = record { out = bytes; err = []; status = status.Ok }

-- a fault writes its line to standard error and nothing to standard output
abbrev pub fault : List ℕ → Status → Response
fault text s = record { out = []; err = line text; status = s }

-- words that are no command line
abbrev pub misused : ℕ → Response
misused k = fault (usage_line k) status.Usage

-- an input that cannot be read
abbrev pub unread : Response
unread = fault read_line status.Read

-- want of memory
abbrev pub without_memory : Response
without_memory = fault memory_line status.Memory

-- a fault of a text
abbrev pub misspelt : ParseFault → Response
misspelt f = fault (parse_fault_line f) status.Text
