-- How a run of the program ends.
use Rattle.std.specs.Prelude.{◌≡◌, ℕ, List, [], map, drop, Result, Ok, Err}
use Rattle.std.specs.declared.vec.IntoIter.{IntoIter}
use Rattle.std.specs.Vec.Iter.{into_iter_items}
use Rattle.dh_command.specs.declared.statuses.Status.{Status}
use Rattle.dh_command.specs.Responses.{without_memory}
use Rattle.dh_command.specs.Statuses.{code_of}
use Rattle.dh_command.specs.Words.{Word}
use Rattle.dh_top.specs.Outside.{Outside}
use Rattle.dh_streams.specs.Deliveries.{Delivers}
use Rattle.dh_streams.specs.Streams.{Input, Output}
use Rattle.dh_top.specs.Runs.{Runs}

-- the words after the program's name, and none where one of them cannot be told
abbrev pub words_told : {S A E : Type 0} → (S → Word) → Result (IntoIter S A) E → List Word
words_told text (Ok args) = map text (drop 1 (into_iter_items args))
words_told text (Err e) = []

-- the command ran on these words, desks and streams, and the process ends with its status
pub record Ends (words : List Word) (input : Input) (o : Outside) (out err : Output) (n : ℕ) : Type 0 where
  pub status : Status
  pub runs : Runs words input o out err status
  pub exits : n ≡ code_of status

-- want of memory was told, and the process ends with the status of it
pub record EndsWithoutMemory (out err : Output) (n : ℕ) : Type 0 where
  pub status : Status
  pub delivers : Delivers without_memory out err status
  pub exits : n ≡ code_of status
