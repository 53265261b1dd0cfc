-- What a run of `batch` writes with a cache that was honestly written.
use Rattle.std.specs.Prelude.{◌≡◌, ℕ, List, [], ◌∷◌, ◌++◌, Ok, codes}
use Rattle.dh_command.specs.declared.commands.Command.{Command}
use Rattle.dh_command.specs.declared.statuses.Status.{Status}
use Rattle.dh_command.specs.declared.statuses.Status.TheVariants as status
use Rattle.dh_command.specs.declared.verbs.Verb.TheVariants as verb
use Rattle.dh_command.specs.Words.{Word, command_of, operand_words}
use Rattle.dh_files.specs.FileWords.{file_text}
use Rattle.dh_imports.specs.Records.{Record}
use Rattle.dh_top.specs.Outside.{Outside}
use Rattle.dh_streams.specs.Streams.{Input, Output, Gains}
use Rattle.dh_top.specs.Runs.{Runs}
use Rattle.dh_top.specs.WarmRuns.{HasPlainRun, EndsWarmly}

-- Without a cache each of these files has a digest, as these bytes say, over a record by which the cache of the run was honestly written.
pub data HavePlainRuns : List Word → List Record → List (List ℕ) → Type 0 where
  no_file : HavePlainRuns [] [] []
  a_file : {word : Word} {words : List Word} {r : Record} {rs : List Record} {bytes : List ℕ} {digests : List (List ℕ)}
      → HasPlainRun verb.Hash [] (file_text word) r bytes → HavePlainRuns words rs digests → HavePlainRuns (word ∷ words) (r ∷ rs) (bytes ∷ digests)

-- the lines of files with these digests
abbrev pub digest_lines : List Word → List (List ℕ) → List ℕ
digest_lines (word ∷ words) (bytes ∷ digests) = (word ++ codes ": " ++ bytes) ++ digest_lines words digests
digest_lines _ _ = []

-- Where each file would have a digest without the cache, the run ends well unless a device fails, memory is wanting or it names a limit;
-- and then it writes these digests.
abbrev pub WarmBatches : Type 0
WarmBatches =
    (words : List Word) (input : Input) (o : Outside) (out err : Output) (s : Status) (run : Runs words input o out err s) (c : Command) (digests : List (List ℕ))
    → command_of words ≡ Ok c → c.verb ≡ verb.Batch → HavePlainRuns (operand_words words) run.found digests → ¬ (s ≡ status.Limit)
    → EndsWarmly s × (s ≡ status.Ok → Gains out (digest_lines (operand_words words) digests) × Gains err [])
