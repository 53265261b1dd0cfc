-- What `gen` writes: how many imports the generated texts take, how many fetches, and the digest of their list.
use Rattle.std.specs.Prelude.{◌≡◌, ℕ, List, [], ◌++◌, codes, length, Ok}
use Rattle.std.specs.Fmt.{decimal}
use Rattle.dh_command.specs.declared.statuses.Status.TheVariants as status
use Rattle.dh_command.specs.declared.verbs.Verb.TheVariants as verb
use Rattle.dh_command.specs.Answer.{Does}
use Rattle.dh_command.specs.Responses.{Response, answer, line}
use Rattle.dh_gen.specs.Generated.{list_text}
use Rattle.dh_imports.specs.Machine.{opening}
use Rattle.dh_imports.specs.Records.{Record}
use Rattle.dh_imports.specs.Replay.{distinct, keys}
use Rattle.dh_syntax.specs.Expressions.Tree.{Term}
use Rattle.dh_syntax.specs.Text.Spelling.{ParsesTo}

-- how many keys the root and the texts that were found have
abbrev pub key_count : Term → Record → ℕ
key_count root r = length (distinct (keys (record (opening root) { recorded = r })))

-- a word and a number
abbrev pub count_line : List ℕ → ℕ → List ℕ
count_line word n = line (word ++ codes " " ++ decimal n)

-- what is written of so many keys and so many fetches, before the digest
abbrev pub count_lines : ℕ → ℕ → List ℕ
count_lines imports asked = count_line (codes "imports") imports ++ count_line (codes "asked") asked

-- The answer to this number, over what was found for the list of its imports by so many fetches: how many keys and fetches there were,
-- and what `hash` writes of the list. Where that is a fault, it is written alone.
pub data GenAnswer (n : ℕ) (r : Record) (asked : ℕ) (w : Response) : Type 0 where
  counts : (root : Term) (digest : List ℕ) → ParsesTo (list_text n) (Ok root) → Does verb.Hash [] (list_text n) r (answer digest)
      → w ≡ answer (count_lines (key_count root r) asked ++ digest) → GenAnswer n r asked w
  faults : Does verb.Hash [] (list_text n) r w → ¬ (w.status ≡ status.Ok) → GenAnswer n r asked w
