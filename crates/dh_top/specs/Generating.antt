-- How `gen` comes to what it writes: by desks of its own, in the world of the generated texts.
use Rattle.std.specs.Prelude.{◌≡◌, ℕ, List, [], ◌∷◌, ◌++◌}
use Rattle.dh_command.specs.declared.statuses.Status.TheVariants as status
use Rattle.dh_command.specs.declared.verbs.Verb.TheVariants as verb
use Rattle.dh_command.specs.Answer.{Does, nothing_found}
use Rattle.dh_command.specs.Generating.{GenAnswer, count_lines}
use Rattle.dh_command.specs.Responses.{Response, answer}
use Rattle.dh_gen.specs.Generated.{list_text, shelved, told}
use Rattle.dh_imports.specs.Records.{Record}
use Rattle.dh_top.specs.Outside.{Pair, Session, failures}

-- How the record comes about, and how many fetches were claimed for it: by a session on the list of the imports in the world of the
-- generated texts, in which no call of a desk failed. There is no session where the list has too many keys.
pub data GenSession (n : ℕ) : Record → ℕ → Type 0 where
  on_list : {r : Record} {asked : ℕ} {pairs : List Pair} → Session told shelved (list_text n) r asked pairs → failures r ≡ 0 → GenSession n r asked
  no_list : GenSession n nothing_found 0

-- what is written where `hash` writes this of the list: so many keys and fetches before its line, or its fault alone
pub data IsCounted (imports asked : ℕ) (hash w : Response) : Type 0 where
  with_digest : hash.status ≡ status.Ok → w ≡ answer (count_lines imports asked ++ hash.out) → IsCounted imports asked hash w
  with_fault : ¬ (hash.status ≡ status.Ok) → w ≡ hash → IsCounted imports asked hash w

-- `gen` with this number has this to write, and tells of no device
pub record IsGenerated (n : ℕ) (w : Response) : Type 0 where
  pub found : Record
  pub asked : ℕ
  pub session : GenSession n found asked
  pub answers : GenAnswer n found asked w
  pub alone : ¬ (w.status ≡ status.Desk)

-- ---- the law

-- a run of `gen` with this number writes this line of a digest
abbrev pub TellsDigest : ℕ → List ℕ → Type 0
TellsDigest n digest = (r : Record) × (asked : ℕ) × GenSession n r asked × Does verb.Hash [] (list_text n) r (answer digest)

-- The line of the digest depends on the number alone.
abbrev pub GeneratedDigests : Type 0
GeneratedDigests = (n : ℕ) (first second : List ℕ) → TellsDigest n first → TellsDigest n second → first ≡ second
