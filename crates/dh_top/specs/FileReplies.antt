-- The reply to a file, and what its desk shows of it.
use Rattle.std.specs.Prelude.{◌≡◌, ◌⊎◌, ℕ, ◌+◌, ◌<◌, ◌≤◌, All, List, [], ◌∷◌, ◌++◌, length, map, Option, Some, None, IfSome}
use Rattle.dh_command.specs.declared.statuses.Status.TheVariants as status
use Rattle.dh_command.specs.Answer.{FileAnswer}
use Rattle.dh_command.specs.Responses.{Response, without_memory}
use Rattle.dh_command.specs.Words.{Word}
use Rattle.dh_files.specs.FileWords.{file_text}
use Rattle.dh_imports.specs.Records.{Record}
use Rattle.dh_record.specs.Kept.{pair_of}
use Rattle.dh_session.specs.Works.{AtLast}
use Rattle.dh_syntax.specs.Limits.{most_entry_bytes}
use Rattle.dh_top.specs.Outside.{Pair, Shelving, Telling, Tried, failures}
use Rattle.dh_top.specs.Replies.{written}
use Rattle.dh_top.specs.declared.files.FileReply.{FileReply}

-- what is written of it
abbrev pub response_of : FileReply → Response
response_of a = elim a.reply [ None ↦ without_memory | Some r ↦ written r ]

-- its entries for the cache
abbrev pub pairs_of : FileReply → List Pair
pairs_of a = map pair_of a.keeps

-- those of several replies, one after another
abbrev pub all_pairs : List FileReply → List Pair
all_pairs [] = []
all_pairs (a ∷ replies) = pairs_of a ++ all_pairs replies

-- none of these entries has too many bytes
abbrev pub IsSmall : FileReply → Type 0
IsSmall a = All (λ e. length e.bytes ≤ most_entry_bytes) a.keeps

-- nor has one of several replies
abbrev pub AllSmall : List FileReply → Type 0
AllSmall [] = Unit {0}
AllSmall (a ∷ replies) = IsSmall a × AllSmall replies

-- A desk before and after the session of the file that a word names, with the reply: what its session found is what is answered, and the
-- desk counted what it was asked and what failed, and kept nothing.
pub record IsServed (told : Telling) (shelved : Shelving) {D : Type 0} (asked faults : D → ℕ) (filed : D → Option (List Pair)) (word : Word) (d d' : D) (a : FileReply) : Type 0 where
  pub found : Record
  pub asks : Option ℕ
  pub tried : Tried told shelved (file_text word) found asks (pairs_of a)
  pub answer : FileAnswer word found (response_of a)
  pub device : (response_of a).status ≡ status.Desk → 0 < failures found
  pub small : IsSmall a
  pub asked_for : IfSome asks (λ n. AtLast (asked d') ⊎ (asked d' ≡ asked d + n))
  pub failed : AtLast (faults d') ⊎ (failures found + faults d ≤ faults d')
  pub rose : faults d ≤ faults d'
  pub kept : filed d' ≡ filed d
