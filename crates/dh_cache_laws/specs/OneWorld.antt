-- What a command writes over two records of one world, where no cache has an entry.
use Rattle.std.specs.Prelude.{◌≡◌, ℕ, IsTrue, List, Some}
use Rattle.dh_syntax.specs.declared.locations.Digest.{Digest}
use Rattle.dh_syntax.specs.declared.locations.Key.{Key}
use Rattle.dh_syntax.specs.declared.locations.Loc.{Loc}
use Rattle.dh_imports.specs.declared.outcomes.Why.{Why}
use Rattle.dh_command.specs.declared.statuses.Status.TheVariants as status
use Rattle.dh_command.specs.declared.verbs.Verb.{Verb}
use Rattle.dh_command.specs.Answer.{Does}
use Rattle.dh_command.specs.Responses.{Response}
use Rattle.dh_command.specs.Statuses.{why_status}
use Rattle.dh_command.specs.Words.{Word, resolves}
use Rattle.dh_imports.specs.Keeps.{HasNoEntry}
use Rattle.dh_imports.specs.Records.{Record, Noted, text_at, limit_at}
use Rattle.dh_cache_laws.specs.WarmAnswers.{AreSameLines}

-- no look found a good entry, and what is recorded for a limit is one
pub record IsWithoutEntries (r : Record) : Type 0 where
  pub none_good : (d : Digest) → HasNoEntry r d
  pub limits : (k : Key) (w : Why) → limit_at r k ≡ Some w → why_status w ≡ status.Limit

-- the records say the same of each location where both say something
abbrev pub AreOfOneWorld : Record → Record → Type 0
AreOfOneWorld r s = (l : Loc) (t u : Noted) → text_at r l ≡ Some t → text_at s l ≡ Some u → t ≡ u

-- Where a command answers a text with status 0 over either of two such records, it writes the same over both, but for the names of binders.
abbrev pub OneWorld : Type 0
OneWorld =
    (v : Verb) (ops : List Word) (text : List ℕ) (r s : Record) (w x : Response) → IsTrue (resolves v)
    → IsWithoutEntries r → IsWithoutEntries s → AreOfOneWorld r s
    → Does v ops text r w → w.status ≡ status.Ok → Does v ops text s x → x.status ≡ status.Ok
    → AreSameLines v x.out w.out
