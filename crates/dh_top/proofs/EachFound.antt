-- What holds of each record that a run found.
use Rattle.std.specs.Prelude.{◌≡◌, ℕ, List, [], ◌∷◌, Option}
use Rattle.std.proofs.Common.{sym, subst}
use Rattle.dh_command.specs.declared.verbs.Verb.{Verb}
use Rattle.dh_command.specs.Answer.{nothing_found}
use Rattle.dh_command.specs.Words.{Word}
use Rattle.dh_imports.specs.Records.{Record}
use Rattle.dh_top.specs.Outside.{Outside, Pair, Shelving, Telling, Finds, finds, finds_each, leaves, IsFound, Sessions, no_session, one_session, with_session, without_session}

-- this holds of each of them
abbrev pub EachRecord : (Record → Type 0) → List Record → Type 0
EachRecord P [] = Unit {0}
EachRecord P (r ∷ rs) = P r × EachRecord P rs

module _ (P : Record → Type 0) (of_none : P nothing_found) (of_found : (told : Telling) (shelved : Shelving) (r : Record) → IsFound told shelved r → P r) where
  each_session : {told : Telling} {shelved : Shelving} {texts : List (List ℕ)} {rs : List Record} {asks : Option ℕ} {pairs : List Pair} → Sessions told shelved texts rs asks pairs → EachRecord P rs
  each_session no_session = tt
  each_session {told} {shelved} (one_session {r = r} (with_session s) rest) = (of_found told shelved r s.is_found, each_session rest)
  each_session (one_session without_session rest) = (of_none, each_session rest)

  pub each_found : (v : Verb) (ops : List Word) (text : List ℕ) (o : Outside) (rs : List Record) → Finds v ops text o rs → EachRecord P rs
  each_found v ops text o rs (finds r n pairs t one s shown) = subst (EachRecord P) (sym one) (of_found o.told o.shelved r s.is_found, tt)
  each_found v ops text o rs (finds_each asks pairs b s shown) = each_session s
  each_found v ops text o rs (leaves none alone) = subst (EachRecord P) (sym none) (of_none, tt)
