-- The history of a table, and the state to which it leads; the keys that a table knows.
use Rattle.std.specs.Prelude.{Option, None, ◌≡◌, ℕ, suc, nat_lt, Bool, List, [], ◌∷◌, ◌++◌, length, if◌then◌else◌, Some, None, Result, Ok, Err}
use Rattle.dh_syntax.specs.declared.faults.ParseFault.{ParseFault}
use Rattle.dh_syntax.specs.declared.locations.Key.{Key}
use Rattle.dh_syntax.specs.declared.locations.Loc.{Loc}
use Rattle.dh_syntax.specs.Expressions.Tree.{Term}
use Rattle.dh_syntax.specs.Imports.Keys.{bare}
use Rattle.dh_imports.specs.declared.outcomes.Blame.{Blame}
use Rattle.dh_imports.specs.Machine.{root_walk, Task, Fetch, Look, Finish, State, Event, News, after_all, Lawful}
use Rattle.dh_imports.specs.Machine as machine
use Rattle.dh_imports.specs.Records.{Noted, Found}
use Rattle.dh_imports.specs.Resolver.{is_in}
use Rattle.dh_syntax.specs.Limits.{most_keys}
use Rattle.dh_imports.specs.Walk.{Walked, Ready, Fails, Turns, Needs, keys_of}

-- the kinds of tasks: to fetch, to look up, to finish
pub data Kind : Type 0 where
  fetching : Kind
  looking : Kind
  finishing : Kind

-- the kind of a task
abbrev pub kind_of : Task → Kind
kind_of (Fetch l) = fetching
kind_of (Look d) = looking
kind_of (Finish k) = finishing

-- a step as the history shows it
pub data Step : Type 0 where
  Claim : ℕ → Kind → ℕ → Step
  Release : ℕ → Step
  Fetched : ℕ → Step
  Looked : ℕ → Step
  Finished : ℕ → Step
  Late : ℕ → Step
  Cycled : Key → Step

-- a step as the history shows it, with the serial that a claim draws
abbrev pub step_of : List Task → Event → Step
step_of drawn (machine.Claim worker t) = Claim worker (kind_of t) (suc (length drawn))
step_of drawn (machine.Release serial) = Release serial
step_of drawn (machine.Fetched serial l text) = Fetched serial
step_of drawn (machine.Looked serial d look) = Looked serial
step_of drawn (machine.Finished serial k i limit o) = Finished serial
step_of drawn (machine.Late serial news) = Late serial
step_of drawn (machine.Cycled k) = Cycled k

-- the steps, in their order
abbrev pub steps : Term → List Event → List Step
steps root [] = []
steps root (e ∷ es) = steps root es ++ step_of (after_all root es).drawn e ∷ []

-- the news that came too late in a step, if it did
abbrev pub late_news : Event → List News
late_news (machine.Late serial news) = news ∷ []
late_news _ = []

-- the refused news, in the order of their steps
abbrev pub refused : List Event → List News
refused [] = []
refused (e ∷ es) = refused es ++ late_news e

-- The state is the one to which this history leads from the root, where the condition of every step held, with these
-- tasks and these refused news.
pub record Replays (root : Term) (drawn : List Task) (news : List News) (history : List Step) (s : State) : Type 0 where
  pub events : List Event
  pub lawful : Lawful root events
  pub history_is : steps root events ≡ history
  pub drawn_is : (after_all root events).drawn ≡ drawn
  pub news_is : refused events ≡ news
  pub state_is : after_all root events ≡ s

-- ---- the keys that a table knows

-- each key, and the same key without its digest
abbrev pub with_bare : List Key → List Key
with_bare [] = []
with_bare (k ∷ ks) = k ∷ bare k ∷ with_bare ks

-- the keys of the imports of a text at a location, where it parses
abbrev pub keys_parsed : Loc → Result Term ParseFault → List Key
keys_parsed l (Ok e) = keys_of (Some l) e
keys_parsed l (Err f) = []

-- the keys of the imports of what was found at a location
abbrev pub keys_noted : Loc → Noted → List Key
keys_noted l (Found bytes allow parsed) = keys_parsed l parsed
keys_noted l _ = []

-- the keys of the imports of all texts that were found
abbrev pub keys_found : List (Loc × Noted) → List Key
keys_found [] = []
keys_found (t ∷ ts) = keys_noted t.0 t.1 ++ keys_found ts

-- the keys of the imports of the root and of each text that parses, and each of these without its digest
abbrev pub keys : State → List Key
keys s = with_bare (keys_of None s.root ++ keys_found s.recorded.texts)

-- the keys, each once
abbrev pub distinct : List Key → List Key
distinct [] = []
distinct (k ∷ ks) = if is_in k ks then distinct ks else k ∷ distinct ks

-- the keys are too many
abbrev pub has_too_many : State → Bool
has_too_many s = nat_lt most_keys (length (distinct (keys s)))

-- ---- the end of the root

-- how the root ends: with a value, a fault, a loop, or too many keys
pub data RootEnd : Type 0 where
  ready : Term → RootEnd
  bad : Blame → RootEnd
  looped : Key → RootEnd
  too_many : RootEnd

-- how the root ends by its walk, if it has come to an end
abbrev pub end_of : Walked Term → Option RootEnd
end_of (Ready e) = Some (ready e)
end_of (Fails b) = Some (bad b)
end_of (Turns j) = Some (looped j)
end_of (Needs k) = None

-- how the root ends, once that is decided
abbrev pub root_end : State → Option RootEnd
root_end s = if has_too_many s then Some too_many else end_of (root_walk s)
