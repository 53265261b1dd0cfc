-- One depth-first resolver over a record (the standard's "Import resolution").
use Rattle.std.specs.Prelude.{◌≡◌, ℕ, zero, suc, Bool, true, false, ◌||◌, if◌then◌else◌, List, [], ◌∷◌, Option, Some, None, Result, Ok, Err}
use Rattle.dh_syntax.specs.declared.faults.ParseFault.{ParseFault}
use Rattle.dh_syntax.specs.declared.locations.Digest.{Digest}
use Rattle.dh_syntax.specs.declared.locations.Key.{Key}
use Rattle.dh_syntax.specs.declared.locations.Loc.{Loc}
use Rattle.dh_syntax.specs.declared.locations.Loc.TheVariants as locs
use Rattle.dh_syntax.specs.declared.locations.Mode.{Mode}
use Rattle.dh_syntax.specs.declared.locations.Mode.TheVariants as modes
use Rattle.dh_syntax.specs.Expressions.Tree.{Term}
use Rattle.dh_syntax.specs.Imports.Keys.{bare, key_eq, key_le}
use Rattle.dh_imports.specs.LastStep.{Item, Code, Text, Location, Compare, Entry, Fault, own, last_step}
use Rattle.dh_imports.specs.declared.outcomes.Why.{Why}
use Rattle.dh_imports.specs.declared.outcomes.Why.TheVariants.{Parse, Absent, Missing, Broken, Https, Failed}
use Rattle.dh_imports.specs.Outcomes.{Outcome, Good, Bad, Loop}
use Rattle.dh_imports.specs.Records as found
use Rattle.dh_imports.specs.Records.{Record, Noted, Seen, text_at, look_at, limit_at}
use Rattle.dh_imports.specs.Walk.{Ask, Walked, Ready, Fails, Turns, Needs, walk}

-- a part of a record
pub data Part : Type 0 where
  TextOf : Loc → Part
  LookOf : Digest → Part

-- ---- what a record says of a key, before any outcome

-- what a key comes to by the record: a part that is not recorded, its last step, code to be walked, or another key
pub data Plan : Type 0 where
  -- this part is not recorded
  Unknown : Part → Plan
  -- all that the last step takes
  Now : Item → Plan
  -- its code, to be walked, and the allowed origin of its text
  Walks : Term → Option (List ℕ) → Plan
  -- the key without its digest is asked
  Asks : Key → Plan

-- the last step of a key that is at fault itself for this reason
abbrev pub faulty : Key → Why → Plan
faulty k w = Now (Fault (record { at = Some k; why = w }))

-- what a text as code comes to: a walk where it parses, and else its parse fault
abbrev pub plan_parsed : Key → Option (List ℕ) → Result Term ParseFault → Plan
plan_parsed k allow (Ok e) = Walks e allow
plan_parsed k allow (Err f) = faulty k (Parse f)

-- found bytes by whether they are taken as text
abbrev pub plan_found : Key → Bool → List ℕ → Option (List ℕ) → Result Term ParseFault → Plan
plan_found k true bytes allow parsed = Now (Text bytes allow)
plan_found k false bytes allow parsed = plan_parsed k allow parsed

-- what a key comes to by what was found at its location
abbrev pub plan_text : Key → Bool → Option Noted → Plan
plan_text k as_text None = Unknown (TextOf k.loc)
plan_text k as_text (Some (found.Found bytes allow parsed)) = plan_found k as_text bytes allow parsed
plan_text k as_text (Some found.Absent) = faulty k Absent
plan_text k as_text (Some (found.Broken n)) = faulty k (Broken n)
plan_text k as_text (Some found.Failed) = faulty k Failed

-- the fault of a location that is never fetched
abbrev pub unfetched : Loc → Option Why
unfetched locs.Missing = Some Missing
unfetched (locs.Https u) = Some Https
unfetched _ = None

-- what a key comes to whose location is fetched, unless it is one that never is
abbrev pub plan_fetch : Record → Key → Bool → Option Why → Plan
plan_fetch r k as_text (Some w) = faulty k w
plan_fetch r k as_text None = plan_text k as_text (text_at r k.loc)

-- what a key without a digest comes to by its mode
abbrev pub plan_mode : Record → Key → Mode → Plan
plan_mode r k modes.Location = Now (Location k.loc)
plan_mode r k modes.Text = plan_fetch r k true (unfetched k.loc)
plan_mode r k modes.Code = plan_fetch r k false (unfetched k.loc)

-- what a key with a digest comes to by the look at it: the entry of the cache, or the key without its digest
abbrev pub plan_look : Key → Digest → Option Seen → Plan
plan_look k d None = Unknown (LookOf d)
plan_look k d (Some (found.Good bytes e)) = Now (Entry e)
plan_look k d (Some found.Miss) = Asks (bare k)
plan_look k d (Some found.Failed) = Asks (bare k)

-- what a key comes to, with its digest if it has one
abbrev pub plan_digest : Record → Key → Option Digest → Plan
plan_digest r k None = plan_mode r k k.mode
plan_digest r k (Some d) = plan_look k d (look_at r d)

-- what a key comes to by the record
abbrev pub plan : Record → Key → Plan
plan r k = plan_digest r k k.digest

-- ---- the stage that a key has reached, by the outcomes that are known

-- how far a key has come: a part is lacking, its last step is due, or it waits for another key
pub data Stage : Type 0 where
  -- this part is not recorded
  Lacks : Part → Stage
  -- the last step is due, on this item
  Has : Item → Stage
  -- the last step is due, on the fault of this loop
  Meets : Key → Stage
  -- it waits for the outcome of this key, its blocking key
  Waits : Key → Stage

-- the stage of a key by the walk of its code
abbrev pub of_walk : Option (List ℕ) → Walked Term → Stage
of_walk allow (Ready e) = Has (Code e allow)
of_walk allow (Fails b) = Has (Fault b)
of_walk allow (Turns j) = Meets j
of_walk allow (Needs y) = Waits y

-- the stage of a key with a digest by the outcome of the key without it
abbrev pub of_bare : Key → Option Outcome → Stage
of_bare j None = Waits j
of_bare j (Some (Good v o)) = Has (Compare v o)
of_bare j (Some (Bad b)) = Has (Fault b)
of_bare j (Some (Loop i)) = Meets i

-- the stage of a key by what it comes to and by the outcomes of other keys
abbrev pub of_plan : Ask → Key → Plan → Stage
of_plan ask k (Unknown p) = Lacks p
of_plan ask k (Now i) = Has i
of_plan ask k (Walks e allow) = of_walk allow (walk (Some k) ask e)
of_plan ask k (Asks j) = of_bare j (ask j)

-- the stage of a key by the record and the outcomes of other keys
abbrev pub stage : Record → Ask → Key → Stage
stage r ask k = of_plan ask k (plan r k)

-- ---- outcomes

-- an outcome, unless a limit was met, which then decides the key
abbrev pub unless_limit : Key → Option Why → Option Outcome → Option Outcome
unless_limit k (Some w) o = Some (own k w)
unless_limit k None o = o

-- the last step; the limit that is recorded for a key's code stands in its place
abbrev pub closed : Record → ℕ → Key → Item → Option Outcome
closed r n k (Code e allow) = unless_limit k (limit_at r k) (last_step n k (Code e allow))
closed r n k i = last_step n k i

-- the outcome of a key whose last step is due or which meets a loop, and none else
abbrev pub ended : Record → ℕ → Key → Stage → Option Outcome
ended r n k (Has i) = closed r n k i
ended r n k (Meets j) = Some (Loop j)
ended r n k (Lacks p) = None
ended r n k (Waits y) = None

-- whether a key is in a list
abbrev pub is_in : Key → List Key → Bool
is_in k [] = false
is_in k (j ∷ js) = key_eq j k || is_in k js

-- the one of two keys that comes first in their order
abbrev pub lesser : Key → Key → Key
lesser j k = if key_le j k then j else k

-- the least key of the loop by which k comes back to itself; the chain has the nearest ancestor first
abbrev pub least_back_to : Key → List Key → Key
least_back_to k [] = k
least_back_to k (j ∷ js) = if key_eq j k then k else lesser j (least_back_to k js)

-- The outcome of a key below a chain of ancestors, with so much to spend. None where that does not suffice or where the
-- key is undecided.
abbrev pub resolve : Record → ℕ → List Key → Ask
resolve r zero ancestors k = None
resolve r (suc n) ancestors k =
    if is_in k ancestors then Some (Loop (least_back_to k ancestors))
    else ended r n k (stage r (resolve r n (k ∷ ancestors)) k)

-- the resolver gives the key this outcome
abbrev pub Resolves : Record → Key → Outcome → Type 0
Resolves r k o = (n : ℕ) × (resolve r n [] k ≡ Some o)

-- the resolver walks the root, which has no location, to this end
abbrev pub ResolvesRoot : Record → Term → Walked Term → Type 0
ResolvesRoot r root end = (n : ℕ) × (walk None (resolve r n []) root ≡ end)
