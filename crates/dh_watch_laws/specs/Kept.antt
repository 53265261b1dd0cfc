-- What is kept between two asks: a record of texts, misses and limits, and outcomes, each found by the earlier ones.
use Rattle.std.specs.Prelude.{List, ◌≡◌, ℕ, [], ◌∷◌, Some, None, Option}
use Rattle.dh_syntax.specs.declared.locations.Key.{Key}
use Rattle.dh_imports.specs.Outcomes.{Outcome, Good, Bad, Loop}
use Rattle.dh_syntax.specs.Imports.Keys.{key_eq}
use Rattle.dh_imports.specs.Records.{lookup, Record, IsLimitOf, limit_at, Noted, Seen, text_at, look_at}
use Rattle.dh_imports.specs.Walk.{Ask}
use Rattle.dh_imports.specs.Resolver.{stage, ended, Has, Resolves}
use Rattle.dh_imports.specs.declared.outcomes.Why.{Why}
use Rattle.dh_syntax.specs.Expressions.Tree.{Term}
use Rattle.dh_imports.specs.LastStep.{Code, own}
use Rattle.dh_syntax.specs.declared.locations.Loc.{Loc}
use Rattle.dh_imports.specs.Machine.{with_text, with_look, with_limit}
use Rattle.dh_syntax.specs.declared.locations.Digest.{Digest}
use Rattle.dh_syntax.specs.declared.faults.Ill.{Ill}
use Rattle.dh_imports.specs.declared.outcomes.Blame.{Blame}
use Rattle.dh_imports.specs.ImportFaults.{ill_of}
use Rattle.dh_import_laws.specs.Blames.{StandsIn}

-- the latest first
abbrev pub Outcomes : Type 0
Outcomes = List (Key × Outcome)

-- the outcome that is kept of a key
abbrev pub known : Outcomes → Ask
known l k = lookup key_eq l k

-- the outcome of a key is no loop
abbrev pub IsNoLoop : Outcome → Type 0
IsNoLoop (Good v o) = Unit {0}
IsNoLoop (Bad b) = Unit {0}
IsNoLoop (Loop j) = ⊥

-- each is the last step of its key by the earlier ones, and none is a loop
pub data Found (r : Record) : Outcomes → Type 0 where
  nothing : Found r []
  one_more : {l : Outcomes} {k : Key} {o : Outcome} → Found r l → known l k ≡ None → IsNoLoop o → (n : ℕ) → ended r n k (stage r (known l) k) ≡ Some o
      → Found r ((k, o) ∷ l)

-- the limit is one that may be named for the code of this key, and it is the outcome
pub record IsLimited (r : Record) (ask : Ask) (k : Key) (w : Why) : Type 0 where
  pub code : Term
  pub allow : Option (List ℕ)
  pub due : stage r ask k ≡ Has (Code code allow)
  pub licensed : IsLimitOf code w
  pub decides : ask k ≡ Some (own k w)

-- what is kept between two asks: what was recorded, and the outcomes
pub record Kept : Type 0 where
  pub recorded : Record
  pub outcomes : Outcomes

-- it holds together
pub record IsSound (s : Kept) : Type 0 where
  pub found : Found s.recorded s.outcomes
  pub limited : (k : Key) (w : Why) → limit_at s.recorded k ≡ Some w → IsLimited s.recorded (known s.outcomes) k w

-- nothing is kept
abbrev pub nothing_kept : Kept
nothing_kept = record { recorded = record { texts = []; looks = []; limits = [] }; outcomes = [] }

-- what is kept with one more text
abbrev pub keep_text : Kept → Loc → Noted → Kept
keep_text s l t = record s { recorded = with_text s.recorded l t }

-- what is kept with one more look
abbrev pub keep_look : Kept → Digest → Seen → Kept
keep_look s d look = record s { recorded = with_look s.recorded d look }

-- what is kept with one more outcome of a key, and its limit if it met one
abbrev pub keep_outcome : Kept → Key → Option Why → Outcome → Kept
keep_outcome s k limit o = record { recorded = with_limit s.recorded k limit; outcomes = (k, o) ∷ s.outcomes }

-- the outcome is that of the last step on what is due of the key, or a limit that is licensed for its code
abbrev pub IsLast : Kept → Key → Option Why → Outcome → Type 0
IsLast s k None o = IsNoLoop o × ((n : ℕ) × (ended s.recorded n k (stage s.recorded (known s.outcomes) k) ≡ Some o))
IsLast s k (Some w) o =
    (e : Term) × (allow : Option (List ℕ)) × (stage s.recorded (known s.outcomes) k ≡ Has (Code e allow)) × IsLimitOf e w × (o ≡ own k w)

-- With one more text, where none was, what is kept holds together.
abbrev pub TextKept : Type 0
TextKept = (s : Kept) (l : Loc) (t : Noted) → IsSound s → text_at s.recorded l ≡ None → IsSound (keep_text s l t)

-- With one more look, where none was, what is kept holds together.
abbrev pub LookKept : Type 0
LookKept = (s : Kept) (d : Digest) (look : Seen) → IsSound s → look_at s.recorded d ≡ None → IsSound (keep_look s d look)

-- With one more outcome, by its last step or a licensed limit, of a key that had none, what is kept holds together.
abbrev pub OutcomeKept : Type 0
OutcomeKept = (s : Kept) (k : Key) (limit : Option Why) (o : Outcome) → IsSound s → known s.outcomes k ≡ None → IsLast s k limit o → IsSound (keep_outcome s k limit o)

-- Each outcome that is kept is the one that the resolver gives over what is recorded.
abbrev pub KeptAreResolved : Type 0
KeptAreResolved =
    (s : Kept) → IsSound s → (k : Key) (o : Outcome) → known s.outcomes k ≡ Some o → Resolves s.recorded k o

-- A place without a type that decides a key stands in the text of a key that was found, and whose imports all have values by the
-- outcomes that are kept: that text with its values is refused there.
abbrev pub FaultsOfKeptStand : Type 0
FaultsOfKeptStand =
    (s : Kept) (k : Key) (b : Blame) (f : Ill) → IsSound s → known s.outcomes k ≡ Some (Bad b) → ill_of b.why ≡ Some f
    → StandsIn s.recorded (known s.outcomes) b f
