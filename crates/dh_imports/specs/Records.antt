-- What one run found outside: texts by location, cache entries by digest, and the limits that were met.
use Rattle.std.specs.Prelude.{◌≡◌, ℕ, Bool, false, if◌then◌else◌, List, [], ◌∷◌, Option, Some, None, Result, ⊤}
use Rattle.dh_syntax.specs.declared.faults.NormFault.TheVariants as norm
use Rattle.dh_syntax.specs.declared.faults.ParseFault.{ParseFault}
use Rattle.dh_syntax.specs.declared.faults.TypeFault.TheVariants as type
use Rattle.dh_syntax.specs.declared.locations.Digest.{Digest}
use Rattle.dh_syntax.specs.declared.locations.Key.{Key}
use Rattle.dh_syntax.specs.declared.locations.Loc.{Loc}
use Rattle.dh_syntax.specs.Bytes.BinaryRead.{Reads}
use Rattle.dh_syntax.specs.Typing.Inference.{Has}
use Rattle.dh_syntax.specs.Normalising.Named.{names}
use Rattle.dh_syntax.specs.Typing.NamedTyping.{Infers, IsTypeFault}
use Rattle.dh_syntax.specs.Expressions.Nesting.{nesting}
use Rattle.dh_syntax.specs.Normalising.Normal.{IsLicensed}
use Rattle.dh_syntax.specs.Expressions.SameTree.{digest_eq, loc_eq}
use Rattle.dh_syntax.specs.Text.Spelling.{ParsesTo}
use Rattle.dh_syntax.specs.Names.Subst.{is_free}
use Rattle.dh_syntax.specs.Expressions.Tree.{Name, Term}
use Rattle.sha2.specs.Sha256.{sha256}
use Rattle.dh_syntax.specs.Imports.Keys.{key_eq}
use Rattle.dh_imports.specs.declared.outcomes.Why.{Why}
use Rattle.dh_imports.specs.declared.outcomes.Why.TheVariants.{Typing, Norm}
use Rattle.dh_syntax.specs.Limits.{whole_purse}
use Rattle.dh_imports.specs.Walk.{keys_of}

-- what stands first in the list under this name
abbrev pub lookup : {A B : Type 0} → (A → A → Bool) → List (A × B) → A → Option B
lookup same [] a = None
lookup same (p ∷ ps) a = if same p.0 a then Some p.1 else lookup same ps a

-- what was found at a location
pub data Noted : Type 0 where
  -- these bytes with this allowed origin, and what they parse to
  Found : List ℕ → Option (List ℕ) → Result Term ParseFault → Noted
  Absent : Noted
  Broken : ℕ → Noted
  Failed : Noted

-- what was found under a digest: the bytes of a good entry and the expression that they are, or no such entry
pub data Seen : Type 0 where
  Good : List ℕ → Term → Seen
  Miss : Seen
  Failed : Seen

-- what one run found outside: texts, cache entries, and the limits that decided keys
pub record Record : Type 0 where
  pub texts : List (Loc × Noted)
  pub looks : List (Digest × Seen)
  -- the limit by which a key was decided
  pub limits : List (Key × Why)

-- what was found at a location, if it was looked for
abbrev pub text_at : Record → Loc → Option Noted
text_at r l = lookup loc_eq r.texts l

-- what was found under a digest, if it was looked for
abbrev pub look_at : Record → Digest → Option Seen
look_at r d = lookup digest_eq r.looks d

-- the limit that decided a key, if one did
abbrev pub limit_at : Record → Key → Option Why
limit_at r k = lookup key_eq r.limits k

-- a record of nothing
abbrev pub nothing_recorded : Record
nothing_recorded = record { texts = []; looks = []; limits = [] }

-- ---- what is true of the parts of a record

-- what is recorded of found bytes is what they parse to
abbrev pub IsParsed : Noted → Type 0
IsParsed (Found bytes allow parsed) = ParsesTo bytes parsed
IsParsed _ = ⊤

-- no variable is free
abbrev pub IsClosed : Term → Type 0
IsClosed e = (x : Name) (n : ℕ) → is_free x n e ≡ false

-- the entry is good: its digest is this one, it reads as the expression, and that holds no import and no free variable
abbrev pub IsGood : Digest → Seen → Type 0
IsGood d (Good bytes e) = (sha256 bytes ≡ d.0) × Reads bytes e × (keys_of None e ≡ []) × IsClosed e
IsGood d _ = ⊤

-- some number of units gives e a type
abbrev pub IsTyped : Term → Type 0
IsTyped e = (units : ℕ) × (t : Term) × (left : ℕ) × Infers [] units e (Has t left)

-- the limit may be answered for the typing of e, or for the normal form of e where e has a type, each with its whole purse
abbrev pub IsLimitOf : Term → Why → Type 0
IsLimitOf e (Typing type.Wide) = IsTypeFault [] whole_purse e type.Wide
IsLimitOf e (Typing type.Spent) = IsTypeFault [] whole_purse e type.Spent
IsLimitOf e (Typing type.Deep) = IsTypeFault [] whole_purse e type.Deep
IsLimitOf e (Norm norm.Wide) = IsTyped e × IsLicensed names nesting whole_purse e norm.Wide
IsLimitOf e (Norm norm.Spent) = IsTyped e × IsLicensed names nesting whole_purse e norm.Spent
IsLimitOf e (Norm norm.Deep) = IsTyped e × IsLicensed names nesting whole_purse e norm.Deep
IsLimitOf e _ = ⊥
