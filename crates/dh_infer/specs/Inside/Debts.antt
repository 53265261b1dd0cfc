-- What the machine that types owes.
--
-- An answer is wanted for a first inference that is behind the plain count by units alone. Each debt on the stack turns an answer to
-- the inference above it into one to the inference below it, or into an inference that goes on from there. So each step keeps what is
-- owed, and what comes to the empty stack at last is an answer to the first inference.
use Rattle.std.specs.Prelude.{◌≡◌, ◌⊎◌, ◌+◌, ℕ, List, [], ◌∷◌, Option, Some, None, slice_get}
use Rattle.dh_syntax.specs.declared.operators.Builtin.{Builtin}
use Rattle.dh_syntax.specs.Expressions.Nesting.{nesting}
use Rattle.dh_syntax.specs.Limits.{purse_aside}
use Rattle.dh_syntax.specs.Names.Nameless.{Core}
use Rattle.dh_syntax.specs.Normalising.NamelessRuns.{cores}
use Rattle.dh_syntax.specs.Normalising.Normal.{IsWideLicensed, IsDeepLicensed}
use Rattle.dh_syntax.specs.Typing.Inference.{Inference, Judgment, Has, Ill, IsWide, IsDeep, IsOver, IsOverAside, IsShallow, ComesTo, IsRefused}
use Rattle.dh_syntax.specs.Typing.TypeRules.{Rule}
use Rattle.dh_syntax.specs.Typing.Universes.{as_universe}
use Rattle.dh_types.specs.declared.steps.Found.{Found}
use Rattle.dh_types.specs.Following.{universe_found}
use Rattle.dh_typing_laws.specs.KeptTypes.{TypingLag}
use Rattle.dh_infer.specs.Inside.OpenTyping.{typing_at}

-- an inference, by the depth that it has
abbrev pub Family : Type 0
Family = ℕ → Inference Core

-- the typing of an expression where the numbered variables have these types
abbrev pub whole : List Core → Core → Family
whole ts e depth = typing_at ts depth e

-- what may be answered with so many units
abbrev pub Lags : ℕ → Inference Core → Judgment Core → Type 0
Lags units i answer = TypingLag cores (IsWideLicensed cores nesting) (IsDeepLicensed cores nesting) purse_aside (λ t. t) units i answer

-- so it is with all depths from some depth on
abbrev pub Meets : ℕ → Family → Judgment Core → Type 0
Meets units family answer = (enough : ℕ) × ((more : ℕ) → Lags units (family (more + enough)) answer)

-- the type that an inference comes to, whatever it costs
abbrev pub HasFound : Family → Core → Type 0
HasFound family t = (enough : ℕ) × ((more : ℕ) → (units : ℕ) × ComesTo cores units (family (more + enough)) (Has t 0))

-- some number of units refuses it
abbrev pub IsWithoutType : Family → Type 0
IsWithoutType family = (enough : ℕ) × ((more : ℕ) → (path : List ℕ) × (rule : Rule) × IsRefused cores (family (more + enough)) path rule)

-- the universe that a type is in, none where it is in none
abbrev pub IsUniverse : Family → Option Builtin → Type 0
IsUniverse family u = ((t : Core) × HasFound family t × (as_universe t ≡ u)) ⊎ (IsWithoutType family × (u ≡ None))

-- the universes that were found are those of these types, where the numbered variables have the types ts
abbrev pub AreUniverses : List Core → List Core → Found → Type 0
AreUniverses ts us found = (k : ℕ) (u : Option Builtin) → universe_found found k ≡ Some u → (t : Core) × (slice_get us k ≡ Some t) × IsUniverse (whole ts t) u

-- ---- debts

-- what a frame on the stack awaits, and what follows once that is answered
pub data Debt : Type 0 where
  -- the part with this number is typed, and this follows from its type
  Part : ℕ → (Core → Family) → Debt
  -- a type is typed aside, by this inference, while universes of these types are known; then so many units are left, and this follows
  Beside : ℕ → Family → List Core → List Core → Found → (Option Core → Family) → Debt
  -- another expression is typed; if it has no type, this rule fails
  Replaced : Rule → Debt
  -- a value is typed for its first use, by this inference
  Used : Family → Debt

-- each answer to an inference, with so many units, is one that leads on
abbrev pub Leads : (Judgment Core → Type 0) → Family → ℕ → Type 0
Leads comes family units = (answer : Judgment Core) → Meets units family answer → comes answer

-- what an answer is worth that comes to a debt
abbrev pub through : Debt → (Judgment Core → Type 0) → Judgment Core → Type 0
through (Part k next) comes (Has t left) = Leads comes (next t) left
through (Part k next) comes (Ill path rule) = comes (Ill (k ∷ path) rule)
through (Part k next) comes IsWide = comes IsWide
through (Part k next) comes IsDeep = comes IsDeep
through (Part k next) comes IsOver = comes IsOver
through (Part k next) comes IsOverAside = comes IsOverAside
through (Part k next) comes IsShallow = comes IsShallow
through (Beside units aside ts us found next) comes (Has t left) = AreUniverses ts us found × HasFound aside t × Leads comes (next (Some t)) units
through (Beside units aside ts us found next) comes (Ill path rule) = AreUniverses ts us found × IsWithoutType aside × Leads comes (next None) units
through (Beside units aside ts us found next) comes IsWide = comes IsWide
through (Beside units aside ts us found next) comes IsDeep = comes IsDeep
through (Beside units aside ts us found next) comes IsOver = comes IsOverAside
through (Beside units aside ts us found next) comes IsOverAside = comes IsOverAside
through (Beside units aside ts us found next) comes IsShallow = comes IsShallow
through (Replaced rule) comes (Has t left) = comes (Has t left)
through (Replaced rule) comes (Ill path other) = comes (Ill [] rule)
through (Replaced rule) comes IsWide = comes IsWide
through (Replaced rule) comes IsDeep = comes IsDeep
through (Replaced rule) comes IsOver = comes IsOver
through (Replaced rule) comes IsOverAside = comes IsOverAside
through (Replaced rule) comes IsShallow = comes IsShallow
through (Used family) comes answer = ((units : ℕ) × Meets units family answer) × comes answer

-- units and an inference
abbrev pub Root : Type 0
Root = ℕ × Family

-- what an answer is worth that comes to a stack of debts
abbrev pub Comes : Root → List Debt → Judgment Core → Type 0
Comes root [] answer = Meets root.0 root.1 answer
Comes root (d ∷ ds) answer = through d (Comes root ds) answer

-- an inference goes on above a stack of debts, with so many units
abbrev pub Goes : Root → List Debt → Family → ℕ → Type 0
Goes root ds family units = Leads (Comes root ds) family units
