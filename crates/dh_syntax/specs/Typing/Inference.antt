-- What typing asks for, step by step, and what it comes to with a number of units.
--
-- The rules of typing ask for normal forms and know nothing of units and limits. An inference is the course of these
-- questions. With a normaliser that answers them it comes to a type, to the place where no type can be derived, or to a
-- limit. Only the fault that the units do not suffice speaks of the units given: a refusal, and a limit of another kind, is
-- what some number of units comes to. The units and the limits are this project's own.
use Rattle.std.specs.Prelude.{◌≡◌, ◌⊎◌, ℕ, List, [], ◌∷◌, Option, Some, None, ⊤}
use Rattle.dh_syntax.specs.declared.faults.NormFault.{NormFault}
use Rattle.dh_syntax.specs.declared.faults.NormFault.TheVariants as fault
use Rattle.dh_syntax.specs.Limits.{purse_aside}
use Rattle.dh_syntax.specs.Normalising.Heads.{Lang, Whole, Answer, Found, Wide, Deep, Over, run}
use Rattle.dh_syntax.specs.Normalising.Normal.{endless, HasNormalForm, plain_answer, IsDeepLicensed, IsWideLicensed}
use Rattle.dh_syntax.specs.Typing.TypeRules.{Rule}

-- the course of what the typing of an expression asks for
pub data Inference (T : Type 0) : Type 0 where
  -- the type
  Gives : T → Inference T
  -- the rule fails at the expression itself
  Fails : Rule → Inference T
  -- the depth does not suffice (see `Typing`)
  Deeper : Inference T
  -- what follows from the normal form of an expression, which is paid for
  FromNormal : T → (T → Inference T) → Inference T
  -- what follows from the type of the part k
  FromPart : ℕ → Inference T → (T → Inference T) → Inference T
  -- what follows from the type of an expression, none where it has none; it is found with as many units as it takes, so
  -- it costs nothing
  Aside : Inference T → (Option T → Inference T) → Inference T
  -- the type of another expression; where that one has none, the rule fails
  Instead : Inference T → Rule → Inference T

-- what an inference comes to
pub data Judgment (T : Type 0) : Type 0 where
  -- the type, with the units that are left
  Has : T → ℕ → Judgment T
  -- the first place where no type can be derived, as the numbers of the parts on the way to it, and the rule that fails
  Ill : List ℕ → Rule → Judgment T
  -- a normalising ends at a number, text or list beyond its limit
  IsWide : Judgment T
  -- a normalising ends at a height or nesting beyond its limit
  IsDeep : Judgment T
  -- the units do not suffice
  IsOver : Judgment T
  -- the purse of a typing aside does not suffice
  IsOverAside : Judgment T
  -- the depth does not suffice
  IsShallow : Judgment T

module _ {T : Type 0} where
  -- what follows a normalising
  abbrev pub after_normal : Answer T → (T → ℕ → Judgment T) → Judgment T
  after_normal (Found e left) next = next e left
  after_normal (Wide left) next = IsWide
  after_normal (Deep left) next = IsDeep
  after_normal Over next = IsOver

  -- what follows the typing of the part k; a place in it is one below k
  abbrev pub after_part : ℕ → Judgment T → (T → ℕ → Judgment T) → Judgment T
  after_part k (Has t left) next = next t left
  after_part k (Ill path rule) next = Ill (k ∷ path) rule
  after_part k IsWide next = IsWide
  after_part k IsDeep next = IsDeep
  after_part k IsOver next = IsOver
  after_part k IsOverAside next = IsOverAside
  after_part k IsShallow next = IsShallow

  -- what follows a typing aside, whose purse is not that of the inference
  abbrev pub after_aside : Judgment T → (Option T → Judgment T) → Judgment T
  after_aside (Has t left) next = next (Some t)
  after_aside (Ill path rule) next = next None
  after_aside IsWide next = IsWide
  after_aside IsDeep next = IsDeep
  after_aside IsOver next = IsOverAside
  after_aside IsOverAside next = IsOverAside
  after_aside IsShallow next = IsShallow

  -- the rule in the place of the one that failed, and the expression itself in the place of where it failed
  abbrev pub instead : Judgment T → Rule → Judgment T
  instead (Has t left) rule = Has t left
  instead (Ill path other) rule = Ill [] rule
  instead IsWide rule = IsWide
  instead IsDeep rule = IsDeep
  instead IsOver rule = IsOver
  instead IsOverAside rule = IsOverAside
  instead IsShallow rule = IsShallow

  -- What an inference comes to with so many units. `normal` answers for an expression and the units that are left when
  -- it is normalised; `purse` is the units that each typing aside has.
  abbrev pub judged : (ℕ → T → Answer T) → ℕ → ℕ → Inference T → Judgment T
  judged normal purse units (Gives t) = Has t units
  judged normal purse units (Fails rule) = Ill [] rule
  judged normal purse units Deeper = IsShallow
  judged normal purse units (FromNormal e next) = after_normal (normal units e) (λ f left. judged normal purse left (next f))
  judged normal purse units (FromPart k m next) = after_part k (judged normal purse units m) (λ t left. judged normal purse left (next t))
  judged normal purse units (Aside m next) = after_aside (judged normal purse purse m) (λ t. judged normal purse units (next t))
  judged normal purse units (Instead m rule) = instead (judged normal purse units m) rule

module _ {T : Type 0} (L : Lang T) where
  -- ---- without an end by height or nesting

  -- what an inference comes to, with so many heights for each normalising and such a purse for each typing aside
  abbrev pub judged_within : ℕ → ℕ → ℕ → Inference T → Judgment T
  judged_within heights purse units m = judged (λ u e. run (endless L) heights Whole u e) purse units m

  -- what an inference comes to, where the heights and the purse suffice
  abbrev pub ComesTo : ℕ → Inference T → Judgment T → Type 0
  ComesTo units m judgment = (heights : ℕ) × (purse : ℕ) × (judged_within heights purse units m ≡ judgment)

  -- the type that some number of units gives
  abbrev pub ComesToType : Inference T → T → Type 0
  ComesToType m t = (units : ℕ) × (left : ℕ) × ComesTo units m (Has t left)

  -- the refusal that some number of units gives
  abbrev pub IsRefused : Inference T → List ℕ → Rule → Type 0
  IsRefused m path rule = (units : ℕ) × ComesTo units m (Ill path rule)

  -- Some number of units comes to a normalising of an expression that meets the one limit, or to a typing aside that meets
  -- the other one.
  abbrev pub MeetsLimit : (T → Type 0) → (Inference T → Type 0) → Inference T → Type 0
  MeetsLimit normal aside (Gives t) = ⊥
  MeetsLimit normal aside (Fails rule) = ⊥
  MeetsLimit normal aside Deeper = ⊥
  MeetsLimit normal aside (FromNormal e next) = normal e ⊎ ((f : T) × HasNormalForm L e f × MeetsLimit normal aside (next f))
  MeetsLimit normal aside (FromPart k m next) = MeetsLimit normal aside m ⊎ ((t : T) × ComesToType m t × MeetsLimit normal aside (next t))
  MeetsLimit normal aside (Aside m next) =
      aside m
      ⊎ MeetsLimit normal aside m
      ⊎ ((t : T) × ComesToType m t × MeetsLimit normal aside (next (Some t)))
      ⊎ ((path : List ℕ) × (rule : Rule) × IsRefused m path rule × MeetsLimit normal aside (next None))
  MeetsLimit normal aside (Instead m rule) = MeetsLimit normal aside m

  -- one of the normalisings is of such an expression
  abbrev pub MeetsNormal : (T → Type 0) → Inference T → Type 0
  MeetsNormal normal m = MeetsLimit normal (λ i. ⊥) m

  -- the purse of one of the typings aside does not suffice
  abbrev pub IsSpentAside : Inference T → Type 0
  IsSpentAside m = MeetsLimit (λ e. ⊥) (λ i. ComesTo purse_aside i IsOver) m

  module _ (nesting : T → ℕ) where
    -- ---- with an end by height and nesting

    -- what an inference comes to over the plain normaliser
    abbrev pub plainly_judged : ℕ → ℕ → Inference T → Judgment T
    plainly_judged purse units m = judged (plain_answer L nesting) purse units m

    -- ---- limits that may be answered in the place of a judgment

    -- the fault may be answered for the inference and so many units
    abbrev pub IsLicensedIn : ℕ → Inference T → NormFault → Type 0
    IsLicensedIn units m fault.Spent = ComesTo units m IsOver ⊎ IsSpentAside m
    IsLicensedIn units m fault.Wide = MeetsNormal (IsWideLicensed L nesting) m
    IsLicensedIn units m fault.Deep = MeetsNormal (IsDeepLicensed L nesting) m
    IsLicensedIn units m fault.Memory = ⊤
