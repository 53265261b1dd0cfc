-- What a rule of typing answers on a node whose parts are typed, and how a rule is put together from its checks
-- (the standard's "Type inference").
--
-- A rule sees the normal types of the parts, from left to right, without that of an annotation. Where it needs more, the
-- normal form of a part or the universe that a part's type is in, it says so, and says what follows from it. So what a
-- check does not need is not looked for.
use Rattle.std.specs.Prelude.{ℕ, Bool, true, false, List, [], ◌∷◌, Option, Some, None, option_and_then, slice_get}
use Rattle.dh_syntax.specs.declared.operators.Builtin.{Builtin}
use Rattle.dh_syntax.specs.Typing.TypeRules.{Rule}

-- what a rule of typing answers on a node, or what it still needs to know
pub data Ruling (T : Type 0) : Type 0 where
  -- the type is this one, which is in normal form: a built-in type, a universe, or a type or normal form that is known
  Takes : T → Ruling T
  -- the type is the normal form of this one, which the rule makes
  Forms : T → Ruling T
  -- the rule fails
  Refuses : Rule → Ruling T
  -- what follows from the normal form of the part k
  WithNormal : ℕ → (T → Ruling T) → Ruling T
  -- what follows from the universe that the type of the part k is in, if it is in one
  WithUniverse : ℕ → (Option Builtin → Ruling T) → Ruling T

module _ {T : Type 0} where
  -- a check: the rule fails unless the test holds
  abbrev pub require : Bool → Rule → Ruling T → Ruling T
  require true rule next = next
  require false rule next = Refuses rule

  -- a check: the rule fails unless an expression has a form
  abbrev pub given : {X : Type 0} → Option X → Rule → (X → Ruling T) → Ruling T
  given (Some x) rule next = next x
  given None rule next = Refuses rule

-- ---- a rule on a node of which all is known that it needs

-- what is known of a part
pub record Known (T : Type 0) : Type 0 where
  -- its normal form, where the rule needs it
  pub normal : Option T
  -- its normal type; none for an annotation that is the constant `Sort`
  pub typed : Option T
  -- the universe that its type is in; none where it is in none
  pub universe : Option Builtin

-- what a rule comes to once all is known: a type, or the rule that fails
pub data Ruled (T : Type 0) : Type 0 where
  Typed : T → Ruled T
  No : Rule → Ruled T

module _ {T : Type 0} where
  -- one more type, if the part has one
  abbrev pub prepend_type : Option T → List T → List T
  prepend_type (Some t) ts = t ∷ ts
  prepend_type None ts = ts

  -- the types of the parts that have one
  abbrev pub types_of : List (Known T) → List T
  types_of [] = []
  types_of (k ∷ ks) = prepend_type k.typed (types_of ks)

  -- what is known of the part i
  abbrev pub normal_at : List (Known T) → ℕ → Option T
  normal_at ks i = option_and_then (λ k. k.normal) (slice_get ks i)

  abbrev pub universe_at : List (Known T) → ℕ → Option Builtin
  universe_at ks i = option_and_then (λ k. k.universe) (slice_get ks i)

  -- what follows from a normal form that is known
  abbrev pub from_known : Option T → (T → Option (Ruled T)) → Option (Ruled T)
  from_known (Some e) next = next e
  from_known None next = None

  -- the type that a rule gives, before it is normalised, or its refusal; none where the rule needs a normal form that is
  -- not known
  abbrev pub ruled : List (Known T) → Ruling T → Option (Ruled T)
  ruled ks (Takes t) = Some (Typed t)
  ruled ks (Forms t) = Some (Typed t)
  ruled ks (Refuses rule) = Some (No rule)
  ruled ks (WithNormal k next) = from_known (normal_at ks k) (λ e. ruled ks (next e))
  ruled ks (WithUniverse k next) = ruled ks (next (universe_at ks k))
