-- How far a rule of typing goes on what is known.
--
-- A rule asks for normal forms and universes as it goes (`Ruling`). Where one is asked for that is not known, it is wanted: the
-- caller finds it, and asks again with more known.
use Rattle.std.specs.Prelude.{ℕ, zero, suc, Option, Some, None, option_map}
use Rattle.dh_syntax.specs.declared.operators.Builtin.{Builtin}
use Rattle.dh_syntax.specs.Typing.TypeRules.{rule_number}
use Rattle.dh_syntax.specs.Typing.TypeRuling as ruling
use Rattle.dh_syntax.specs.Typing.TypeRuling.{Ruling}
use Rattle.dh_syntax.specs.Names.Nameless.{Core}
use Rattle.dh_types.specs.declared.steps.Found.{Found}
use Rattle.dh_types.specs.declared.steps.Step.TheVariants as steps
use Rattle.dh_types.specs.declared.steps.Step.{Step}

-- what is known of the parts of a node
pub record Facts (T : Type 0) : Type 0 where
  -- the normal form of the part k
  pub normal : ℕ → Option T
  -- the universe that the type of the part k is in, none where it is in none
  pub universe : ℕ → Option (Option Builtin)

-- how far a rule goes
pub data Course (T : Type 0) : Type 0 where
  -- the type is this one, which is in normal form
  Takes : T → Course T
  -- the type is the normal form of this one
  Forms : T → Course T
  -- the rule with this number fails
  Refuses : ℕ → Course T
  -- the normal form of the part k is wanted
  WantsNormal : ℕ → Course T
  -- the universe that the type of the part k is in is wanted
  WantsUniverse : ℕ → Course T

module _ {T : Type 0} where
  -- what follows from what is known, or what is wanted
  abbrev pub known_or : {X : Type 0} → Course T → Option X → (X → Course T) → Course T
  known_or wanted (Some x) next = next x
  known_or wanted None next = wanted

  abbrev pub follow : Facts T → Ruling T → Course T
  follow facts (ruling.Takes t) = Takes t
  follow facts (ruling.Forms t) = Forms t
  follow facts (ruling.Refuses rule) = Refuses (rule_number rule)
  follow facts (ruling.WithNormal k next) = known_or (WantsNormal k) (facts.normal k) (λ e. follow facts (next e))
  follow facts (ruling.WithUniverse k next) = known_or (WantsUniverse k) (facts.universe k) (λ u. follow facts (next u))

-- ---- in the program

-- the normal form of the part k, none is asked for past the third part
abbrev pub normal_found : Found → ℕ → Option ℕ
normal_found found zero = found.first
normal_found found (suc zero) = found.second
normal_found found (suc (suc zero)) = found.third
normal_found found (suc (suc (suc k))) = None

-- the universe that the type of the part k is in, none is asked for past the second part
abbrev pub universe_found : Found → ℕ → Option (Option Builtin)
universe_found found zero = found.first_universe
universe_found found (suc zero) = found.second_universe
universe_found found (suc (suc k)) = None

-- what is known, where a number stands for `f` of it
abbrev pub facts_of : (ℕ → Core) → Found → Facts Core
facts_of f found = record { normal = λ k. option_map f (normal_found found k); universe = universe_found found }

-- what a rule does next, where a number stands for `f` of it
abbrev pub course_of : (ℕ → Core) → Step → Course Core
course_of f (steps.Takes c) = Takes (f c)
course_of f (steps.Forms c) = Forms (f c)
course_of f (steps.Refuses rule) = Refuses rule
course_of f (steps.WantsNormal k) = WantsNormal k
course_of f (steps.WantsUniverse k) = WantsUniverse k
