-- Rules of typing on types without loose variables.
use Rattle.std.specs.Prelude.{ℕ, List, [], ◌∷◌, IfSome}
use Rattle.dh_syntax.specs.Names.Nameless.{Core}
use Rattle.dh_types.specs.Closed.{IsClosed}
use Rattle.dh_types.specs.declared.steps.Found.{Found}
use Rattle.dh_types.specs.declared.steps.Step.{Step}
use Rattle.dh_types.specs.declared.steps.Step.TheVariants as steps

-- each of these types has no loose variable
abbrev pub AreTypesClosed : (ℕ → Core) → List ℕ → Type 0
AreTypesClosed f [] = Unit {0}
AreTypesClosed f (c ∷ cs) = IsClosed (f c) × AreTypesClosed f cs

-- nor has each normal form that is known
pub record IsFoundClosed (f : ℕ → Core) (found : Found) : Type 0 where
  pub first : IfSome found.first (λ c. IsClosed (f c))
  pub second : IfSome found.second (λ c. IsClosed (f c))
  pub third : IfSome found.third (λ c. IsClosed (f c))

-- nor has the type that a rule gives
abbrev pub IsStepClosed : (ℕ → Core) → Step → Type 0
IsStepClosed f (steps.Takes c) = IsClosed (f c)
IsStepClosed f (steps.Forms c) = IsClosed (f c)
IsStepClosed f _ = Unit {0}
