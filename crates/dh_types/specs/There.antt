-- Codes that are there.
use Rattle.std.specs.Prelude.{◌<◌, IfSome}
use Rattle.dh_store.specs.declared.codes.Codes.{Codes}
use Rattle.dh_store.specs.Growth.{count}
use Rattle.dh_types.specs.declared.steps.Found.{Found}
use Rattle.dh_types.specs.declared.steps.Step.{Step}
use Rattle.dh_types.specs.declared.steps.Step.TheVariants as steps

-- the type that a rule gives is there
abbrev pub IsStepThere : Codes → Step → Type 0
IsStepThere cs (steps.Takes c) = c < count cs
IsStepThere cs (steps.Forms c) = c < count cs
IsStepThere cs _ = Unit {0}

-- the normal forms that are known are there
pub record IsFoundThere (cs : Codes) (found : Found) : Type 0 where
  pub first : IfSome found.first (λ c. c < count cs)
  pub second : IfSome found.second (λ c. c < count cs)
  pub third : IfSome found.third (λ c. c < count cs)
