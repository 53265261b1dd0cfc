-- What comes of a key: a value, a fault, or a loop.
use Rattle.std.specs.Prelude.{Bool, true, false, Option, Some}
use Rattle.dh_syntax.specs.declared.locations.Key.{Key}
use Rattle.dh_imports.specs.declared.outcomes.Outcome as program
use Rattle.dh_imports.specs.declared.outcomes.Outcome.TheVariants as variants
use Rattle.dh_imports.specs.declared.outcomes.Blame.{Blame}
use Rattle.dh_imports.specs.declared.outcomes.Origin.{Origin}
use Rattle.dh_imports.specs.declared.outcomes.Why.{Why}
use Rattle.dh_imports.specs.declared.outcomes.Why.TheVariants.{Absent, Missing, Https, Differs, Cycle}
use Rattle.dh_syntax.specs.Expressions.Bridge.{term}
use Rattle.dh_syntax.specs.Expressions.Tree.{Term}

-- what comes of a key: its value and where that is from, a fault, or a loop
pub data Outcome : Type 0 where
  Good : Term → Origin → Outcome
  -- a fault other than `Cycle`
  Bad : Blame → Outcome
  -- the fault `Cycle`, blamed on the least key of the loop
  Loop : Key → Outcome

-- the outcome of a key that is at fault, a loop for the fault `Cycle`
abbrev pub of_blame : Option Key → Why → Outcome
of_blame (Some j) Cycle = Loop j
of_blame at why = Bad (record { at = at; why = why })

-- what an outcome of the program says
abbrev pub plain : program.Outcome → Outcome
plain (variants.Good v o) = Good (term v) o
plain (variants.Bad b) = of_blame b.at b.why

-- whether `l ? r` goes on with r after this fault of l
abbrev pub may_go_on : Why → Bool
may_go_on Absent = true
may_go_on Missing = true
may_go_on Https = true
may_go_on (Differs wanted got) = true
may_go_on _ = false
