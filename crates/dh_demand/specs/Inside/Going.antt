-- Whether a walk goes on after a fault.
use Rattle.std.specs.Prelude.{Bool, false, Option, Some, None}
use Rattle.dh_imports.specs.declared.outcomes.Outcome as program
use Rattle.dh_imports.specs.declared.outcomes.Outcome.TheVariants as variants
use Rattle.dh_imports.specs.Outcomes.{may_go_on}
use Rattle.dh_imports.specs.Walk.{Walked, Ready, Fails, Turns, Needs}

-- a fault after which `l ? r` goes on
abbrev pub goes_on : {X : Type 0} → Walked X → Bool
goes_on (Fails b) = may_go_on b.why
goes_on (Ready x) = false
goes_on (Turns j) = false
goes_on (Needs k) = false

-- whether the outcome is a fault after which `?` goes on
abbrev pub has_passing_fault : Option program.Outcome → Bool
has_passing_fault None = false
has_passing_fault (Some (variants.Good v o)) = false
has_passing_fault (Some (variants.Bad b)) = may_go_on b.why
