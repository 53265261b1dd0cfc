-- Normal forms are reached by steps.
use Rattle.dh_syntax.specs.Normalising.Heads.{Lang}
use Rattle.dh_syntax.specs.Normalising.Named.{names}
use Rattle.dh_syntax.specs.Normalising.NamelessRuns.{cores, bares}
use Rattle.dh_syntax.specs.Normalising.Normal.{HasNormalForm}
use Rattle.dh_syntax.specs.Normalising.Steps.{Reaches}

-- contractions at places, one after another, lead from an expression to its normal form
abbrev pub ReachesNormalForm : {T : Type 0} → Lang T → Type 0
ReachesNormalForm {T = T} L = (e f : T) → HasNormalForm L e f → Reaches L e f

-- Steps lead each expression that has a normal form to it.
abbrev pub NamedReach : Type 0
NamedReach = ReachesNormalForm names

-- Steps lead each nameless expression that has a normal form to it.
abbrev pub CoreReach : Type 0
CoreReach = ReachesNormalForm cores

-- Steps lead each form without any names that has a normal form to it.
abbrev pub BareReach : Type 0
BareReach = ReachesNormalForm bares
