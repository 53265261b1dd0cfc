-- Items and what comes of them.
use Rattle.std.specs.Prelude.{◌≡◌, ℕ, Bool, true, false, List, Option, Some, None}
use Rattle.dh_syntax.specs.declared.locations.Key.{Key}
use Rattle.dh_imports.specs.declared.outcomes.Outcome as program
use Rattle.dh_imports.specs.declared.outcomes.Why.{Why}
use Rattle.dh_imports.specs.declared.outcomes.Why.TheVariants.{Cycle}
use Rattle.dh_syntax.specs.Expressions.Bridge.{term}
use Rattle.dh_syntax.specs.Expressions.Tree.{Term}
use Rattle.dh_imports.specs.LastStep as last
use Rattle.dh_imports.specs.LastStep.{own, last_step}
use Rattle.dh_imports.specs.Outcomes.{Outcome, Loop, plain}
use Rattle.dh_imports.specs.Records.{IsLimitOf}
use Rattle.dh_imports.specs.Resolver.{Stage, Has, Meets, Lacks, Waits}
use Rattle.dh_record.specs.declared.items.Body.{Body}
use Rattle.dh_record.specs.declared.items.Body.TheVariants as body
use Rattle.dh_record.specs.declared.items.Item.{Item}

-- a fault, or the loop that it tells
abbrev pub by_fault : Option Key → Why → Stage
by_fault (Some j) Cycle = Meets j
by_fault at why = Has (last.Fault (record { at = at; why = why }))

-- the stage at which a last step is due on this body, of a text with these allowed origins
abbrev pub by_body : Option (List ℕ) → Body → Stage
by_body allow (body.Code e) = Has (last.Code (term e) allow)
by_body allow (body.Text bytes) = Has (last.Text bytes allow)
by_body allow (body.Location l) = Has (last.Location l)
by_body allow (body.Compare e o) = Has (last.Compare (term e) o)
by_body allow (body.Entry e) = Has (last.Entry (term e))
by_body allow (body.Fault b) = by_fault b.at b.why

-- the stage at which the last step of a key is due on this item
abbrev pub stage_of_item : Item → Stage
stage_of_item i = by_body i.allow i.body

-- what the last step gives at a stage, with so much to spend
abbrev pub comes : ℕ → Key → Stage → Option Outcome
comes n k (Has i) = last_step n k i
comes n k (Meets j) = Some (Loop j)
comes n k (Lacks p) = None
comes n k (Waits y) = None

-- the limit w is licensed for the code of this stage, and is the outcome
abbrev pub IsLimit : Key → Stage → Outcome → Type 0
IsLimit k s o = (e : Term) × (allow : Option (List ℕ)) × (w : Why) × (s ≡ Has (last.Code e allow)) × IsLimitOf e w × (o ≡ own k w)

-- the outcome is that of the last step on the item, or a limit that is licensed for it
abbrev pub IsLast : Item → program.Outcome → Bool → Type 0
IsLast i o false = (n : ℕ) × (comes n i.key (stage_of_item i) ≡ Some (plain o))
IsLast i o true = IsLimit i.key (stage_of_item i) (plain o)
