-- On what the last step of a key is due, as the program keeps it.
use Rattle.std.specs.Prelude.{◌≡◌, ℕ, List, Option, Some, None}
use Rattle.dh_syntax.specs.declared.locations.Key.{Key}
use Rattle.dh_imports.specs.declared.outcomes.Blame.{Blame}
use Rattle.dh_imports.specs.declared.outcomes.Why.{Why}
use Rattle.dh_imports.specs.declared.outcomes.Why.TheVariants as whys
use Rattle.dh_syntax.specs.Expressions.Bridge.{term}
use Rattle.dh_syntax.specs.Expressions.Spellable.{IsSpellable}
use Rattle.dh_syntax.specs.Expressions.Tree.{Term}
use Rattle.dh_imports.specs.LastStep as last
use Rattle.dh_imports.specs.Resolver.{Stage, Lacks, Has, Waits, TextOf, LookOf}
use Rattle.dh_syntax.specs.declared.locations.Digest.{Digest}
use Rattle.dh_demand.specs.declared.scans.Scan.{Scan}
use Rattle.dh_demand.specs.Results.{Row, number_of}
use Rattle.dh_demand.specs.Values.{IsReady}
use Rattle.dh_record.specs.declared.kinds.Kind.TheVariants as kinds
use Rattle.dh_record.specs.declared.stage.dues.Due.{Due}
use Rattle.dh_record.specs.declared.stage.dues.Due.TheVariants as dues
use Rattle.dh_record.specs.declared.stage.dues.OwnFault.{OwnFault}
use Rattle.dh_record.specs.declared.stage.dues.OwnFault.TheVariants as owns
use Rattle.dh_record.specs.declared.stage.dues.Reason.{Reason}
use Rattle.dh_record.specs.declared.stage.dues.Reason.TheVariants as reasons
use Rattle.dh_record.specs.declared.stage.plans.Plan.{Plan}
use Rattle.dh_record.specs.declared.stage.plans.Plan.TheVariants as plans
use Rattle.dh_record.specs.declared.stage.reaches.Reach.{Reach}
use Rattle.dh_record.specs.declared.stage.reaches.Reach.TheVariants as reaches
use Rattle.dh_record.specs.declared.stage.stages.Stage as program
use Rattle.dh_record.specs.declared.stage.stages.Stage.TheVariants as stages
use Rattle.dh_record.specs.Items.{by_fault}
use Rattle.dh_record.specs.Values.{IsValue}

-- ---- faults

-- why a key of this own fault has no value
abbrev pub why_by : OwnFault → Why
why_by owns.Missing = whys.Missing
why_by owns.Https = whys.Https
why_by owns.Absent = whys.Absent
why_by (owns.Broken n) = whys.Broken n
why_by owns.Failed = whys.Failed
why_by (owns.Parse f) = whys.Parse f

-- the fault of this item
abbrev pub blame_by : Option Key → Reason → Blame
blame_by at (reasons.Own f) = record { at = at; why = why_by f }
blame_by at (reasons.Insane l) = record { at = at; why = whys.Insane l.now }
blame_by at (reasons.Cors l) = record { at = at; why = whys.Cors l.now }
blame_by at (reasons.Import b) = b.now

-- the stage at which the last step is due on a fault, or on the loop that it tells
abbrev pub by_blame : Blame → Stage
by_blame b = by_fault b.at b.why

-- ---- what is due

-- the stage is that of this code with its values
pub record IsCodeAt (rows : List Row) (k : Key) (s : Stage) (scan : Scan) (allow : Option (List ℕ)) : Type 0 where
  pub value : Term
  pub stage_is : s ≡ Has (last.Code value allow)
  pub ready : IsReady (Some k.loc) rows (term scan.expr) scan.edges value

-- the last step of a key at this stage is due, on this
abbrev pub IsDueOn : List Row → Key → Stage → Due → Type 0
IsDueOn rows k s (dues.Code scan allow) = IsCodeAt rows k s scan.now allow.now
IsDueOn rows k s (dues.Text f) = s ≡ Has (last.Text f.now.bytes f.now.allow)
IsDueOn rows k s dues.Location = s ≡ Has (last.Location k.loc)
IsDueOn rows k s (dues.Compare v o) = s ≡ Has (last.Compare (term v.now) o.now)
IsDueOn rows k s (dues.Entry e) = s ≡ Has (last.Entry (term e.now.expr))
IsDueOn rows k s (dues.Fault r) = s ≡ by_blame (blame_by (Some k) r)

-- what is due may be worked on
abbrev pub IsFitDue : Due → Type 0
IsFitDue (dues.Code scan allow) = IsSpellable (term scan.now.expr)
IsFitDue (dues.Text f) = Unit {0}
IsFitDue dues.Location = Unit {0}
IsFitDue (dues.Compare v o) = IsValue (term v.now)
IsFitDue (dues.Entry e) = Unit {0}
IsFitDue (dues.Fault r) = Unit {0}

-- a text that is to be walked can be spelled
abbrev pub IsFitPlan : Plan → Type 0
IsFitPlan plans.Fetch = Unit {0}
IsFitPlan plans.Look = Unit {0}
IsFitPlan (plans.Now d) = IsFitDue d
IsFitPlan (plans.Walk scan allow) = IsSpellable (term scan.now.expr)
IsFitPlan (plans.Ask n) = Unit {0}

-- ---- the stage of a key

-- the stage of a key, as the program keeps it: its task is due, or it waits for the key of a number
abbrev pub IsStage : List Row → Key → Stage → program.Stage → Type 0
IsStage rows k s stages.Fetch = s ≡ Lacks (TextOf k.loc)
IsStage rows k s stages.Look = (d : Digest) × (k.digest ≡ Some d) × (s ≡ Lacks (LookOf d))
IsStage rows k s (stages.Finish d) = IsDueOn rows k s d
IsStage rows k s (stages.Wait n) = (y : Key) × (s ≡ Waits y) × (number_of rows y ≡ Some n)

-- what is due at the stage, if anything, may be worked on
abbrev pub IsFitStage : program.Stage → Type 0
IsFitStage stages.Fetch = Unit {0}
IsFitStage stages.Look = Unit {0}
IsFitStage (stages.Finish d) = IsFitDue d
IsFitStage (stages.Wait n) = Unit {0}

-- which task is due, or for which key it waits
abbrev pub reach_by : program.Stage → Reach
reach_by stages.Fetch = reaches.Due kinds.Fetch
reach_by stages.Look = reaches.Due kinds.Look
reach_by (stages.Finish d) = reaches.Due kinds.Finish
reach_by (stages.Wait n) = reaches.Wait n
