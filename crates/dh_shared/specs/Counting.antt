-- How many steps of each kind a history has.
use Rattle.std.specs.Prelude.{Bool, true, false}
use Rattle.dh_record.specs.declared.kinds.Kind.{Kind}
use Rattle.dh_record.specs.declared.kinds.Kind.TheVariants as kinds
use Rattle.dh_table.specs.declared.steps.Step.{Step}
use Rattle.dh_table.specs.declared.steps.Step.TheVariants as steps

-- whether a task of this kind fetches a text
abbrev pub is_fetch : Kind → Bool
is_fetch kinds.Fetch = true
is_fetch kinds.Look = false
is_fetch kinds.Finish = false

-- the claim of a task
abbrev pub is_claim : Step → Bool
is_claim (steps.Claim w k n) = true
is_claim _ = false

-- the claim of a fetch
abbrev pub is_fetch_claim : Step → Bool
is_fetch_claim (steps.Claim w k n) = is_fetch k
is_fetch_claim _ = false

-- a delivery that was kept
abbrev pub is_recorded : Step → Bool
is_recorded (steps.Fetched n) = true
is_recorded (steps.Looked n) = true
is_recorded (steps.Finished n) = true
is_recorded _ = false

-- the release of a task
abbrev pub is_release : Step → Bool
is_release (steps.Release n) = true
is_release _ = false

-- a delivery that came late
abbrev pub is_late : Step → Bool
is_late (steps.Late n) = true
is_late _ = false

-- the mark of a loop
abbrev pub is_mark : Step → Bool
is_mark (steps.Cycled k) = true
is_mark _ = false
