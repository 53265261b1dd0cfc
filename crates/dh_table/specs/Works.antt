-- What the task of a ticket needs.
use Rattle.std.specs.Prelude.{◌≡◌, ℕ}
use Rattle.dh_imports.specs.Machine as machine
use Rattle.dh_imports.specs.Machine.{State, InFlight, stage_of}
use Rattle.dh_table.specs.declared.answers.works.Work.{Work}
use Rattle.dh_table.specs.declared.answers.works.Work.TheVariants as works
use Rattle.dh_record.specs.Items.{stage_of_item}
use Rattle.dh_record.specs.Values.{IsFit}

-- the task that is in flight under this serial, with what it needs: for a finish the item of the key's stage
abbrev pub IsWork : State → ℕ → Work → Type 0
IsWork s serial (works.Fetch l) = InFlight s serial (machine.Fetch l)
IsWork s serial (works.Look d) = InFlight s serial (machine.Look d)
IsWork s serial (works.Finish i) = InFlight s serial (machine.Finish i.key) × (stage_of s i.key ≡ stage_of_item i)

-- an item may be worked on
abbrev pub IsFitWork : Work → Type 0
IsFitWork (works.Fetch l) = Unit {0}
IsFitWork (works.Look d) = Unit {0}
IsFitWork (works.Finish i) = IsFit i.body
