-- The exit status of each way in which a run ends.
use Rattle.std.specs.Prelude.{ℕ}
use Rattle.dh_syntax.specs.declared.faults.TypeFault.{TypeFault}
use Rattle.dh_syntax.specs.declared.faults.TypeFault.TheVariants as types
use Rattle.dh_imports.specs.declared.outcomes.Why.{Why}
use Rattle.dh_imports.specs.declared.outcomes.Why.TheVariants as why
use Rattle.dh_command.specs.declared.statuses.Status.{Status}
use Rattle.dh_command.specs.declared.statuses.Status.TheVariants as status

-- the exit code of a status
abbrev pub code_of : Status → ℕ
code_of status.Ok = 0
code_of status.Text = 1
code_of status.Ill = 2
code_of status.Import = 3
code_of status.Limit = 4
code_of status.Usage = 5
code_of status.Read = 6
code_of status.Write = 7
code_of status.Desk = 8
code_of status.Memory = 9
code_of status.NoJson = 10
code_of status.Step = 11

-- a type fault is a fault of typing or a limit
abbrev pub type_status : TypeFault → Status
type_status (types.Ill f) = status.Ill
type_status types.Wide = status.Limit
type_status types.Spent = status.Limit
type_status types.Deep = status.Limit
type_status types.Memory = status.Memory

-- the status of a run that an item at fault decides, by why it is at fault
abbrev pub why_status : Why → Status
why_status (why.Parse f) = status.Text
why_status (why.Typing f) = type_status f
why_status (why.Norm f) = status.Limit
why_status why.Absent = status.Import
why_status why.Missing = status.Import
why_status (why.Broken n) = status.Import
why_status why.Https = status.Import
why_status why.Failed = status.Desk
why_status (why.Differs wanted got) = status.Import
why_status (why.Insane l) = status.Import
why_status (why.Cors l) = status.Import
why_status why.Cycle = status.Import
why_status why.TooMany = status.Limit
