-- What reading a printed text answers.
use Rattle.std.specs.Prelude.{if◌then◌else◌, nat_le, nat_lt, length, Result, Ok, Err}
use Rattle.dh_syntax.specs.declared.faults.ParseFault.{ParseFault}
use Rattle.dh_syntax.specs.declared.faults.ParseFault.TheVariants as faults
use Rattle.dh_syntax.specs.Text.Printed.{text_of}
use Rattle.dh_syntax.specs.Expressions.Tree.{Term}
use Rattle.dh_syntax.specs.Limits.{most_bytes, most_open}
use Rattle.dh_layout.specs.Opened.{opened}

-- The expression itself, but for a text that is too large, or that opens too many expressions: those that `opened` counts and
-- the outermost one.
abbrev pub answer : Term → Result Term ParseFault
answer e =
    if nat_lt most_bytes (length (text_of e)) then Err faults.TooLarge
    else if nat_le most_open (opened e) then Err faults.TooNested
    else Ok e
