-- Why bytes are no script, and the line that tells it.
use Rattle.std.specs.Prelude.{◌≡◌, ◌<◌, ◌≤◌, ℕ, List, ◌++◌, length, codes, IsUtf8, ⊤}
use Rattle.std.specs.Fmt.{decimal}
use Rattle.std.specs.Str.Lossy.{utf8_valid_len}
use Rattle.dh_watch_laws.specs.ScriptLines.{IsFirstBad, lines_of}
use Rattle.dh_script.specs.declared.faults.ScriptFault.{ScriptFault}
use Rattle.dh_script.specs.declared.faults.ScriptFault.TheVariants as faults
use Rattle.dh_syntax.specs.Limits.{most_bytes}
use Rattle.dh_syntax.specs.Text.Spelling.{IsText}

-- the line that tells why bytes are no script
abbrev pub fault_line : ScriptFault → List ℕ
fault_line faults.TooLarge = codes "larger than 1048576 bytes"
fault_line (faults.NotUtf8 at) = codes "not UTF-8 at " ++ decimal at
fault_line (faults.Line n) = codes "usage: line " ++ decimal n
fault_line faults.Memory = codes "out of memory"

-- the fault of these lines: the first that is no order
abbrev pub AreRefused : List (List ℕ) → ScriptFault → Type 0
AreRefused lines faults.TooLarge = ⊥
AreRefused lines (faults.NotUtf8 at) = ⊥
AreRefused lines (faults.Line n) = IsFirstBad lines n
AreRefused lines faults.Memory = ⊤

-- The fault of these bytes. The refusals come in this order: too large, no UTF-8, a line that is no order.
abbrev pub IsRefused : List ℕ → ScriptFault → Type 0
IsRefused bytes faults.TooLarge = most_bytes < length bytes
IsRefused bytes (faults.NotUtf8 at) = (length bytes ≤ most_bytes) × (¬ IsUtf8 bytes) × (at ≡ utf8_valid_len bytes)
IsRefused bytes (faults.Line n) = IsText bytes × IsFirstBad (lines_of bytes) n
IsRefused bytes faults.Memory = ⊤
