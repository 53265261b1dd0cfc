-- The line of a fault, without its line feed.
use Rattle.std.specs.Prelude.{ℕ, List, ◌++◌, codes}
use Rattle.dh_syntax.specs.FaultLines.{path_text}
use Rattle.dh_json.specs.declared.faults.JsonFault.{JsonFault}
use Rattle.dh_json.specs.declared.faults.JsonFault.TheVariants as faults

-- the first place without a JSON value
abbrev pub no_json_line : List ℕ → List ℕ
no_json_line path = codes "no JSON value at " ++ path_text path

-- the line that tells of this fault
abbrev pub json_fault_line : JsonFault → List ℕ
json_fault_line (faults.NoValue path) = no_json_line path
json_fault_line faults.Memory = codes "out of memory"
