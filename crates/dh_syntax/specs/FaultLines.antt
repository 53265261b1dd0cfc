-- The one line that each fault has, without its line feed.
use Rattle.std.specs.Prelude.{ℕ, List, [], ◌∷◌, ◌++◌, flat_map, codes}
use Rattle.std.specs.Fmt.{decimal}
use Rattle.std.specs.Str.{byte}
use Rattle.dh_syntax.specs.declared.faults.DecodeFault.{DecodeFault}
use Rattle.dh_syntax.specs.declared.faults.DecodeFault.TheVariants as decode
use Rattle.dh_syntax.specs.declared.faults.Ill.{Ill}
use Rattle.dh_syntax.specs.declared.faults.NormFault.{NormFault}
use Rattle.dh_syntax.specs.declared.faults.NormFault.TheVariants as norm
use Rattle.dh_syntax.specs.declared.faults.ParseFault.{ParseFault}
use Rattle.dh_syntax.specs.declared.faults.ParseFault.TheVariants as fault
use Rattle.dh_syntax.specs.declared.faults.TypeFault.{TypeFault}
use Rattle.dh_syntax.specs.declared.faults.TypeFault.TheVariants as type

-- a fault of a text
abbrev pub parse_fault_line : ParseFault → List ℕ
parse_fault_line (fault.NotUtf8 at) = codes "not UTF-8 at " ++ decimal at
parse_fault_line (fault.Syntax at) = codes "syntax at " ++ decimal at
parse_fault_line (fault.Wide at) = codes "number too wide at " ++ decimal at
parse_fault_line (fault.Out at) = codes "left out of this profile at " ++ decimal at
parse_fault_line fault.TooLarge = codes "larger than 1048576 bytes"
parse_fault_line fault.TooNested = codes "nested deeper than 500"
parse_fault_line fault.Memory = codes "out of memory"

-- a fault of bytes
abbrev pub decode_fault_line : DecodeFault → List ℕ
decode_fault_line (decode.Cut at) = codes "cut at " ++ decimal at
decode_fault_line (decode.Indefinite at) = codes "indefinite length at " ++ decimal at
decode_fault_line (decode.Float at) = codes "float at " ++ decimal at
decode_fault_line (decode.Tag at) = codes "tag at " ++ decimal at
decode_fault_line (decode.Wide at) = codes "number too wide at " ++ decimal at
decode_fault_line (decode.Shape at) = codes "shape at " ++ decimal at
decode_fault_line (decode.Rest at) = codes "bytes left at " ++ decimal at
decode_fault_line decode.TooNested = codes "nested deeper than 500"
decode_fault_line decode.Memory = codes "out of memory"

-- a limit that a normalising met
abbrev pub norm_fault_line : NormFault → List ℕ
norm_fault_line norm.Wide = codes "number or literal too wide"
norm_fault_line norm.Spent = codes "budget of 16777216 spent"
norm_fault_line norm.Deep = codes "too deep"
norm_fault_line norm.Memory = codes "out of memory"

-- the place of a part: the numbers of the parts on the way from the root
abbrev pub path_text : List ℕ → List ℕ
path_text [] = codes "root"
path_text (k ∷ ks) = decimal k ++ flat_map (λ n. byte "/" ∷ decimal n) ks

-- the first place that has no type, and the rule that fails there
abbrev pub ill_line : Ill → List ℕ
ill_line ill = codes "type rule " ++ decimal ill.rule ++ codes " at " ++ path_text ill.path

-- a fault of typing
abbrev pub type_fault_line : TypeFault → List ℕ
type_fault_line (type.Ill ill) = ill_line ill
type_fault_line type.Wide = codes "number or literal too wide"
type_fault_line type.Spent = codes "budget of 16777216 spent"
type_fault_line type.Deep = codes "too deep"
type_fault_line type.Memory = codes "out of memory"
