-- The line of a fault of an import.
use Rattle.std.specs.Prelude.{ℕ, List, ◌++◌, Option, Some, None, codes}
use Rattle.std.specs.Fmt.{decimal}
use Rattle.dh_syntax.specs.declared.faults.Ill.{Ill}
use Rattle.dh_syntax.specs.declared.faults.TypeFault.{TypeFault}
use Rattle.dh_syntax.specs.declared.faults.TypeFault.TheVariants as types
use Rattle.dh_syntax.specs.declared.locations.Digest.{Digest}
use Rattle.dh_syntax.specs.declared.locations.Key.{Key}
use Rattle.dh_imports.specs.declared.outcomes.Why.{Why}
use Rattle.dh_imports.specs.declared.outcomes.Why.TheVariants as why
use Rattle.dh_syntax.specs.FaultLines.{norm_fault_line, parse_fault_line, type_fault_line}
use Rattle.dh_syntax.specs.Imports.Locations.{loc_text}
use Rattle.dh_syntax.specs.Text.Printed.{digest_digits}

-- a fault of an item that has a key tells where it is
abbrev pub in_item : Option Key → List ℕ → List ℕ
in_item None text = text
in_item (Some k) text = codes "in " ++ loc_text k.loc ++ codes ": " ++ text

-- the digits of the digest that a value should have, and of the one that it has
abbrev pub differs_line : Digest → Digest → List ℕ
differs_line wanted got = codes "digest differs: wanted " ++ digest_digits wanted ++ codes " got " ++ digest_digits got

-- the place without a type that a reason tells
abbrev pub ill_of : Why → Option Ill
ill_of (why.Typing (types.Ill f)) = Some f
ill_of _ = None

-- why an item has no value
abbrev pub why_line : Why → List ℕ
why_line (why.Parse f) = parse_fault_line f
why_line (why.Typing f) = type_fault_line f
why_line (why.Norm f) = norm_fault_line f
why_line why.Absent = codes "absent"
why_line why.Missing = codes "missing"
why_line (why.Broken n) = codes "status " ++ decimal n
why_line why.Https = codes "https is refused"
why_line why.Failed = codes "device failed"
why_line (why.Differs wanted got) = differs_line wanted got
why_line (why.Insane l) = codes "may not import " ++ loc_text l
why_line (why.Cors l) = codes "cross-origin import of " ++ loc_text l ++ codes " refused"
why_line why.Cycle = codes "import cycle"
why_line why.TooMany = codes "more than 4096 imports"
