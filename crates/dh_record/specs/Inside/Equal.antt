-- Whether two faults, origins or items are equal.
use Rattle.std.specs.Prelude.{Bool, true, false, ◌&&◌, ◌==◌, Option}
use Rattle.dh_syntax.specs.declared.faults.NormFault.{NormFault}
use Rattle.dh_syntax.specs.declared.faults.NormFault.TheVariants as norms
use Rattle.dh_syntax.specs.declared.faults.ParseFault.{ParseFault}
use Rattle.dh_syntax.specs.declared.faults.ParseFault.TheVariants as parses
use Rattle.dh_syntax.specs.declared.faults.TypeFault.{TypeFault}
use Rattle.dh_syntax.specs.declared.faults.TypeFault.TheVariants as types
use Rattle.dh_syntax.specs.declared.locations.Key.{Key}
use Rattle.dh_imports.specs.declared.outcomes.Origin.{Origin}
use Rattle.dh_imports.specs.declared.outcomes.Origin.TheVariants as origins
use Rattle.dh_imports.specs.declared.outcomes.Why.{Why}
use Rattle.dh_imports.specs.declared.outcomes.Why.TheVariants as whys
use Rattle.dh_syntax.specs.Expressions.Numbers.{bytes_eq}
use Rattle.dh_syntax.specs.Expressions.SameTree.{option_eq, digest_eq, loc_eq, term_eq}
use Rattle.dh_syntax.specs.Imports.Keys.{key_eq}
use Rattle.dh_imports.specs.LastStep as last
use Rattle.dh_imports.specs.Resolver.{Stage, Has, Meets}

-- whether two faults of parsing are equal
abbrev pub parse_eq : ParseFault → ParseFault → Bool
parse_eq (parses.NotUtf8 m) (parses.NotUtf8 n) = m == n
parse_eq (parses.Syntax m) (parses.Syntax n) = m == n
parse_eq (parses.Wide m) (parses.Wide n) = m == n
parse_eq (parses.Out m) (parses.Out n) = m == n
parse_eq parses.TooLarge parses.TooLarge = true
parse_eq parses.TooNested parses.TooNested = true
parse_eq parses.Memory parses.Memory = true
parse_eq _ _ = false

-- whether two faults of typing are equal
abbrev pub type_eq : TypeFault → TypeFault → Bool
type_eq (types.Ill i) (types.Ill j) = bytes_eq i.path j.path && (i.rule == j.rule)
type_eq types.Wide types.Wide = true
type_eq types.Spent types.Spent = true
type_eq types.Deep types.Deep = true
type_eq types.Memory types.Memory = true
type_eq _ _ = false

-- whether two limits of normalising are equal
abbrev pub norm_eq : NormFault → NormFault → Bool
norm_eq norms.Wide norms.Wide = true
norm_eq norms.Spent norms.Spent = true
norm_eq norms.Deep norms.Deep = true
norm_eq norms.Memory norms.Memory = true
norm_eq _ _ = false

-- whether two reasons why a key has no value are equal
abbrev pub why_eq : Why → Why → Bool
why_eq (whys.Parse f) (whys.Parse g) = parse_eq f g
why_eq (whys.Typing f) (whys.Typing g) = type_eq f g
why_eq (whys.Norm f) (whys.Norm g) = norm_eq f g
why_eq whys.Absent whys.Absent = true
why_eq whys.Missing whys.Missing = true
why_eq (whys.Broken m) (whys.Broken n) = m == n
why_eq whys.Https whys.Https = true
why_eq whys.Failed whys.Failed = true
why_eq (whys.Differs a b) (whys.Differs c d) = digest_eq a c && digest_eq b d
why_eq (whys.Insane l) (whys.Insane m) = loc_eq l m
why_eq (whys.Cors l) (whys.Cors m) = loc_eq l m
why_eq whys.Cycle whys.Cycle = true
why_eq whys.TooMany whys.TooMany = true
why_eq _ _ = false

-- whether two faults are equal: their items, and why
abbrev pub fault_eq : Option Key → Why → Option Key → Why → Bool
fault_eq a v b w = why_eq v w && option_eq key_eq a b

-- whether two values came from equal origins
abbrev pub origin_eq : Origin → Origin → Bool
origin_eq (origins.Fetched a) (origins.Fetched b) = option_eq bytes_eq a b
origin_eq origins.Cached origins.Cached = true
origin_eq origins.Made origins.Made = true
origin_eq _ _ = false

-- whether two items of a last step are equal
abbrev pub item_eq : last.Item → last.Item → Bool
item_eq (last.Code e a) (last.Code f b) = term_eq e f && option_eq bytes_eq a b
item_eq (last.Text x a) (last.Text y b) = bytes_eq x y && option_eq bytes_eq a b
item_eq (last.Location l) (last.Location m) = loc_eq l m
item_eq (last.Compare e o) (last.Compare f p) = term_eq e f && origin_eq o p
item_eq (last.Entry e) (last.Entry f) = term_eq e f
item_eq (last.Fault b) (last.Fault c) = fault_eq b.at b.why c.at c.why
item_eq _ _ = false

-- whether the last step of a key is due at both stages, on the same item or the same loop
abbrev pub are_due_on_one : Stage → Stage → Bool
are_due_on_one (Has i) (Has j) = item_eq i j
are_due_on_one (Meets j) (Meets k) = key_eq j k
are_due_on_one _ _ = false
