use Rattle.std.proofs.Common.{◌≡◌, drop}
use Rattle.dh_json.specs.JsonValue.{alternative}
use Rattle.dh_json.proofs.forms.alternative.Given as goal

abbrev pub invariant-loop-alt : goal.invariant-loop-alt
invariant-loop-alt l = alternative l.x (drop l.alt-index l.alts) ≡ alternative l.x l.alts
