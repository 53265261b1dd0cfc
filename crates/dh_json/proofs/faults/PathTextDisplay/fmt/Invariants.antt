use Rattle.std.proofs.Common.{◌∷◌, flat_map, take}
use Rattle.std.specs.Fmt.{HasWritten, IsPlainFormatter, decimal}
use Rattle.std.specs.Str.{byte}
use Rattle.dh_json.proofs.faults.PathTextDisplay.fmt.Given as goal

abbrev pub invariant-loop-number : goal.invariant-loop-number
invariant-loop-number g l =
    IsPlainFormatter l.initial.f → HasWritten g.W.Write.write_str_gives l.initial.f (flat_map (λ n. byte "/" ∷ decimal n) (take l.number-index l.rest)) l.f
