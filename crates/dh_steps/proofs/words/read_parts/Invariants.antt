use Rattle.std.proofs.Common.{◌≡◌, drop, map}
use Rattle.dh_steps.specs.StepWords.{each, part_of}
use Rattle.dh_steps.proofs.PlaceWords.{each_left}
use Rattle.dh_steps.proofs.words.read_parts.Given as goal

abbrev pub invariant-loop-part : goal.invariant-loop-part
invariant-loop-part l = each_left (λ w. w.now) part_of l.place (drop l.part-index l.parts) ≡ each part_of (map (λ w. w.now) l.parts)
