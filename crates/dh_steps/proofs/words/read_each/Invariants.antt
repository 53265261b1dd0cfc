use Rattle.std.proofs.Common.{◌≡◌, drop, map, string_bytes}
use Rattle.dh_steps.specs.StepWords.{each, place_of}
use Rattle.dh_steps.proofs.PlaceWords.{each_left}
use Rattle.dh_steps.proofs.words.read_each.Given as goal

abbrev pub invariant-loop-word : goal.invariant-loop-word
invariant-loop-word l = each_left string_bytes place_of l.places (drop l.word-index l.words) ≡ each place_of (map string_bytes l.words)
