use Rattle.std.proofs.Common.{◌≡◌, ◌+◌, drop, map, string_bytes}
use Rattle.dh_steps.specs.StepWords.{operand_places}
use Rattle.dh_steps.proofs.PlaceWords.{Follows}
use Rattle.dh_steps.proofs.words.check_places.Given as goal

abbrev pub invariant-loop-word : goal.invariant-loop-word
invariant-loop-word l = record {
  counted : l.left + l.word-index ≡ l.most;
  numbered : l.number ≡ l.at + l.word-index;
  so_far : Follows (operand_places l.left l.number (map string_bytes (drop l.word-index l.words))) (operand_places l.most l.at (map string_bytes l.words));
}
