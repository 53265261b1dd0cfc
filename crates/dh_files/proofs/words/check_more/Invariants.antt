use Rattle.std.proofs.Common.{◌≡◌, ◌+◌, drop, map, string_bytes}
use Rattle.dh_files.specs.FileWords.{more_files}
use Rattle.dh_files.proofs.FileLists.{Follows}
use Rattle.dh_files.proofs.words.check_more.Given as goal

abbrev pub invariant-loop-word : goal.invariant-loop-word
invariant-loop-word l = record {
  counted : l.left + l.word-index ≡ l.most;
  numbered : l.number ≡ l.at + l.word-index;
  so_far : Follows (more_files l.left l.number (map string_bytes (drop l.word-index l.words))) (more_files l.most l.at (map string_bytes l.words));
}
