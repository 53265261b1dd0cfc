use Rattle.std.proofs.Common.{◌≡◌, ◌++◌, drop, map, string_bytes}
use Rattle.dh_command.specs.Answer.{file_lines, first_fault, unless_ok}
use Rattle.dh_top.specs.FileReplies.{response_of}
use Rattle.dh_top.proofs.batch.lines.Given as goal

abbrev pub invariant-loop-i : goal.invariant-loop-i
invariant-loop-i l = record {
  lines : l.out.items ++ file_lines (map string_bytes (drop l.i l.words)) (map response_of (drop l.i l.replies)) ≡ file_lines (map string_bytes l.words) (map response_of l.replies);
  first : unless_ok l.status (first_fault (map response_of (drop l.i l.replies))) ≡ first_fault (map response_of l.replies);
}
