use Rattle.std.proofs.Common.{◌≡◌, ◌≤◌, ◌++◌, List, length}
use Rattle.dh_top.specs.declared.files.FileReply.{FileReply}
use Rattle.dh_top.specs.FileReplies.{AllSmall, all_pairs}
use Rattle.dh_top.specs.Outside.{FilesAll}
use Rattle.dh_top.proofs.batch.keep_files.Given as goal

abbrev pub invariant-loop-reply : goal.invariant-loop-reply
invariant-loop-reply g l = record {
  small : AllSmall l.left;
  counted : g.D.Desk.faults l.initial.desk ≤ g.D.Desk.faults l.desk;
  asked : g.D.Desk.asked l.desk ≡ g.D.Desk.asked l.initial.desk;
  kept : (done : List FileReply) × (done ++ l.left ≡ l.fn.replies)
      × FilesAll (g.D.Desk.faults l.initial.desk) (g.D.Desk.faults l.desk) (g.D.Desk.filed l.initial.desk) (g.D.Desk.filed l.desk) (all_pairs done);
}

abbrev pub decreases-loop-reply : goal.decreases-loop-reply
decreases-loop-reply g l = length l.left
