use Rattle.std.proofs.Common.{◌≡◌, ◌≤◌, ◌++◌, List, map, length}
use Rattle.std.specs.Prelude.{All}
use Rattle.dh_ports.specs.declared.mem_desks.CacheEntry.{CacheEntry}
use Rattle.dh_syntax.specs.Limits.{most_entry_bytes}
use Rattle.dh_record.specs.Kept.{pair_of}
use Rattle.dh_top.specs.Outside.{FilesAll}
use Rattle.dh_top.proofs.keeping.keep_all.Given as goal

abbrev pub invariant-loop-entry : goal.invariant-loop-entry
invariant-loop-entry g l = record {
  small : All (λ e. length e.bytes ≤ most_entry_bytes) l.left;
  counted : g.D.Desk.faults l.initial.desk ≤ g.D.Desk.faults l.desk;
  asked : g.D.Desk.asked l.desk ≡ g.D.Desk.asked l.initial.desk;
  kept : (done : List CacheEntry) × (done ++ l.left ≡ l.fn.entries)
      × FilesAll (g.D.Desk.faults l.initial.desk) (g.D.Desk.faults l.desk) (g.D.Desk.filed l.initial.desk) (g.D.Desk.filed l.desk) (map pair_of done);
}

abbrev pub decreases-loop-entry : goal.decreases-loop-entry
decreases-loop-entry g l = length l.left
