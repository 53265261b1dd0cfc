-- The order of locations.
use Rattle.std.specs.Cmp.{IsTotalOrder, on_total}
use Rattle.std.specs.Cmp.Lexicographic.{slice_cmp, lists_total, nat_list_cmp_total}
use Rattle.std.specs.declared.cmp.Ordering.{Ordering}
use Rattle.std.specs.Ordering.{nat_cmp}
use Rattle.dh_syntax.specs.declared.locations.Loc.{Loc}
use Rattle.dh_syntax.specs.Imports.Keys.{loc_rank}
use Rattle.dh_watch_files.specs.declared.ordered_locs.OrderedLoc.{OrderedLoc}

-- how two locations compare by their parts
abbrev pub loc_cmp : Loc → Loc → Ordering
loc_cmp a b = slice_cmp (slice_cmp nat_cmp) (loc_rank a) (loc_rank b)

-- how two of them compare as keys of a map
abbrev pub ordered_cmp : OrderedLoc → OrderedLoc → Ordering
ordered_cmp a b = loc_cmp a.loc b.loc

-- that is a total order
pub ordered_total : IsTotalOrder ordered_cmp
ordered_total = on_total (λ k. loc_rank k.loc) (lists_total nat_list_cmp_total)
