-- The contents that files in memory have.
use Rattle.std.specs.Prelude.{ℕ, List, [], ◌∷◌}
use Rattle.dh_watch_files.specs.declared.mem_files.MemFiles.{MemFiles}
use Rattle.dh_watch_files.specs.declared.ordered_locs.OrderedLoc.{OrderedLoc}
use Rattle.dh_watch_laws.specs.Contents.{Now}

-- the contents of these files
abbrev pub pairs_of : List (OrderedLoc × List ℕ) → Now
pairs_of [] = []
pairs_of (f ∷ fs) = (f.0.loc, f.1) ∷ pairs_of fs

-- the contents that these files in memory have
abbrev pub now_of : MemFiles → Now
now_of m = pairs_of m.files.entries
