-- The lines of a run that ends without an answer for another reason than its input, without their line feeds.
use Rattle.std.specs.Prelude.{ℕ, List, ◌++◌, codes}
use Rattle.std.specs.Fmt.{decimal}

-- the first word that is wrong, by its number from 1
abbrev pub usage_line : ℕ → List ℕ
usage_line k = codes "usage: word " ++ decimal k

-- the line of a run whose input cannot be read
abbrev pub read_line : List ℕ
read_line = codes "read failed"

-- the line of a run whose output cannot be written
abbrev pub write_line : List ℕ
write_line = codes "write failed"

-- the line of a run for which memory is wanting
abbrev pub memory_line : List ℕ
memory_line = codes "out of memory"
