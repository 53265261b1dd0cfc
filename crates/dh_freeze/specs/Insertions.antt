-- Places as insertions of digests into a text.
use Rattle.std.specs.Prelude.{List, map}
use Rattle.dh_imports.specs.FrozenTexts.{Insertion}
use Rattle.dh_freeze.specs.declared.places.DigestAt.{DigestAt}

-- the insertion of a digest at its offset
abbrev pub insertion_of : DigestAt → Insertion
insertion_of p = (p.offset, p.digest)

-- the insertions of several digests at their offsets
abbrev pub insertions : List DigestAt → List Insertion
insertions ps = map insertion_of ps
