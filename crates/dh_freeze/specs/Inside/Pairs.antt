-- Offsets with the digests that stand beside them.
use Rattle.std.specs.Prelude.{ℕ, List, [], ◌∷◌, ◌++◌, Option, Some, None}
use Rattle.dh_syntax.specs.declared.locations.Digest.{Digest}
use Rattle.dh_freeze.specs.declared.places.DigestAt.{DigestAt}

-- the place of a digest at an offset, where there is a digest
abbrev pub place_at : ℕ → Option Digest → List DigestAt
place_at o (Some d) = record { offset = o; digest = d } ∷ []
place_at o None = []

-- the places of the digests that stand beside these offsets, in their order
abbrev pub paired : List ℕ → List (Option Digest) → List DigestAt
paired (o ∷ os) (d ∷ ds) = place_at o d ++ paired os ds
paired _ _ = []
