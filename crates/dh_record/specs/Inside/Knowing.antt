-- Digests that are known of keys, by their numbers.
use Rattle.std.specs.Prelude.{◌≡◌, ℕ, List, Option, Some, None, slice_index_or}
use Rattle.dh_syntax.specs.declared.locations.Digest.{Digest}
use Rattle.dh_demand.specs.Digests.{digest_at}
use Rattle.dh_demand.specs.Results.{Row}

-- each that is known is that of the key's value
abbrev pub AreKnown : List Row → List (Option Digest) → Type 0
AreKnown rows known = (n : ℕ) (d : Digest) → slice_index_or known n None ≡ Some d → digest_at rows (Some n) ≡ Some d
