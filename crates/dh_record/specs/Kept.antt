-- Entries that are kept.
use Rattle.std.specs.Prelude.{ℕ, List}
use Rattle.dh_syntax.specs.declared.locations.Digest.{Digest}
use Rattle.dh_ports.specs.declared.mem_desks.CacheEntry.{CacheEntry}

-- an entry as the definitions have it
abbrev pub pair_of : CacheEntry → Digest × List ℕ
pair_of e = (e.digest, e.bytes)
