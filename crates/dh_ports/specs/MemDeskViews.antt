-- The lists of a desk in memory: what is found outside, what the cache has, and what was kept.
use Rattle.std.specs.Prelude.{◌≡◌, List, Contains}
use Rattle.dh_ports.specs.Counts.{one_more}
use Rattle.dh_ports.specs.declared.calls.Calls.{Calls}
use Rattle.dh_ports.specs.declared.mem_desks.CacheEntry.{CacheEntry}
use Rattle.dh_ports.specs.declared.mem_desks.Content.{Content}
use Rattle.dh_ports.specs.declared.mem_desks.MemDesk.{MemDesk}

-- what is found outside, by the desk
abbrev pub contents_of : {W : _} {world : _} → MemDesk W world → List Content
contents_of d = d.contents

-- the entries that the cache of the desk has
abbrev pub cache_of : {W : _} {world : _} → MemDesk W world → List CacheEntry
cache_of d = d.cache

-- the entries that were kept with the desk
abbrev pub kept_of : {W : _} {world : _} → MemDesk W world → List CacheEntry
kept_of d = d.kept

-- the calls of each kind that were made, and which fail
abbrev pub fetches_of : {W : _} {world : _} → MemDesk W world → Calls
fetches_of d = d.fetches

-- the looks into the cache that were made, and which of them fail
abbrev pub looks_of : {W : _} {world : _} → MemDesk W world → Calls
looks_of d = d.looks

-- the entries that were to be kept, and which of these calls fail
abbrev pub keeps_of : {W : _} {world : _} → MemDesk W world → Calls
keeps_of d = d.keeps

-- whether the next call of a kind is to fail
abbrev pub IsDue : Calls → Type 0
IsDue calls = Contains calls.fails (one_more calls.made)

-- what is found outside, and what the cache has, stay as they are
abbrev pub SameOutside : {W : _} {world : _} → MemDesk W world → MemDesk W world → Type 0
SameOutside old new = (contents_of new ≡ contents_of old) × (cache_of new ≡ cache_of old)
