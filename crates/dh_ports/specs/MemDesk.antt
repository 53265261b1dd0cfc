-- What contracts see of a desk in memory.
use Rattle.std.specs.Prelude.{◌≡◌, ℕ, suc, List, map, find, Option, Some, None, option_map, unwrap_or}
use Rattle.dh_syntax.specs.declared.locations.Digest.{Digest}
use Rattle.dh_syntax.specs.declared.locations.Loc.{Loc}
use Rattle.dh_syntax.specs.Expressions.SameTree.{loc_eq, digest_eq}
use Rattle.dh_ports.specs.Desks.{Tells, shown}
use Rattle.dh_ports.specs.declared.mem_desks.Content.{Content}
use Rattle.dh_ports.specs.declared.mem_desks.CacheEntry.{CacheEntry}
use Rattle.dh_ports.specs.declared.worlds.Got.{Got}
use Rattle.dh_ports.specs.declared.worlds.Got.TheVariants.{Absent}

-- what is listed for a location: of two contents of one location the first counts
abbrev pub listed : List Content → Loc → Got
listed contents l = unwrap_or (option_map (λ c. c.got) (find (λ c. loc_eq l c.loc) contents)) Absent

-- the same of entries
abbrev pub entry_under : List CacheEntry → Digest → Option (List ℕ)
entry_under entries d = option_map (λ e. e.bytes) (find (λ e. digest_eq d e.digest) entries)

-- the same; one that is too large is none
abbrev pub listed_entry : List CacheEntry → Digest → Option (List ℕ)
listed_entry entries d = shown (entry_under entries d)

-- what is listed for locations is what the world tells, where it tells
abbrev pub AreTold : (Loc → Option Got) → List Content → Type 0
AreTold told contents = (l : Loc) → Tells (told l) (listed contents l)

-- the same of entries
abbrev pub AreShelved : (Digest → Option (Option (List ℕ))) → List CacheEntry → Type 0
AreShelved shelved entries = (d : Digest) → Tells (option_map shown (shelved d)) (listed_entry entries d)

-- the digest and the bytes of each entry
abbrev pub pairs_of : List CacheEntry → List (Digest × List ℕ)
pairs_of entries = map (λ e. (e.digest, e.bytes)) entries
