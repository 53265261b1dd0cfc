-- The contents of locations, as files tell them.
use Rattle.std.specs.Prelude.{◌≡◌, ℕ, List, take, Option, Some, None}
use Rattle.dh_ports.specs.declared.worlds.Got.{Got}
use Rattle.dh_ports.specs.declared.worlds.Got.TheVariants as gots
use Rattle.dh_syntax.specs.declared.locations.Loc.{Loc}
use Rattle.dh_syntax.specs.Expressions.SameTree.{loc_eq}
use Rattle.dh_imports.specs.Records.{lookup}
use Rattle.dh_watch_laws.specs.Contents.{Now, IsEdited, most_fetched}

-- what is found where these bytes are, if any
abbrev pub got_of : Option (List ℕ) → Got
got_of None = gots.Absent
got_of (Some bytes) = gots.Found (record { bytes = take most_fetched bytes; allow = None })

-- it is what is found there, where the contents are told
abbrev pub Tells : Option Now → Loc → Got → Type 0
Tells None l got = Unit {0}
Tells (Some now) l got = got ≡ got_of (lookup loc_eq now l)

-- these bytes were put at the location, or what was there was taken out; files that told their contents still do, and others still do not
abbrev pub IsPut : Option Now → Loc → Option (List ℕ) → Option Now → Type 0
IsPut None l bytes now' = now' ≡ None
IsPut (Some now) l bytes None = ⊥
IsPut (Some now) l bytes (Some now') = IsEdited now l bytes now'
