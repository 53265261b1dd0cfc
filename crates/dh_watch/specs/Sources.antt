-- What a step of a run adds to what is kept.
use Rattle.std.specs.Prelude.{◌≡◌, Some}
use Rattle.dh_syntax.specs.declared.locations.Digest.{Digest}
use Rattle.dh_syntax.specs.declared.locations.Key.{Key}
use Rattle.dh_syntax.specs.declared.locations.Loc.{Loc}
use Rattle.dh_imports.specs.Records as found
use Rattle.dh_imports.specs.Records.{Noted}
use Rattle.dh_imports.specs.Resolver.{LookOf, Stage, Lacks, Has, Meets, Waits}
use Rattle.dh_watch_laws.specs.Kept.{Kept, keep_look, keep_text}
use Rattle.dh_watch_laws.specs.Running.{stage_at}

-- no part of the record is lacking
abbrev pub IsSettled : Stage → Type 0
IsSettled (Lacks p) = ⊥
IsSettled (Has i) = Unit {0}
IsSettled (Meets j) = Unit {0}
IsSettled (Waits y) = Unit {0}

-- the text of a location was recorded
abbrev pub HasFetched : Kept → Loc → Kept → Type 0
HasFetched s l s' = (t : Noted) × (s' ≡ keep_text s l t)

-- the look under its digest is lacking
abbrev pub LacksLook : Kept → Key → Type 0
LacksLook s k = (d : Digest) × (k.digest ≡ Some d) × (stage_at s k ≡ Lacks (LookOf d))

-- there is no entry under its digest
abbrev pub HasMissed : Kept → Key → Kept → Type 0
HasMissed s k s' = (d : Digest) × (k.digest ≡ Some d) × (s' ≡ keep_look s d found.Miss)
