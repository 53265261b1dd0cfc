-- What the world of the generated texts tells.
use Rattle.std.specs.Prelude.{◌≡◌, ℕ, ◌≤◌, [], ◌∷◌, Some, None}
use Rattle.std.specs.Fmt.{decimal}
use Rattle.std.specs.Str.{byte}
use Rattle.dh_syntax.specs.declared.locations.Loc.{Loc}
use Rattle.dh_syntax.specs.declared.locations.Loc.TheVariants as locs
use Rattle.dh_ports.specs.declared.worlds.Got.TheVariants as gots
use Rattle.dh_gen.specs.Generated.{text_of, told}
use Rattle.dh_gen.specs.Numbers.{most_number}

-- the location `./gK`
abbrev pub location_of : ℕ → Loc
location_of k = locs.Here ((byte "g" ∷ decimal k) ∷ [])

-- at `./gK` the text of K
abbrev pub TellsTexts : Type 0
TellsTexts = (k : ℕ) → k ≤ most_number → told (location_of k) ≡ Some (gots.Found (record { bytes = text_of k; allow = None }))

-- at a location that is none of these nothing
abbrev pub TellsNothingElse : Type 0
TellsNothingElse = (l : Loc) → ((k : ℕ) → k ≤ most_number → ¬ (l ≡ location_of k)) → told l ≡ Some gots.Absent
