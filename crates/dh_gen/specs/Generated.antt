-- The generated texts: text K imports the texts K/2 and K/3.
use Rattle.std.specs.Prelude.{ℕ, zero, suc, ◌/◌, List, [], ◌∷◌, ◌++◌, ◌==◌, if◌then◌else◌, Option, Some, None, codes}
use Rattle.std.specs.Fmt.{decimal}
use Rattle.std.specs.Str.{byte}
use Rattle.dh_syntax.specs.declared.locations.Digest.{Digest}
use Rattle.dh_syntax.specs.declared.locations.Loc.{Loc}
use Rattle.dh_syntax.specs.declared.locations.Loc.TheVariants as locs
use Rattle.dh_ports.specs.declared.worlds.Got.{Got}
use Rattle.dh_ports.specs.declared.worlds.Got.TheVariants as gots
use Rattle.dh_gen.specs.Numbers.{number_of}

-- `./gK`
abbrev pub import_text : ℕ → List ℕ
import_text k = codes "./g" ++ decimal k

-- the text at `./gK`
abbrev pub text_of : ℕ → List ℕ
text_of zero = codes "0"
text_of (suc zero) = codes "1"
text_of (suc (suc k)) = import_text (suc (suc k) / 2) ++ codes " + " ++ import_text (suc (suc k) / 3) ++ codes " + " ++ decimal (suc (suc k))

-- the imports `./g0` to `./gK`, with commas between them
abbrev pub imports_to : ℕ → List ℕ
imports_to zero = import_text 0
imports_to (suc k) = imports_to k ++ codes ", " ++ import_text (suc k)

-- the list of them
abbrev pub list_text : ℕ → List ℕ
list_text k = codes "[" ++ imports_to k ++ codes "]"

-- the number of the text at a file of this name
abbrev pub number_in : List ℕ → Option ℕ
number_in [] = None
number_in (b ∷ bs) = if b == byte "g" then number_of bs else None

-- the number of the text at a location, if one is there
abbrev pub number_at : Loc → Option ℕ
number_at (locs.Here (name ∷ [])) = number_in name
number_at _ = None

-- what is found at the text of this number, or that nothing is there
abbrev pub got_at : Option ℕ → Got
got_at None = gots.Absent
got_at (Some k) = gots.Found (record { bytes = text_of k; allow = None })

-- what the world tells of a location
abbrev pub told : Loc → Option Got
told l = Some (got_at (number_at l))

-- and of an entry of the cache
abbrev pub shelved : Digest → Option (Option (List ℕ))
shelved d = Some None
