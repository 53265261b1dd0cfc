-- Where a location and a digest are looked for.
use Rattle.std.specs.Prelude.{ℕ, List, [], ◌∷◌, ◌++◌, codes}
use Rattle.hex.specs.Hex.{encode_lower}
use Rattle.dh_syntax.specs.Imports.Locations.{slashed}
use Rattle.dh_syntax.specs.declared.locations.Digest.{Digest}
use Rattle.dh_syntax.specs.declared.locations.Loc.{Loc}
use Rattle.dh_syntax.specs.declared.locations.Loc.TheVariants as loc
use Rattle.dh_desks.specs.declared.folders.Folder.{Folder}
use Rattle.dh_desks.specs.declared.folders.Folder.TheVariants.{Unset, At, Untold}
use Rattle.dh_desks.specs.declared.places.Source.{Source}
use Rattle.dh_desks.specs.declared.places.Source.TheVariants as at

-- a folder that is set to this path: to nothing counts as unset
abbrev pub named : List ℕ → Folder
named [] = Unset
named (b ∷ bs) = At (b ∷ bs)

-- a folder or file below a folder, where the folder is known
abbrev pub below : Folder → List ℕ → Folder
below Unset rest = Unset
below (At path) rest = At (path ++ rest)
below Untold rest = Untold

-- the folder of the cache: in XDG_CACHE_HOME, else in `.cache` of HOME
abbrev pub cache_folder : Folder → Folder → Folder
cache_folder Unset home = below home (codes "/.cache/dhall")
cache_folder (At path) home = below (At path) (codes "/dhall")
cache_folder Untold home = Untold

-- the file of a digest: `1220`, which says SHA-256 and its 32 bytes, and 64 digits
abbrev pub entry_name : Digest → List ℕ
entry_name d = codes "/1220" ++ encode_lower d.0

-- ---- places

-- the place of a file whose path is known, or nowhere, or untold
abbrev pub in_folder : Folder → Source
in_folder Unset = at.Nowhere
in_folder (At path) = at.File path
in_folder Untold = at.Untold

-- The place of a location, where `~` stands for this folder. A path has its components as they are, each behind a slash.
abbrev pub place : Folder → Loc → Source
place home (loc.Abs cs) = at.File (slashed cs)
place home (loc.Here cs) = at.File (codes "." ++ slashed cs)
place home (loc.Parent cs) = at.File (codes ".." ++ slashed cs)
place home (loc.Home cs) = in_folder (below home (slashed cs))
place home (loc.Http u) = at.Web u
place home (loc.Https u) = at.Barred
place home (loc.Env x) = at.Variable x
place home loc.Missing = at.Nowhere
