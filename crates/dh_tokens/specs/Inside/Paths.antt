-- Paths by what stands before their first slash.
use Rattle.std.specs.Prelude.{ℕ, List, Option, drop}
use Rattle.dh_syntax.specs.declared.locations.Loc.{Loc}
use Rattle.dh_syntax.specs.declared.locations.Loc.TheVariants as locs
use Rattle.dh_syntax.specs.Text.LexForms.{Form}
use Rattle.dh_syntax.specs.Text.LexLocations.{components, path_component, path_form}
use Rattle.dh_tokens.specs.declared.paths.Root.{Root}
use Rattle.dh_tokens.specs.declared.paths.Root.TheVariants as roots

-- how many bytes stand before the first slash
abbrev pub root_len : Root → ℕ
root_len roots.Absolute = 0
root_len roots.Here = 1
root_len roots.Parent = 2
root_len roots.Home = 1

-- the path with these components
abbrev pub root_loc : Root → List (List ℕ) → Loc
root_loc roots.Absolute = locs.Abs
root_loc roots.Here = locs.Here
root_loc roots.Parent = locs.Parent
root_loc roots.Home = locs.Home

-- the path at the front, where its root stands there
abbrev pub path_in : Root → List ℕ → Option Form
path_in root bs = path_form (root_loc root) (root_len root) (components path_component 0 (drop (root_len root) bs))
