-- A chained location has a component.
use Rattle.std.proofs.Common.{ℕ, true, false, if◌then◌else◌, List, [], ◌∷◌, ◌++◌, Option, Some, None, IsTrue, map, codes, refl}
use Rattle.dh_syntax.specs.declared.locations.Loc.{Loc}
use Rattle.dh_syntax.specs.declared.locations.Loc.TheVariants as locs
use Rattle.dh_syntax.specs.Expressions.Arity.{has_some, loc_fits}
use Rattle.dh_syntax.specs.Imports.Locations.{Comps, folder, is_up, canon_folder, canon_path, relative, canon, url_component, joined, from_parent, chain}
use Rattle.dh_syntax.proofs.LocationLaws.{has_file}

some-last : (f : Comps) (x : List ℕ) → IsTrue (has_some (f ++ x ∷ []))
some-last [] x = refl
some-last (c ∷ f) x = refl

some-append : (f cs : Comps) → IsTrue (has_some cs) → IsTrue (has_some (f ++ cs))
some-append [] cs h = h
some-append (c ∷ f) cs h = refl

canon_path-some : (cs : Comps) → IsTrue (has_some cs) → IsTrue (has_some (canon_path cs))
canon_path-some [] h = h
canon_path-some (c ∷ cs) h = let (x, e) = has_file c cs in rw e (some-last (canon_folder (folder (c ∷ cs))) x)

relative-some : (cs : Comps) → IsTrue (has_some cs) → IsTrue (loc_fits (relative cs))
relative-some [] h = h
relative-some (c ∷ []) h = refl
relative-some (c ∷ d ∷ cs) h = elim (is_up c) as (λ b. IsTrue (loc_fits (if b then locs.Parent (d ∷ cs) else locs.Here (c ∷ d ∷ cs)))) [ true ↦ refl | false ↦ refl ]

map-some : (cs : Comps) → IsTrue (has_some cs) → IsTrue (has_some (map url_component cs))
map-some [] h = h
map-some (c ∷ cs) h = refl

joined-some : (ps cs : Comps) → IsTrue (has_some cs) → IsTrue (has_some (joined ps cs))
joined-some ps cs h = canon_path-some (folder ps ++ cs) (some-append (folder ps) cs h)

canon-some : (l : Loc) → IsTrue (loc_fits l) → IsTrue (loc_fits (canon l))
canon-some (locs.Abs cs) h = canon_path-some cs h
canon-some (locs.Here cs) h = relative-some (canon_path cs) (canon_path-some cs h)
canon-some (locs.Parent cs) h = canon_path-some cs h
canon-some (locs.Home cs) h = canon_path-some cs h
canon-some (locs.Http u) h = canon_path-some u.comps h
canon-some (locs.Https u) h = canon_path-some u.comps h
canon-some (locs.Env x) h = refl
canon-some locs.Missing h = refl

from_parent-some : (p child : Loc) (cs : Comps) → IsTrue (loc_fits child) → IsTrue (has_some cs) → IsTrue (loc_fits (from_parent p child cs))
from_parent-some (locs.Abs ps) child cs k h = joined-some ps cs h
from_parent-some (locs.Here ps) child cs k h = relative-some (joined ps cs) (joined-some ps cs h)
from_parent-some (locs.Parent ps) child cs k h = relative-some (joined (codes ".." ∷ ps) cs) (joined-some (codes ".." ∷ ps) cs h)
from_parent-some (locs.Home ps) child cs k h = joined-some ps cs h
from_parent-some (locs.Http u) child cs k h = joined-some u.comps (map url_component cs) (map-some cs h)
from_parent-some (locs.Https u) child cs k h = joined-some u.comps (map url_component cs) (map-some cs h)
from_parent-some (locs.Env x) child cs k h = canon-some child k
from_parent-some locs.Missing child cs k h = canon-some child k

pub chain-has_components : (p : Option Loc) (child : Loc) → IsTrue (loc_fits child) → IsTrue (loc_fits (chain p child))
chain-has_components None child h = canon-some child h
chain-has_components (Some p) (locs.Here cs) h = from_parent-some p (locs.Here cs) cs h h
chain-has_components (Some p) (locs.Parent cs) h = from_parent-some p (locs.Parent cs) (codes ".." ∷ cs) h refl
chain-has_components (Some p) (locs.Abs cs) h = canon-some (locs.Abs cs) h
chain-has_components (Some p) (locs.Home cs) h = canon-some (locs.Home cs) h
chain-has_components (Some p) (locs.Http u) h = canon-some (locs.Http u) h
chain-has_components (Some p) (locs.Https u) h = canon-some (locs.Https u) h
chain-has_components (Some p) (locs.Env x) h = refl
chain-has_components (Some p) locs.Missing h = refl
