-- The imports of an expression, by the numbers of their keys.
use Rattle.std.specs.Prelude.{◌≡◌, ℕ, ◌+◌, ◌<◌, List, [], ◌∷◌, length, All, Option, Some, None}
use Rattle.dh_syntax.specs.declared.locations.Key.{Key}
use Rattle.dh_syntax.specs.declared.locations.Loc.{Loc}
use Rattle.dh_syntax.specs.declared.locations.Mode.TheVariants.{Code}
use Rattle.dh_syntax.specs.Expressions.Tree.{Row as Parts, Leaf, Node, end, kid, Name, Var, Term}
use Rattle.dh_syntax.specs.Imports.Locations.{sane}
use Rattle.dh_imports.specs.Walk.{Form, importing, choosing, other, form_of, keys_of}
use Rattle.dh_demand.specs.declared.scans.Edge.{Edge}
use Rattle.dh_demand.specs.Results.{Row, number_of}

-- the key whose text stands at this location; none for the input
abbrev pub text_key : Option Loc → Option Key
text_key None = None
text_key (Some l) = Some (record { loc = l; mode = Code; digest = None })

-- the edge is that of an import with this key, in a text at this location
pub record IsEdge (parent : Option Loc) (rows : List Row) (k : Key) (e : Edge) : Type 0 where
  pub numbered : number_of rows k ≡ Some e.key
  pub sane_is : sane parent k.loc k.mode ≡ e.sane

-- the list begins with the edges of imports with these keys
abbrev pub Begins : Option Loc → List Row → List Key → List Edge → Type 0
Begins parent rows [] es = Unit {0}
Begins parent rows (k ∷ ks) [] = ⊥
Begins parent rows (k ∷ ks) (e ∷ es) = IsEdge parent rows k e × Begins parent rows ks es

-- each edge has the number of a key
abbrev pub AreInside : List Row → List Edge → Type 0
AreInside rows es = All (λ (e : Edge). e.key < length rows) es

-- one edge for each import of an expression in a text at this location, in their order
pub record Fits (parent : Option Loc) (rows : List Row) (e : Term) (es : List Edge) : Type 0 where
  pub inside : AreInside rows es
  pub begins : Begins parent rows (keys_of parent e) es

-- how many imports a node is
abbrev pub own_imports : Form → ℕ
own_imports (importing i) = 1
own_imports choosing = 0
own_imports other = 0

abbrev mutual
  -- how many imports an expression has
  pub imports : Term → ℕ
  imports (Leaf v) = 0
  imports (Node op r) = own_imports (form_of op) + imports_of_parts r

  -- how many imports the parts of a node have
  pub imports_of_parts : Parts Var Name → ℕ
  imports_of_parts end = 0
  imports_of_parts (kid b e r) = imports e + imports_of_parts r
