-- How far the walk of a text is known to come.
use Rattle.std.specs.Prelude.{◌≡◌, ℕ, zero, suc, Bool, true, false, ◌&&◌, List, [], ◌∷◌, Option}
use Rattle.dh_syntax.specs.declared.locations.Key.{Key}
use Rattle.dh_syntax.specs.declared.locations.Loc.{Loc}
use Rattle.dh_syntax.specs.Expressions.Tree.{Row as Parts, Leaf, Node, end, kid, Name, Var, Term}
use Rattle.dh_imports.specs.Walk.{Ask, Form, importing, choosing, other, form_of, Walked, Ready, Fails, Turns, Needs, walk_key, keys_of}
use Rattle.dh_demand.specs.declared.headways.Headway.{Headway}
use Rattle.dh_demand.specs.declared.headways.Headway.TheVariants as headway
use Rattle.dh_demand.specs.Scans.{text_key, imports}

-- ---- expressions whose imports are asked in turn

-- a node is no `?`, and an import has no parts
abbrev pub is_straight_node : Form → Parts Var Name → Bool
is_straight_node (importing i) end = true
is_straight_node (importing i) (kid b e r) = false
is_straight_node choosing r = false
is_straight_node other r = true

abbrev mutual
  -- no `?` stands in an expression
  pub is_straight : Term → Bool
  is_straight (Leaf v) = true
  is_straight (Node op r) = is_straight_node (form_of op) r && are_straight r

  -- no `?` stands in the parts of a node
  pub are_straight : Parts Var Name → Bool
  are_straight end = true
  are_straight (kid b e r) = is_straight e && are_straight r

-- ---- imports that were passed

-- there is a value, and the text may read it
abbrev pub IsPassed : {X : Type 0} → Walked X → Type 0
IsPassed (Ready x) = Unit {0}
IsPassed (Fails b) = ⊥
IsPassed (Turns j) = ⊥
IsPassed (Needs k) = ⊥

-- so are the first so many of the imports with these keys, in the text of this key
abbrev pub ArePassed : Option Key → Ask → ℕ → List Key → Type 0
ArePassed parent ask zero ks = Unit {0}
ArePassed parent ask (suc n) [] = Unit {0}
ArePassed parent ask (suc n) (k ∷ ks) = IsPassed (walk_key parent ask k) × ArePassed parent ask n ks

-- no `?` stands in the expression, which has so many imports, and so many of them are passed, in a text at this location
pub record IsStraightPast (parent : Option Loc) (ask : Ask) (e : Term) (n passed : ℕ) : Type 0 where
  pub straight : is_straight e ≡ true
  pub count : n ≡ imports e
  pub are_passed : ArePassed (text_key parent) ask passed (keys_of parent e)

-- so far comes the walk of an expression in a text at this location, by these outcomes
abbrev pub IsHeadway : Option Loc → Ask → Term → Headway → Type 0
IsHeadway parent ask e headway.Unknown = Unit {0}
IsHeadway parent ask e headway.Branching = Unit {0}
IsHeadway parent ask e (headway.Straight n passed) = IsStraightPast parent ask e n passed
