-- Which parts a node has (the standard's "Syntax"), and what its labels and locations keep.
use Rattle.std.specs.Prelude.{ℕ, zero, suc, Bool, true, false, ◌&&◌, List, [], ◌∷◌, Some, None, length, IsTrue}
use Rattle.dh_syntax.specs.declared.expressions.Alt.{Alt}
use Rattle.dh_syntax.specs.declared.expressions.Op.{Op}
use Rattle.dh_syntax.specs.declared.expressions.Op.TheVariants as ops
use Rattle.dh_syntax.specs.declared.locations.Loc.{Loc}
use Rattle.dh_syntax.specs.declared.locations.Loc.TheVariants as locs
use Rattle.dh_syntax.specs.Expressions.Order.{ascending}
use Rattle.dh_syntax.specs.Expressions.Tree.{Tree, Row, Leaf, Node, end, kid}

-- so many parts, none of them under a binder
abbrev pub plain : {A B : Type 0} → ℕ → Row A B → Bool
plain zero end = true
plain (suc n) (kid None e r) = plain n r
plain _ _ = false

-- so many parts, and then one under a binder
abbrev pub binding : {A B : Type 0} → ℕ → Row A B → Bool
binding zero (kid (Some x) e end) = true
binding (suc n) (kid None e r) = binding n r
binding _ _ = false

-- one part or more, none of them under a binder
abbrev pub some_plain : {A B : Type 0} → Row A B → Bool
some_plain (kid None e end) = true
some_plain (kid None e r) = some_plain r
some_plain _ = false

-- one part fewer than there are pieces of text
abbrev pub between : {A B : Type 0} → List (List ℕ) → Row A B → Bool
between [] r = false
between (p ∷ ps) r = plain (length ps) r

-- whether a list has an element
abbrev pub has_some : {A : Type 0} → List A → Bool
has_some [] = false
has_some (x ∷ xs) = true

-- the labels of a union's alternatives
abbrev pub alt_labels : List Alt → List (List ℕ)
alt_labels [] = []
alt_labels (a ∷ as') = a.label ∷ alt_labels as'

-- how many alternatives have a type
abbrev pub typed_count : List Alt → ℕ
typed_count [] = 0
typed_count (a ∷ as') = elim a.typed [ true ↦ suc (typed_count as') | false ↦ typed_count as' ]

-- whether a path has a component
abbrev pub loc_fits : Loc → Bool
loc_fits (locs.Abs cs) = has_some cs
loc_fits (locs.Here cs) = has_some cs
loc_fits (locs.Parent cs) = has_some cs
loc_fits (locs.Home cs) = has_some cs
loc_fits (locs.Http u) = has_some u.comps
loc_fits (locs.Https u) = has_some u.comps
loc_fits (locs.Env x) = true
loc_fits locs.Missing = true

-- whether these are the parts of such a node
abbrev pub fits : {A B : Type 0} → Op → Row A B → Bool
fits (ops.Builtin b) r = plain 0 r
fits (ops.Bool b) r = plain 0 r
fits (ops.Nat n) r = plain 0 r
fits (ops.Int z) r = plain 0 r
fits (ops.Text ps) r = between ps r
fits (ops.Import i) r = loc_fits i.loc && plain 0 r
fits ops.Lam r = binding 1 r
fits ops.Pi r = binding 1 r
fits (ops.Let false) r = binding 1 r
fits (ops.Let true) r = binding 2 r
fits ops.App r = plain 2 r
fits ops.If r = plain 3 r
fits (ops.Bin o) r = plain 2 r
fits ops.EmptyList r = plain 1 r
fits ops.List r = some_plain r
fits ops.Some r = plain 1 r
fits (ops.Merge false) r = plain 2 r
fits (ops.Merge true) r = plain 3 r
fits (ops.RecordType xs) r = ascending xs && plain (length xs) r
fits (ops.Record xs) r = ascending xs && plain (length xs) r
fits (ops.Field x) r = plain 1 r
fits (ops.Project xs) r = ascending xs && plain 1 r
fits ops.ProjectType r = plain 2 r
fits (ops.Union alts) r = ascending (alt_labels alts) && plain (typed_count alts) r
fits ops.Assert r = plain 1 r
fits ops.Annot r = plain 2 r
fits (ops.ToMap false) r = plain 1 r
fits (ops.ToMap true) r = plain 2 r
fits (ops.With path) r = has_some path && plain 2 r

-- an expression, and the parts of a node, in which every node has its parts
abbrev mutual
  -- every node has its parts
  pub IsWellFormed : {A B : Type 0} → Tree A B → Type 0
  IsWellFormed (Leaf a) = Unit {0}
  IsWellFormed (Node op r) = IsTrue (fits op r) × AreWellFormed r

  pub AreWellFormed : {A B : Type 0} → Row A B → Type 0
  AreWellFormed end = Unit {0}
  AreWellFormed (kid b e r) = IsWellFormed e × AreWellFormed r
