-- Whether two operators, locations, imports or expressions are equal.
use Rattle.std.specs.Prelude.{Bool, true, false, ◌&&◌, ◌==◌, List, [], ◌∷◌, Option, Some, None}
use Rattle.std.specs.Ordering.{int_eq}
use Rattle.dh_syntax.specs.declared.expressions.Alt.{Alt}
use Rattle.dh_syntax.specs.declared.expressions.Op.{Op}
use Rattle.dh_syntax.specs.declared.expressions.Op.TheVariants as ops
use Rattle.dh_syntax.specs.declared.locations.Digest.{Digest}
use Rattle.dh_syntax.specs.declared.locations.Import.{Import}
use Rattle.dh_syntax.specs.declared.locations.Loc.{Loc}
use Rattle.dh_syntax.specs.declared.locations.Loc.TheVariants as locs
use Rattle.dh_syntax.specs.declared.locations.Mode.{Mode}
use Rattle.dh_syntax.specs.declared.locations.Mode.TheVariants as modes
use Rattle.dh_syntax.specs.declared.locations.Url.{Url}
use Rattle.dh_syntax.specs.declared.operators.BinOp.{BinOp}
use Rattle.dh_syntax.specs.declared.operators.BinOp.TheVariants as bins
use Rattle.dh_syntax.specs.declared.operators.Builtin.{Builtin}
use Rattle.dh_syntax.specs.declared.operators.Builtin.TheVariants as builtins
use Rattle.dh_syntax.specs.Expressions.Numbers.{eq, bytes_eq}
use Rattle.dh_syntax.specs.Expressions.Tree.{Row, Leaf, Node, end, kid, Name, Var, Term}

-- whether two truth values are equal
abbrev pub bool_eq : Bool → Bool → Bool
bool_eq true true = true
bool_eq false false = true
bool_eq _ _ = false

-- whether two lists have the same length and the same elements in order, by a test on elements
abbrev pub list_eq : {A : Type 0} → (A → A → Bool) → List A → List A → Bool
list_eq same [] [] = true
list_eq same (a ∷ as') (b ∷ bs) = same a b && list_eq same as' bs
list_eq same _ _ = false

-- whether both are absent, or both are there and the same by a test
abbrev pub option_eq : {A : Type 0} → (A → A → Bool) → Option A → Option A → Bool
option_eq same None None = true
option_eq same (Some a) (Some b) = same a b
option_eq same _ _ = false

-- whether two digests have the same bytes
abbrev pub digest_eq : Digest → Digest → Bool
digest_eq d e = bytes_eq d.0 e.0

-- whether two imports' modes are equal
abbrev pub mode_eq : Mode → Mode → Bool
mode_eq modes.Code modes.Code = true
mode_eq modes.Text modes.Text = true
mode_eq modes.Location modes.Location = true
mode_eq _ _ = false

-- whether two URLs have the same host, components and query
abbrev pub url_eq : Url → Url → Bool
url_eq u v = bytes_eq u.host v.host && list_eq bytes_eq u.comps v.comps && option_eq bytes_eq u.query v.query

-- whether two locations are of one kind with the same parts
abbrev pub loc_eq : Loc → Loc → Bool
loc_eq (locs.Abs cs) (locs.Abs ds) = list_eq bytes_eq cs ds
loc_eq (locs.Here cs) (locs.Here ds) = list_eq bytes_eq cs ds
loc_eq (locs.Parent cs) (locs.Parent ds) = list_eq bytes_eq cs ds
loc_eq (locs.Home cs) (locs.Home ds) = list_eq bytes_eq cs ds
loc_eq (locs.Http u) (locs.Http v) = url_eq u v
loc_eq (locs.Https u) (locs.Https v) = url_eq u v
loc_eq (locs.Env x) (locs.Env y) = bytes_eq x y
loc_eq locs.Missing locs.Missing = true
loc_eq _ _ = false

-- whether two imports have the same location, mode and digest
abbrev pub import_eq : Import → Import → Bool
import_eq i j = loc_eq i.loc j.loc && mode_eq i.mode j.mode && option_eq digest_eq i.digest j.digest

-- whether two alternatives have the same label, and both have a type or neither
abbrev pub alt_eq : Alt → Alt → Bool
alt_eq a b = bytes_eq a.label b.label && bool_eq a.typed b.typed

-- whether two operators are equal
abbrev pub bin_eq : BinOp → BinOp → Bool
bin_eq bins.Or bins.Or = true
bin_eq bins.And bins.And = true
bin_eq bins.Equal bins.Equal = true
bin_eq bins.NotEqual bins.NotEqual = true
bin_eq bins.Plus bins.Plus = true
bin_eq bins.Times bins.Times = true
bin_eq bins.TextAppend bins.TextAppend = true
bin_eq bins.ListAppend bins.ListAppend = true
bin_eq bins.Combine bins.Combine = true
bin_eq bins.Prefer bins.Prefer = true
bin_eq bins.CombineTypes bins.CombineTypes = true
bin_eq bins.Fallback bins.Fallback = true
bin_eq bins.Equivalent bins.Equivalent = true
bin_eq bins.Complete bins.Complete = true
bin_eq _ _ = false

-- whether two built-ins are equal
abbrev pub builtin_eq : Builtin → Builtin → Bool
builtin_eq builtins.TypeConst builtins.TypeConst = true
builtin_eq builtins.Kind builtins.Kind = true
builtin_eq builtins.Sort builtins.Sort = true
builtin_eq builtins.Bool builtins.Bool = true
builtin_eq builtins.Natural builtins.Natural = true
builtin_eq builtins.Integer builtins.Integer = true
builtin_eq builtins.Text builtins.Text = true
builtin_eq builtins.List builtins.List = true
builtin_eq builtins.Optional builtins.Optional = true
builtin_eq builtins.None builtins.None = true
builtin_eq builtins.NaturalFold builtins.NaturalFold = true
builtin_eq builtins.NaturalBuild builtins.NaturalBuild = true
builtin_eq builtins.NaturalIsZero builtins.NaturalIsZero = true
builtin_eq builtins.NaturalEven builtins.NaturalEven = true
builtin_eq builtins.NaturalOdd builtins.NaturalOdd = true
builtin_eq builtins.NaturalToInteger builtins.NaturalToInteger = true
builtin_eq builtins.NaturalShow builtins.NaturalShow = true
builtin_eq builtins.NaturalSubtract builtins.NaturalSubtract = true
builtin_eq builtins.IntegerShow builtins.IntegerShow = true
builtin_eq builtins.IntegerNegate builtins.IntegerNegate = true
builtin_eq builtins.IntegerClamp builtins.IntegerClamp = true
builtin_eq builtins.ListBuild builtins.ListBuild = true
builtin_eq builtins.ListFold builtins.ListFold = true
builtin_eq builtins.ListLength builtins.ListLength = true
builtin_eq builtins.ListHead builtins.ListHead = true
builtin_eq builtins.ListLast builtins.ListLast = true
builtin_eq builtins.ListIndexed builtins.ListIndexed = true
builtin_eq builtins.ListReverse builtins.ListReverse = true
builtin_eq builtins.TextShow builtins.TextShow = true
builtin_eq builtins.TextReplace builtins.TextReplace = true
builtin_eq _ _ = false

-- whether two nodes are of one kind with the same values, their parts aside
abbrev pub op_eq : Op → Op → Bool
op_eq (ops.Builtin b) (ops.Builtin c) = builtin_eq b c
op_eq (ops.Bool b) (ops.Bool c) = bool_eq b c
op_eq (ops.Nat m) (ops.Nat n) = m == n
op_eq (ops.Int m) (ops.Int n) = int_eq m n
op_eq (ops.Text ps) (ops.Text qs) = list_eq bytes_eq ps qs
op_eq (ops.Import i) (ops.Import j) = import_eq i j
op_eq ops.Lam ops.Lam = true
op_eq ops.Pi ops.Pi = true
op_eq (ops.Let b) (ops.Let c) = bool_eq b c
op_eq ops.App ops.App = true
op_eq ops.If ops.If = true
op_eq (ops.Bin o) (ops.Bin p) = bin_eq o p
op_eq ops.EmptyList ops.EmptyList = true
op_eq ops.List ops.List = true
op_eq ops.Some ops.Some = true
op_eq (ops.Merge b) (ops.Merge c) = bool_eq b c
op_eq (ops.RecordType xs) (ops.RecordType ys) = list_eq bytes_eq xs ys
op_eq (ops.Record xs) (ops.Record ys) = list_eq bytes_eq xs ys
op_eq (ops.Field x) (ops.Field y) = bytes_eq x y
op_eq (ops.Project xs) (ops.Project ys) = list_eq bytes_eq xs ys
op_eq ops.ProjectType ops.ProjectType = true
op_eq (ops.Union as') (ops.Union bs) = list_eq alt_eq as' bs
op_eq ops.Assert ops.Assert = true
op_eq ops.Annot ops.Annot = true
op_eq (ops.ToMap b) (ops.ToMap c) = bool_eq b c
op_eq (ops.With xs) (ops.With ys) = list_eq bytes_eq xs ys
op_eq _ _ = false

-- whether two variables have the same name and index
abbrev pub var_eq : Var → Var → Bool
var_eq v w = bytes_eq v.name w.name && eq v.index w.index

-- whether two expressions, or the parts of two nodes, are equal, names of binders included
abbrev mutual
  pub term_eq : Term → Term → Bool
  term_eq (Leaf v) (Leaf w) = var_eq v w
  term_eq (Node o r) (Node p s) = op_eq o p && row_eq r s
  term_eq _ _ = false

  pub row_eq : Row Var Name → Row Var Name → Bool
  row_eq end end = true
  row_eq (kid b e r) (kid c f s) = option_eq bytes_eq b c && term_eq e f && row_eq r s
  row_eq _ _ = false
