-- The tests of equality are true exactly where the two are equal.
use Rattle.std.specs.Prelude.{◌≡◌, ℕ, Bool, true, false, ◌&&◌, List, [], ◌∷◌, Option, Some, None, refl}
use Rattle.std.specs.Bool.{Decides}
use Rattle.std.proofs.lemmas.Bool.Decides.{Decides-eqb, Decides-int_eq}
use Rattle.std.proofs.Common.{ap, subst}
use Rattle.dh_syntax.specs.declared.expressions.Alt.{Alt}
use Rattle.dh_syntax.specs.declared.expressions.Op.{Op}
use Rattle.dh_syntax.specs.declared.expressions.Op.TheVariants as ops
use Rattle.dh_syntax.specs.declared.locations.Digest.{Digest}
use Rattle.dh_syntax.specs.declared.locations.Import.{Import}
use Rattle.dh_syntax.specs.declared.locations.Loc.{Loc}
use Rattle.dh_syntax.specs.declared.locations.Loc.TheVariants as locs
use Rattle.dh_syntax.specs.declared.locations.Mode.{Mode}
use Rattle.dh_syntax.specs.declared.locations.Mode.TheVariants as modes
use Rattle.dh_syntax.specs.declared.locations.Url.{Url}
use Rattle.dh_syntax.specs.declared.operators.BinOp.{BinOp}
use Rattle.dh_syntax.specs.declared.operators.BinOp.TheVariants as bins
use Rattle.dh_syntax.specs.declared.operators.Builtin.{Builtin}
use Rattle.dh_syntax.specs.declared.operators.Builtin.TheVariants as builtins
use Rattle.dh_syntax.specs.Expressions.Numbers.{eq, bytes_eq}
use Rattle.dh_syntax.specs.Expressions.SameTree.{bool_eq, list_eq, option_eq, digest_eq, mode_eq, url_eq, loc_eq, import_eq, alt_eq, bin_eq, builtin_eq, op_eq, var_eq, term_eq, row_eq}
use Rattle.dh_syntax.specs.Expressions.Tree.{Row, Leaf, Node, end, kid, Name, Var, Term}
use Rattle.dh_syntax.proofs.Numbers.{and-true_left, and-true_right, eq-itself, eq-true, bytes_eq-itself, bytes_eq-true}

-- A test that is true of each thing with itself, and of equal things only.
pub record Tells {A : Type 0} (same : A → A → Bool) : Type 0 where
  pub itself : (a : A) → same a a ≡ true
  pub equal : (a b : A) → same a b ≡ true → a ≡ b

pub bytes_tell : Tells bytes_eq
bytes_tell = record { itself = bytes_eq-itself; equal = bytes_eq-true }

bool_eq-true : (a b : Bool) → bool_eq a b ≡ true → a ≡ b
bool_eq-true true true h = refl
bool_eq-true false false h = refl
bool_eq-true true false h = cc
bool_eq-true false true h = cc

bool_eq-itself : (a : Bool) → bool_eq a a ≡ true
bool_eq-itself true = refl
bool_eq-itself false = refl

module _ {A : Type 0} {same : A → A → Bool} (t : Tells same) where
  list_eq-itself : (as' : List A) → list_eq same as' as' ≡ true
  list_eq-itself [] = refl
  list_eq-itself (a ∷ as') = let p = t.itself a in let ih = list_eq-itself as' in rw (p, ih) refl

  list_eq-true : (as' bs : List A) → list_eq same as' bs ≡ true → as' ≡ bs
  list_eq-true [] [] h = refl
  list_eq-true (a ∷ as') (b ∷ bs) h =
      let p = t.equal a b (and-true_left (same a b) (list_eq same as' bs) h) in
      let q = list_eq-true as' bs (and-true_right (same a b) (list_eq same as' bs) h) in
      cc
  list_eq-true [] (b ∷ bs) h = cc
  list_eq-true (a ∷ as') [] h = cc

  pub lists_tell : Tells (list_eq same)
  lists_tell = record { itself = list_eq-itself; equal = list_eq-true }

  option_eq-itself : (a : Option A) → option_eq same a a ≡ true
  option_eq-itself None = refl
  option_eq-itself (Some a) = t.itself a

  option_eq-true : (a b : Option A) → option_eq same a b ≡ true → a ≡ b
  option_eq-true None None h = refl
  option_eq-true (Some a) (Some b) h = ap Some (t.equal a b h)
  option_eq-true None (Some b) h = cc
  option_eq-true (Some a) None h = cc

  pub options_tell : Tells (option_eq same)
  options_tell = record { itself = option_eq-itself; equal = option_eq-true }

mode_eq-itself : (m : Mode) → mode_eq m m ≡ true
mode_eq-itself modes.Code = refl
mode_eq-itself modes.Text = refl
mode_eq-itself modes.Location = refl

mode_eq-true : (m n : Mode) → mode_eq m n ≡ true → m ≡ n
mode_eq-true modes.Code modes.Code h = refl
mode_eq-true modes.Text modes.Text h = refl
mode_eq-true modes.Location modes.Location h = refl
mode_eq-true _ _ h = cc

bin_eq-itself : (o : BinOp) → bin_eq o o ≡ true
bin_eq-itself bins.Or = refl
bin_eq-itself bins.And = refl
bin_eq-itself bins.Equal = refl
bin_eq-itself bins.NotEqual = refl
bin_eq-itself bins.Plus = refl
bin_eq-itself bins.Times = refl
bin_eq-itself bins.TextAppend = refl
bin_eq-itself bins.ListAppend = refl
bin_eq-itself bins.Combine = refl
bin_eq-itself bins.Prefer = refl
bin_eq-itself bins.CombineTypes = refl
bin_eq-itself bins.Fallback = refl
bin_eq-itself bins.Equivalent = refl
bin_eq-itself bins.Complete = refl

bin_eq-true : (o p : BinOp) → bin_eq o p ≡ true → o ≡ p
bin_eq-true bins.Or bins.Or h = refl
bin_eq-true bins.And bins.And h = refl
bin_eq-true bins.Equal bins.Equal h = refl
bin_eq-true bins.NotEqual bins.NotEqual h = refl
bin_eq-true bins.Plus bins.Plus h = refl
bin_eq-true bins.Times bins.Times h = refl
bin_eq-true bins.TextAppend bins.TextAppend h = refl
bin_eq-true bins.ListAppend bins.ListAppend h = refl
bin_eq-true bins.Combine bins.Combine h = refl
bin_eq-true bins.Prefer bins.Prefer h = refl
bin_eq-true bins.CombineTypes bins.CombineTypes h = refl
bin_eq-true bins.Fallback bins.Fallback h = refl
bin_eq-true bins.Equivalent bins.Equivalent h = refl
bin_eq-true bins.Complete bins.Complete h = refl
bin_eq-true _ _ h = cc

builtin_eq-itself : (b : Builtin) → builtin_eq b b ≡ true
builtin_eq-itself builtins.TypeConst = refl
builtin_eq-itself builtins.Kind = refl
builtin_eq-itself builtins.Sort = refl
builtin_eq-itself builtins.Bool = refl
builtin_eq-itself builtins.Natural = refl
builtin_eq-itself builtins.Integer = refl
builtin_eq-itself builtins.Text = refl
builtin_eq-itself builtins.List = refl
builtin_eq-itself builtins.Optional = refl
builtin_eq-itself builtins.None = refl
builtin_eq-itself builtins.NaturalFold = refl
builtin_eq-itself builtins.NaturalBuild = refl
builtin_eq-itself builtins.NaturalIsZero = refl
builtin_eq-itself builtins.NaturalEven = refl
builtin_eq-itself builtins.NaturalOdd = refl
builtin_eq-itself builtins.NaturalToInteger = refl
builtin_eq-itself builtins.NaturalShow = refl
builtin_eq-itself builtins.NaturalSubtract = refl
builtin_eq-itself builtins.IntegerShow = refl
builtin_eq-itself builtins.IntegerNegate = refl
builtin_eq-itself builtins.IntegerClamp = refl
builtin_eq-itself builtins.ListBuild = refl
builtin_eq-itself builtins.ListFold = refl
builtin_eq-itself builtins.ListLength = refl
builtin_eq-itself builtins.ListHead = refl
builtin_eq-itself builtins.ListLast = refl
builtin_eq-itself builtins.ListIndexed = refl
builtin_eq-itself builtins.ListReverse = refl
builtin_eq-itself builtins.TextShow = refl
builtin_eq-itself builtins.TextReplace = refl

builtin_eq-true : (b c : Builtin) → builtin_eq b c ≡ true → b ≡ c
builtin_eq-true builtins.TypeConst builtins.TypeConst h = refl
builtin_eq-true builtins.Kind builtins.Kind h = refl
builtin_eq-true builtins.Sort builtins.Sort h = refl
builtin_eq-true builtins.Bool builtins.Bool h = refl
builtin_eq-true builtins.Natural builtins.Natural h = refl
builtin_eq-true builtins.Integer builtins.Integer h = refl
builtin_eq-true builtins.Text builtins.Text h = refl
builtin_eq-true builtins.List builtins.List h = refl
builtin_eq-true builtins.Optional builtins.Optional h = refl
builtin_eq-true builtins.None builtins.None h = refl
builtin_eq-true builtins.NaturalFold builtins.NaturalFold h = refl
builtin_eq-true builtins.NaturalBuild builtins.NaturalBuild h = refl
builtin_eq-true builtins.NaturalIsZero builtins.NaturalIsZero h = refl
builtin_eq-true builtins.NaturalEven builtins.NaturalEven h = refl
builtin_eq-true builtins.NaturalOdd builtins.NaturalOdd h = refl
builtin_eq-true builtins.NaturalToInteger builtins.NaturalToInteger h = refl
builtin_eq-true builtins.NaturalShow builtins.NaturalShow h = refl
builtin_eq-true builtins.NaturalSubtract builtins.NaturalSubtract h = refl
builtin_eq-true builtins.IntegerShow builtins.IntegerShow h = refl
builtin_eq-true builtins.IntegerNegate builtins.IntegerNegate h = refl
builtin_eq-true builtins.IntegerClamp builtins.IntegerClamp h = refl
builtin_eq-true builtins.ListBuild builtins.ListBuild h = refl
builtin_eq-true builtins.ListFold builtins.ListFold h = refl
builtin_eq-true builtins.ListLength builtins.ListLength h = refl
builtin_eq-true builtins.ListHead builtins.ListHead h = refl
builtin_eq-true builtins.ListLast builtins.ListLast h = refl
builtin_eq-true builtins.ListIndexed builtins.ListIndexed h = refl
builtin_eq-true builtins.ListReverse builtins.ListReverse h = refl
builtin_eq-true builtins.TextShow builtins.TextShow h = refl
builtin_eq-true builtins.TextReplace builtins.TextReplace h = refl
builtin_eq-true _ _ h = cc

digest_eq-itself : (d : Digest) → digest_eq d d ≡ true
digest_eq-itself d = bytes_eq-itself d.0

digest_eq-true : (d e : Digest) → digest_eq d e ≡ true → d ≡ e
digest_eq-true d e h = let p = bytes_eq-true d.0 e.0 h in ap (λ (x : List ℕ). record { 0 = x }) p

pub digests_tell : Tells digest_eq
digests_tell = record { itself = digest_eq-itself; equal = digest_eq-true }

url_eq-itself : (u : Url) → url_eq u u ≡ true
url_eq-itself u =
    let p = bytes_eq-itself u.host in
    let q = (lists_tell bytes_tell).itself u.comps in
    let r = (options_tell bytes_tell).itself u.query in
    rw (p, q, r) refl

url_eq-true : (u v : Url) → url_eq u v ≡ true → u ≡ v
url_eq-true u v h =
    let hosts = bytes_eq u.host v.host in
    let comps = list_eq bytes_eq u.comps v.comps in
    let queries = option_eq bytes_eq u.query v.query in
    let h' = and-true_left (hosts && comps) queries h in
    let p = bytes_eq-true u.host v.host (and-true_left hosts comps h') in
    let q = (lists_tell bytes_tell).equal u.comps v.comps (and-true_right hosts comps h') in
    let r = (options_tell bytes_tell).equal u.query v.query (and-true_right (hosts && comps) queries h) in
    λ i. record { host = p i; comps = q i; query = r i }

loc_eq-itself : (l : Loc) → loc_eq l l ≡ true
loc_eq-itself (locs.Abs cs) = (lists_tell bytes_tell).itself cs
loc_eq-itself (locs.Here cs) = (lists_tell bytes_tell).itself cs
loc_eq-itself (locs.Parent cs) = (lists_tell bytes_tell).itself cs
loc_eq-itself (locs.Home cs) = (lists_tell bytes_tell).itself cs
loc_eq-itself (locs.Http u) = url_eq-itself u
loc_eq-itself (locs.Https u) = url_eq-itself u
loc_eq-itself (locs.Env x) = bytes_eq-itself x
loc_eq-itself locs.Missing = refl

loc_eq-true : (k l : Loc) → loc_eq k l ≡ true → k ≡ l
loc_eq-true (locs.Abs cs) (locs.Abs ds) h = ap locs.Abs ((lists_tell bytes_tell).equal cs ds h)
loc_eq-true (locs.Here cs) (locs.Here ds) h = ap locs.Here ((lists_tell bytes_tell).equal cs ds h)
loc_eq-true (locs.Parent cs) (locs.Parent ds) h = ap locs.Parent ((lists_tell bytes_tell).equal cs ds h)
loc_eq-true (locs.Home cs) (locs.Home ds) h = ap locs.Home ((lists_tell bytes_tell).equal cs ds h)
loc_eq-true (locs.Http u) (locs.Http v) h = ap locs.Http (url_eq-true u v h)
loc_eq-true (locs.Https u) (locs.Https v) h = ap locs.Https (url_eq-true u v h)
loc_eq-true (locs.Env x) (locs.Env y) h = ap locs.Env (bytes_eq-true x y h)
loc_eq-true locs.Missing locs.Missing h = refl
loc_eq-true _ _ h = cc

pub locs_tell : Tells loc_eq
locs_tell = record { itself = loc_eq-itself; equal = loc_eq-true }

import_eq-itself : (i : Import) → import_eq i i ≡ true
import_eq-itself i =
    let p = loc_eq-itself i.loc in
    let q = mode_eq-itself i.mode in
    let r = (options_tell digests_tell).itself i.digest in
    rw (p, q, r) refl

import_eq-true : (i j : Import) → import_eq i j ≡ true → i ≡ j
import_eq-true i j h =
    let places = loc_eq i.loc j.loc in
    let modes = mode_eq i.mode j.mode in
    let digests = option_eq digest_eq i.digest j.digest in
    let h' = and-true_left (places && modes) digests h in
    let p = loc_eq-true i.loc j.loc (and-true_left places modes h') in
    let q = mode_eq-true i.mode j.mode (and-true_right places modes h') in
    let r = (options_tell digests_tell).equal i.digest j.digest (and-true_right (places && modes) digests h) in
    λ k. record { loc = p k; mode = q k; digest = r k }

alt_eq-itself : (a : Alt) → alt_eq a a ≡ true
alt_eq-itself a =
    let p = bytes_eq-itself a.label in
    let q = bool_eq-itself a.typed in
    rw (p, q) refl

alt_eq-true : (a b : Alt) → alt_eq a b ≡ true → a ≡ b
alt_eq-true a b h =
    let labels = bytes_eq a.label b.label in
    let types = bool_eq a.typed b.typed in
    let p = bytes_eq-true a.label b.label (and-true_left labels types h) in
    let q = bool_eq-true a.typed b.typed (and-true_right labels types h) in
    λ i. record { label = p i; typed = q i }

pub alts_tell : Tells alt_eq
alts_tell = record { itself = alt_eq-itself; equal = alt_eq-true }

op_eq-itself : (o : Op) → op_eq o o ≡ true
op_eq-itself (ops.Builtin b) = builtin_eq-itself b
op_eq-itself (ops.Bool b) = bool_eq-itself b
op_eq-itself (ops.Nat n) = (Decides-eqb n n).1 refl
op_eq-itself (ops.Int n) = (Decides-int_eq n n).1 refl
op_eq-itself (ops.Text ps) = (lists_tell bytes_tell).itself ps
op_eq-itself (ops.Import i) = import_eq-itself i
op_eq-itself (ops.Let b) = bool_eq-itself b
op_eq-itself (ops.Bin o) = bin_eq-itself o
op_eq-itself (ops.Merge b) = bool_eq-itself b
op_eq-itself (ops.RecordType xs) = (lists_tell bytes_tell).itself xs
op_eq-itself (ops.Record xs) = (lists_tell bytes_tell).itself xs
op_eq-itself (ops.Field x) = bytes_eq-itself x
op_eq-itself (ops.Project xs) = (lists_tell bytes_tell).itself xs
op_eq-itself (ops.Union as') = (lists_tell alts_tell).itself as'
op_eq-itself (ops.ToMap b) = bool_eq-itself b
op_eq-itself (ops.With xs) = (lists_tell bytes_tell).itself xs
op_eq-itself _ = refl

op_eq-true : (o p : Op) → op_eq o p ≡ true → o ≡ p
op_eq-true (ops.Builtin b) (ops.Builtin c) h = ap ops.Builtin (builtin_eq-true b c h)
op_eq-true (ops.Bool b) (ops.Bool c) h = ap ops.Bool (bool_eq-true b c h)
op_eq-true (ops.Nat m) (ops.Nat n) h = ap ops.Nat ((Decides-eqb m n).0 h)
op_eq-true (ops.Int m) (ops.Int n) h = ap ops.Int ((Decides-int_eq m n).0 h)
op_eq-true (ops.Text ps) (ops.Text qs) h = ap ops.Text ((lists_tell bytes_tell).equal ps qs h)
op_eq-true (ops.Import i) (ops.Import j) h = ap ops.Import (import_eq-true i j h)
op_eq-true ops.Lam ops.Lam h = refl
op_eq-true ops.Pi ops.Pi h = refl
op_eq-true (ops.Let b) (ops.Let c) h = ap ops.Let (bool_eq-true b c h)
op_eq-true ops.App ops.App h = refl
op_eq-true ops.If ops.If h = refl
op_eq-true (ops.Bin o) (ops.Bin p) h = ap ops.Bin (bin_eq-true o p h)
op_eq-true ops.EmptyList ops.EmptyList h = refl
op_eq-true ops.List ops.List h = refl
op_eq-true ops.Some ops.Some h = refl
op_eq-true (ops.Merge b) (ops.Merge c) h = ap ops.Merge (bool_eq-true b c h)
op_eq-true (ops.RecordType xs) (ops.RecordType ys) h = ap ops.RecordType ((lists_tell bytes_tell).equal xs ys h)
op_eq-true (ops.Record xs) (ops.Record ys) h = ap ops.Record ((lists_tell bytes_tell).equal xs ys h)
op_eq-true (ops.Field x) (ops.Field y) h = ap ops.Field (bytes_eq-true x y h)
op_eq-true (ops.Project xs) (ops.Project ys) h = ap ops.Project ((lists_tell bytes_tell).equal xs ys h)
op_eq-true ops.ProjectType ops.ProjectType h = refl
op_eq-true (ops.Union as') (ops.Union bs) h = ap ops.Union ((lists_tell alts_tell).equal as' bs h)
op_eq-true ops.Assert ops.Assert h = refl
op_eq-true ops.Annot ops.Annot h = refl
op_eq-true (ops.ToMap b) (ops.ToMap c) h = ap ops.ToMap (bool_eq-true b c h)
op_eq-true (ops.With xs) (ops.With ys) h = ap ops.With ((lists_tell bytes_tell).equal xs ys h)
op_eq-true _ _ h = cc

pub ops_tell : Tells op_eq
ops_tell = record { itself = op_eq-itself; equal = op_eq-true }

var_eq-itself : (v : Var) → var_eq v v ≡ true
var_eq-itself v =
    let p = bytes_eq-itself v.name in
    let q = eq-itself v.index in
    rw (p, q) refl

var_eq-true : (v w : Var) → var_eq v w ≡ true → v ≡ w
var_eq-true v w h =
    let names = bytes_eq v.name w.name in
    let indices = eq v.index w.index in
    let p = bytes_eq-true v.name w.name (and-true_left names indices h) in
    let q = eq-true v.index w.index (and-true_right names indices h) in
    λ i. record { name = p i; index = q i }

mutual
  term_eq-itself : (e : Term) → term_eq e e ≡ true
  term_eq-itself (Leaf v) = var_eq-itself v
  term_eq-itself (Node o r) =
      let p = op_eq-itself o in
      let q = row_eq-itself r in
      rw (p, q) refl

  row_eq-itself : (r : Row Var Name) → row_eq r r ≡ true
  row_eq-itself end = refl
  row_eq-itself (kid b e r) =
      let p = (options_tell bytes_tell).itself b in
      let q = term_eq-itself e in
      let s = row_eq-itself r in
      rw (p, q, s) refl

mutual
  term_eq-true : (e f : Term) → term_eq e f ≡ true → e ≡ f
  term_eq-true (Leaf v) (Leaf w) h = ap Leaf (var_eq-true v w h)
  term_eq-true (Node o r) (Node p s) h =
      let a = op_eq-true o p (and-true_left (op_eq o p) (row_eq r s) h) in
      let b = row_eq-true r s (and-true_right (op_eq o p) (row_eq r s) h) in
      cc
  term_eq-true (Leaf v) (Node p s) h = cc
  term_eq-true (Node o r) (Leaf w) h = cc

  row_eq-true : (r s : Row Var Name) → row_eq r s ≡ true → r ≡ s
  row_eq-true end end h = refl
  row_eq-true (kid b e r) (kid c f s) h =
      let binders = option_eq bytes_eq b c in
      let parts = term_eq e f in
      let rest = row_eq r s in
      let h' = and-true_left (binders && parts) rest h in
      let p = (options_tell bytes_tell).equal b c (and-true_left binders parts h') in
      let q = term_eq-true e f (and-true_right binders parts h') in
      let t = row_eq-true r s (and-true_right (binders && parts) rest h) in
      λ i. kid (p i) (q i) (t i)
  row_eq-true end (kid c f s) h = cc
  row_eq-true (kid b e r) end h = cc

pub terms_tell : Tells term_eq
terms_tell = record { itself = term_eq-itself; equal = term_eq-true }

-- A test that tells is true exactly where the two are equal.
pub tells-Decides : {A : Type 0} {same : A → A → Bool} → Tells same → (a b : A) → Decides (same a b) (a ≡ b)
tells-Decides {same = same} t a b = (t.equal a b, λ p. subst (λ c. same a c ≡ true) p (t.itself a))

pub term_eq-Decides : (e f : Term) → Decides (term_eq e f) (e ≡ f)
term_eq-Decides = tells-Decides terms_tell
