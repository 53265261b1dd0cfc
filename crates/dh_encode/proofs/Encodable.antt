-- What can be encoded has parts that can be encoded.
use Rattle.std.specs.Prelude.{◌≡◌, ◌<◌, ◌≤◌, ℕ, zero, suc, List, [], ◌∷◌, length, Option}
use Rattle.std.proofs.Common.{sym, arith, get_or, subst as along}
use Rattle.dh_syntax.specs.declared.expressions.Kid.{Kid}
use Rattle.dh_syntax.specs.declared.expressions.Op.{Op}
use Rattle.std.specs.Prelude.{IsTrue, refl}
use Rattle.dh_syntax.specs.Expressions.Arity.{fits}
use Rattle.dh_syntax.specs.Expressions.Bridge.{term, row_of}
use Rattle.dh_syntax.specs.Expressions.Nesting.{nesting, parts_nesting}
use Rattle.dh_syntax.specs.Expressions.Rows.{◌+++◌}
use Rattle.dh_syntax.specs.Expressions.Tree.{Row, Node, Var, Name, Term, end, kid}
use Rattle.dh_encode.specs.Inside.Items.{CanEncode, CanEncodeAll}

-- an expression that is a part, or a row of parts
pub record IsPart (e : Term) (r : Row Var Name) : Type 0 where
  pub can : CanEncode e
  pub less : nesting e < parts_nesting r

pub record IsRest (s r : Row Var Name) : Type 0 where
  pub can : CanEncodeAll s
  pub few : parts_nesting s ≤ parts_nesting r

pub first_part : (b : Option Name) (e : Term) (s r : Row Var Name) → r ≡ kid b e s → CanEncodeAll r → IsPart e r
first_part b e s r h c =
    let d : CanEncodeAll (kid b e s) = along CanEncodeAll h c in
    along (IsPart e) (sym h) (record { can = (d.0.0, let n = d.1 in omega arith); less = omega arith })

pub rest_parts : (b : Option Name) (e : Term) (s r : Row Var Name) → r ≡ kid b e s → CanEncodeAll r → IsRest s r
rest_parts b e s r h c =
    let d : CanEncodeAll (kid b e s) = along CanEncodeAll h c in
    along (IsRest s) (sym h) (record { can = (d.0.1, let n = d.1 in omega arith); few = omega arith })

pub second_part : (b c : Option Name) (e f : Term) (s r : Row Var Name) → r ≡ kid b e (kid c f s) → CanEncodeAll r → IsPart f r
second_part b c e f s r h d =
    let rest = rest_parts b e (kid c f s) r h d in
    let part = first_part c f s (kid c f s) refl rest.can in
    record { can = part.can; less = let m = part.less in let n = rest.few in omega arith }

last_in : (f : Row Var Name) (b : Option Name) (e : Term) → CanEncodeAll (f +++ kid b e end) → IsPart e (f +++ kid b e end)
last_in end b e c = first_part b e end (kid b e end) refl c
last_in (kid a d f) b e c =
    let rest = rest_parts a d (f +++ kid b e end) (kid a d (f +++ kid b e end)) refl c in
    let part = last_in f b e rest.can in
    record { can = part.can; less = let m = part.less in let n = rest.few in omega arith }

front_in : (f : Row Var Name) (b : Option Name) (e : Term) → CanEncodeAll (f +++ kid b e end) → IsRest f (f +++ kid b e end)
front_in end b e c = record { can = (tt, omega arith); few = omega arith }
front_in (kid a d f) b e c =
    let first = first_part a d (f +++ kid b e end) (kid a d (f +++ kid b e end)) refl c in
    let rest = rest_parts a d (f +++ kid b e end) (kid a d (f +++ kid b e end)) refl c in
    let front = front_in f b e rest.can in
    record { can = ((first.can.0, front.can.0), let m = front.can.1 in let n = first.can.1 in let l = first.less in let k = c.1 in let j = front.few in omega arith); few = let j = front.few in omega arith }

pub last_part : (f : Row Var Name) (b : Option Name) (e : Term) (r : Row Var Name) → r ≡ f +++ kid b e end → CanEncodeAll r → IsPart e r
last_part f b e r h c = along (IsPart e) (sym h) (last_in f b e (along CanEncodeAll h c))

pub front_parts : (f : Row Var Name) (b : Option Name) (e : Term) (r : Row Var Name) → r ≡ f +++ kid b e end → CanEncodeAll r → IsRest f r
front_parts f b e r h c = along (IsRest f) (sym h) (front_in f b e (along CanEncodeAll h c))

-- the kid at a place
pub kid_part : (ks : List Kid) (i : ℕ) (k : Kid) → i < length ks → k ≡ get_or ks i k → CanEncodeAll (row_of ks) → IsPart (term k.body) (row_of ks)
unfolding row_of
kid_part [] i k h e c = absurd (omega arith)
kid_part (j ∷ ks) zero k h e c = along (λ (l : Kid). IsPart (term l.body) (row_of (j ∷ ks))) (sym e) (first_part j.binder (term j.body) (row_of ks) (row_of (j ∷ ks)) refl c)
kid_part (j ∷ ks) (suc i) k h e c =
    let rest = rest_parts j.binder (term j.body) (row_of ks) (row_of (j ∷ ks)) refl c in
    let part = kid_part ks i k (omega arith) e rest.can in
    record { can = part.can; less = let m = part.less in let n = rest.few in omega arith }

-- an expression that is a node
pub record IsNode (op : Op) (r : Row Var Name) (e : Term) : Type 0 where
  pub fit : IsTrue (fits op r)
  pub can : CanEncodeAll r
  pub same : parts_nesting r ≡ nesting e

pub of_node : (op : Op) (r : Row Var Name) (e : Term) → e ≡ Node op r → CanEncode e → IsNode op r e
of_node op r e h c =
    let d : CanEncode (Node op r) = along CanEncode h c in
    along (IsNode op r) (sym h) (record { fit = d.0.0; can = (d.0.1, d.1); same = refl })
