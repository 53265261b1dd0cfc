-- Going nameless and reading back, over the kids of the program.
use Rattle.std.specs.Prelude.{◌≡◌, ◌<◌, ◌≤◌, ◌+◌, ◌++◌, ℕ, zero, suc, List, [], ◌∷◌, length, drop, Option, refl}
use Rattle.std.proofs.Common.{sym, ◌∙◌, ap, arith, get_or, subst as along}
use Rattle.dh_syntax.specs.declared.expressions.Expr.{Expr}
use Rattle.dh_syntax.specs.declared.expressions.Expr.TheVariants as expr
use Rattle.dh_syntax.specs.declared.expressions.Kid.{Kid}
use Rattle.dh_syntax.specs.declared.expressions.Op.{Op}
use Rattle.dh_syntax.specs.Expressions.Bridge.{term, row_of}
use Rattle.dh_syntax.specs.Expressions.Rows.{◌+++◌}
use Rattle.dh_syntax.specs.Expressions.Tree.{Row, Leaf, Node, end, kid, Name, Var, Term}
use Rattle.dh_syntax.specs.Names.Indices.{IndicesBelow, RowIndicesBelow}
use Rattle.dh_syntax.specs.Names.Moves.{moved, moved_row, moved_binder, entered}
use Rattle.dh_syntax.specs.Names.Nameless as form
use Rattle.dh_syntax.specs.Names.Nameless.{Ref, going_nameless, reading_back}
use Rattle.dh_syntax.proofs.Bridge.{term-Node, row_of-nil}
use Rattle.dh_syntax.proofs.Rows.{+++-end, +++_assoc, row_of-push, row_of-drop_item, row_of-drop_all}
use Rattle.dh_terms.specs.declared.cores.Core.{Core}
use Rattle.dh_terms.specs.declared.cores.Core.TheVariants as cores
use Rattle.dh_terms.specs.declared.cores.CoreKid.{CoreKid}
use Rattle.dh_terms.specs.Cores.{nameless, nameless_row}
use Rattle.dh_terms.proofs.CoreTrees.{nameless-Bound, nameless-Free, nameless-Node, nameless_row-nil, nameless_row-push, nameless_row-drop_item, nameless_row-drop_all}

-- What is made so far and what will become of the rest are the whole together; so with one more part made.
keeps : {A B : Type 0} (made next left rest last whole : Row A B) → next ≡ made +++ last → left ≡ last +++ rest → made +++ left ≡ whole → next +++ rest ≡ whole
keeps made next left rest last whole pushed read so_far =
    ap (λ r. r +++ rest) pushed ∙ +++_assoc made last rest ∙ ap (λ r. made +++ r) (sym read) ∙ so_far

ends : {A B : Type 0} (made left whole : Row A B) → left ≡ end → made +++ left ≡ whole → made ≡ whole
ends made left whole none so_far = sym (+++-end made) ∙ ap (λ r. made +++ r) (sym none) ∙ so_far

-- Going nameless.
module _ (ys : List Name) where
  pub core-Node : (op : Op) (ks : List Kid) (js : List CoreKid) (e : Expr) → e ≡ expr.Node op ks → nameless_row js ≡ moved_row going_nameless ys (row_of ks) →
      nameless (cores.Node op js) ≡ moved going_nameless ys (term e)
  core-Node op ks js e is parts = nameless-Node op js ∙ ap (Node op) parts ∙ ap (moved going_nameless ys) (sym (term-Node op ks) ∙ ap term (sym is))

  pub core_begins : (done : List CoreKid) (ks : List Kid) → done ≡ [] → nameless_row done +++ moved_row going_nameless ys (row_of ks) ≡ moved_row going_nameless ys (row_of ks)
  core_begins done ks h = ap (λ r. r +++ moved_row going_nameless ys (row_of ks)) (ap nameless_row h ∙ nameless_row-nil)

  pub core_keeps : (done next : List CoreKid) (ks : List Kid) (i : ℕ) (k : Kid) (j : CoreKid) (whole : Row Ref Name) → next ≡ done ++ j ∷ [] →
      nameless_row done +++ moved_row going_nameless ys (row_of (drop i ks)) ≡ whole → i < length ks → k ≡ get_or ks i k →
      j.binder ≡ moved_binder going_nameless k.binder → nameless j.body ≡ moved going_nameless (entered going_nameless ys k.binder) (term k.body) →
      nameless_row next +++ moved_row going_nameless ys (row_of (drop (i + 1) ks)) ≡ whole
  core_keeps done next ks i k j whole pushed so_far h e b t =
      let rest = moved_row going_nameless ys (row_of (drop (i + 1) ks)) in
      keeps (nameless_row done) (nameless_row next) _ rest (kid j.binder (nameless j.body) end) whole
      (ap nameless_row pushed ∙ nameless_row-push done j)
      (ap (moved_row going_nameless ys) (row_of-drop_item ks i k h e)
      ∙ ap (λ (c : Option Name). kid c (moved going_nameless (entered going_nameless ys k.binder) (term k.body)) rest) (sym b)
      ∙ ap (λ (d : form.Core). kid j.binder d rest) (sym t))
      so_far

  pub core_ends : (done : List CoreKid) (ks all : List Kid) (i : ℕ) → ks ≡ all → nameless_row done +++ moved_row going_nameless ys (row_of (drop i ks)) ≡ moved_row going_nameless ys (row_of ks) → length ks ≤ i →
      nameless_row done ≡ moved_row going_nameless ys (row_of all)
  core_ends done ks all i is so_far h =
      ends (nameless_row done) _ _ (ap (moved_row going_nameless ys) (row_of-drop_all ks i h)) so_far ∙ ap (λ js. moved_row going_nameless ys (row_of js)) is

-- Reading names back.
module _ (ys : List Name) where
  pub named-Node : (op : Op) (ks : List CoreKid) (js : List Kid) (c : Core) → c ≡ cores.Node op ks → row_of js ≡ moved_row reading_back ys (nameless_row ks) →
      term (expr.Node op js) ≡ moved reading_back ys (nameless c)
  named-Node op ks js c is parts = term-Node op js ∙ ap (Node op) parts ∙ ap (moved reading_back ys) (sym (nameless-Node op ks) ∙ ap nameless (sym is))

  pub named_begins : (done : List Kid) (ks : List CoreKid) → done ≡ [] → row_of done +++ moved_row reading_back ys (nameless_row ks) ≡ moved_row reading_back ys (nameless_row ks)
  named_begins done ks h = ap (λ js. row_of js +++ moved_row reading_back ys (nameless_row ks)) h ∙ ap (λ r. r +++ moved_row reading_back ys (nameless_row ks)) row_of-nil

  pub named_keeps : (done next : List Kid) (ks : List CoreKid) (i : ℕ) (k : CoreKid) (j : Kid) (whole : Row Var Name) → next ≡ done ++ j ∷ [] →
      row_of done +++ moved_row reading_back ys (nameless_row (drop i ks)) ≡ whole → i < length ks → k ≡ get_or ks i k →
      j.binder ≡ moved_binder reading_back k.binder → term j.body ≡ moved reading_back (entered reading_back ys k.binder) (nameless k.body) →
      row_of next +++ moved_row reading_back ys (nameless_row (drop (i + 1) ks)) ≡ whole
  named_keeps done next ks i k j whole pushed so_far h e b t =
      let rest = moved_row reading_back ys (nameless_row (drop (i + 1) ks)) in
      keeps (row_of done) (row_of next) _ rest (kid j.binder (term j.body) end) whole
      (ap row_of pushed ∙ row_of-push done j)
      (ap (moved_row reading_back ys) (nameless_row-drop_item ks i k h e)
      ∙ ap (λ (c : Option Name). kid c (moved reading_back (entered reading_back ys k.binder) (nameless k.body)) rest) (sym b)
      ∙ ap (λ (d : Term). kid j.binder d rest) (sym t))
      so_far

  pub named_ends : (done : List Kid) (ks all : List CoreKid) (i : ℕ) → ks ≡ all → row_of done +++ moved_row reading_back ys (nameless_row (drop i ks)) ≡ moved_row reading_back ys (nameless_row ks) → length ks ≤ i →
      row_of done ≡ moved_row reading_back ys (nameless_row all)
  named_ends done ks all i is so_far h =
      ends (row_of done) _ _ (ap (moved_row reading_back ys) (nameless_row-drop_all ks i h)) so_far ∙ ap (λ js. moved_row reading_back ys (nameless_row js)) is

-- A node that a match has taken apart.
pub nameless_is-Node : (c : Core) (op : Op) (ks : List CoreKid) → c ≡ cores.Node op ks → nameless c ≡ Node op (nameless_row ks)
nameless_is-Node c op ks is = ap nameless is ∙ nameless-Node op ks

pub nameless_is-Bound : (c : Core) (i : ℕ) → c ≡ cores.Bound i → nameless c ≡ Leaf (form.Bound i)
nameless_is-Bound c i is = ap nameless is ∙ nameless-Bound i

pub nameless_is-Free : (c : Core) (x : Name) (n : ℕ) → c ≡ cores.Free x n → nameless c ≡ Leaf (form.Free x n)
nameless_is-Free c x n is = ap nameless is ∙ nameless-Free x n

-- The room of a part is that of its node.
pub room_of_item : (l : ℕ) (ys : List Name) (ks : List CoreKid) (i : ℕ) (k : CoreKid) → i < length ks → k ≡ get_or ks i k → RowIndicesBelow l (moved_row reading_back ys (nameless_row ks)) →
    IndicesBelow l (moved reading_back (entered reading_back ys k.binder) (nameless k.body))
unfolding nameless_row
room_of_item l ys [] i k h e b = absurd (omega arith)
room_of_item l ys (j ∷ ks) zero k h e b = along (λ (k : CoreKid). IndicesBelow l (moved reading_back (entered reading_back ys k.binder) (nameless k.body))) (sym e) b.0
room_of_item l ys (j ∷ ks) (suc i) k h e b = room_of_item l ys ks i k (omega arith) e b.1
