-- Laws of rows, and what a loop over the kids of a node needs.
use Rattle.std.specs.Prelude.{◌≡◌, ◌<◌, ◌≤◌, ℕ, suc, ◌+◌, List, [], ◌∷◌, ◌++◌, length, drop, Option, Some, slice_get, refl}
use Rattle.std.proofs.Common.{sym, ◌∙◌, ap, get_or, arith}
use Rattle.std.proofs.lemmas.List.{drop_more, drop_all}
use Rattle.std.proofs.lemmas.Option.{slice_get_within, get_or_from_slice_get}
use Rattle.dh_syntax.specs.declared.expressions.Kid.{Kid}
use Rattle.dh_syntax.specs.Expressions.Tree.{Row, end, kid, Var, Name, Term}
use Rattle.dh_syntax.specs.Expressions.Rows.{◌+++◌, row_length}
use Rattle.dh_syntax.specs.Expressions.Bridge.{term, row_of}
use Rattle.dh_syntax.proofs.Bridge.{row_of-nil, row_of-cons}

-- Rows.
pub +++-end : {A B : Type 0} (r : Row A B) → r +++ end ≡ r
+++-end end = refl
+++-end (kid b e r) = ap (kid b e) (+++-end r)

pub +++_assoc : {A B : Type 0} (r s t : Row A B) → (r +++ s) +++ t ≡ r +++ (s +++ t)
+++_assoc end s t = refl
+++_assoc (kid b e r) s t = ap (kid b e) (+++_assoc r s t)

pub row_length-+++ : {A B : Type 0} (r s : Row A B) → row_length (r +++ s) ≡ row_length r + row_length s
row_length-+++ end s = omega arith
row_length-+++ (kid b e r) s = omega (arith, row_length-+++ r s)

-- The parts of a list of kids.
pub row_of-append : (ks js : List Kid) → row_of (ks ++ js) ≡ row_of ks +++ row_of js
unfolding row_of
row_of-append [] js = refl
row_of-append (k ∷ ks) js = ap (kid k.binder (term k.body)) (row_of-append ks js)

pub row_of-push : (ks : List Kid) (k : Kid) → row_of (ks ++ k ∷ []) ≡ row_of ks +++ kid k.binder (term k.body) end
unfolding row_of
row_of-push ks k = row_of-append ks (k ∷ [])

pub row_length-row_of : (ks : List Kid) → row_length (row_of ks) ≡ length ks
unfolding row_of
row_length-row_of [] = refl
row_length-row_of (k ∷ ks) = ap suc (row_length-row_of ks)

-- What is left of the kids at a place, by the kid that a loop over the slice reads there.
pub row_of-drop_item : (ks : List Kid) (i : ℕ) (k : Kid) → i < length ks → k ≡ get_or ks i k → row_of (drop i ks) ≡ kid k.binder (term k.body) (row_of (drop (i + 1) ks))
row_of-drop_item ks i k h e =
    ap row_of (drop_more ks i k h) ∙ row_of-cons (get_or ks i k) (drop (i + 1) ks) ∙ ap (λ j. kid j.binder (term j.body) (row_of (drop (i + 1) ks))) (sym e)

pub at_row_of-drop_item : {Y : Type 0} (F : Row Var Name → Y) (ks : List Kid) (i : ℕ) (k : Kid) → i < length ks → k ≡ get_or ks i k →
    F (row_of (drop i ks)) ≡ F (kid k.binder (term k.body) (row_of (drop (i + 1) ks)))
at_row_of-drop_item F ks i k h e = ap F (row_of-drop_item ks i k h e)

pub row_of-drop_all : (ks : List Kid) (i : ℕ) → length ks ≤ i → row_of (drop i ks) ≡ end
row_of-drop_all ks i h = ap row_of (drop_all i ks h) ∙ row_of-nil

pub at_row_of-drop_all : {Y : Type 0} (F : Row Var Name → Y) (ks : List Kid) (i : ℕ) → length ks ≤ i → F (row_of (drop i ks)) ≡ F end
at_row_of-drop_all F ks i h = ap F (row_of-drop_all ks i h)

-- One, two and three kids.
pub row_of-one : (k : Kid) → row_of (k ∷ []) ≡ kid k.binder (term k.body) end
unfolding row_of
row_of-one k = refl

pub row_of-two : (k j : Kid) → row_of (k ∷ j ∷ []) ≡ kid k.binder (term k.body) (kid j.binder (term j.body) end)
unfolding row_of
row_of-two k j = refl

pub row_of-three : (k j l : Kid) → row_of (k ∷ j ∷ l ∷ []) ≡ kid k.binder (term k.body) (kid j.binder (term j.body) (kid l.binder (term l.body) end))
unfolding row_of
row_of-three k j l = refl

-- A loop that makes a kid from each kid, where `F` is what becomes of a row: what is made so far and what will become
-- of the rest stay the same together. `G` is what becomes of the rest after this kid, often `F` itself.
pub row_keeps : (F G : Row Var Name → Row Var Name) (done ks : List Kid) (i : ℕ) (k j : Kid) (whole : Row Var Name) →
    row_of done +++ F (row_of (drop i ks)) ≡ whole → i < length ks → k ≡ get_or ks i k →
    F (kid k.binder (term k.body) (row_of (drop (i + 1) ks))) ≡ kid j.binder (term j.body) (G (row_of (drop (i + 1) ks))) →
    row_of (done ++ j ∷ []) +++ G (row_of (drop (i + 1) ks)) ≡ whole
row_keeps F G done ks i k j whole so_far h e step =
    let rest = row_of (drop (i + 1) ks) in
    ap (λ r. r +++ G rest) (row_of-push done j) ∙ +++_assoc (row_of done) (kid j.binder (term j.body) end) (G rest) ∙ ap (λ r. row_of done +++ r) (sym step)
    ∙ ap (λ r. row_of done +++ F r) (sym (row_of-drop_item ks i k h e)) ∙ so_far

pub row_begins : (F : Row Var Name → Row Var Name) (ks : List Kid) → row_of [] +++ F (row_of (drop 0 ks)) ≡ F (row_of ks)
row_begins F ks = ap (λ r. r +++ F (row_of ks)) row_of-nil

pub row_ends : (F : Row Var Name → Row Var Name) (done ks : List Kid) (i : ℕ) (whole : Row Var Name) →
    row_of done +++ F (row_of (drop i ks)) ≡ whole → length ks ≤ i → F end ≡ end → row_of done ≡ whole
row_ends F done ks i whole so_far h e =
    sym (+++-end (row_of done)) ∙ ap (λ r. row_of done +++ r) (sym e) ∙ ap (λ r. row_of done +++ F r) (sym (row_of-drop_all ks i h)) ∙ so_far
