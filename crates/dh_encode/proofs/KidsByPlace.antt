-- The parts of a node by their places.
use Rattle.std.specs.Prelude.{◌≡◌, ℕ, zero, suc, true, List, [], ◌∷◌, ◌++◌, length, Option, Some, None, refl}
use Rattle.std.proofs.Common.{sym, ap, ◌∙◌, get_or}
use Rattle.std.proofs.lemmas.Bool.{false≢true}
use Rattle.dh_syntax.specs.declared.expressions.Kid.{Kid}
use Rattle.dh_syntax.specs.Expressions.Arity.{plain}
use Rattle.dh_syntax.specs.Expressions.Bridge.{term, row_of}
use Rattle.dh_syntax.specs.Expressions.Rows.{◌+++◌, row_length}
use Rattle.dh_syntax.specs.Expressions.Tree.{Tree, Row, Name, end, kid}
use Rattle.dh_syntax.proofs.Rows.{row_length-row_of, row_of-push}

pub plain-length : {A B : Type 0} (n : ℕ) (r : Row A B) → plain n r ≡ true → row_length r ≡ n
plain-length zero end h = refl
plain-length zero (kid b e r) h = absurd (false≢true h)
plain-length (suc n) end h = absurd (false≢true h)
plain-length (suc n) (kid None e r) h = ap suc (plain-length n r h)
plain-length (suc n) (kid (Some x) e r) h = absurd (false≢true h)

-- how many kids there are
pub kids_plain : (n : ℕ) (ks : List Kid) → plain n (row_of ks) ≡ true → length ks ≡ n
kids_plain n ks h = sym (row_length-row_of ks) ∙ plain-length n (row_of ks) h

pub first_free : {A B : Type 0} (n : ℕ) (b : Option B) (e : Tree A B) (r : Row A B) → plain (suc n) (kid b e r) ≡ true → (b ≡ None) × (plain n r ≡ true)
first_free n None e r h = (refl, h)
first_free n (Some x) e r h = absurd (false≢true h)

none_left : {A B : Type 0} (b : Option B) (e : Tree A B) (r : Row A B) → plain 0 (kid b e r) ≡ true → ⊥
none_left b e r h = false≢true h

pub row_one : (ks : List Kid) (d : Kid) → plain 1 (row_of ks) ≡ true → row_of ks ≡ kid None (term (get_or ks 0 d).body) end
unfolding row_of
row_one [] d h = absurd (false≢true h)
row_one (k ∷ []) d h = ap (λ b. kid b (term k.body) end) (first_free 0 k.binder (term k.body) end h).0
row_one (k ∷ j ∷ ks) d h = absurd (none_left j.binder (term j.body) (row_of ks) (first_free 0 k.binder (term k.body) (row_of (j ∷ ks)) h).1)

pub row_two : (ks : List Kid) (d f : Kid) → plain 2 (row_of ks) ≡ true → row_of ks ≡ kid None (term (get_or ks 0 d).body) (kid None (term (get_or ks 1 f).body) end)
unfolding row_of
row_two [] d f h = absurd (false≢true h)
row_two (k ∷ []) d f h = absurd (false≢true (first_free 1 k.binder (term k.body) end h).1)
row_two (k ∷ j ∷ []) d f h =
    let p = first_free 1 k.binder (term k.body) (row_of (j ∷ [])) h in
    let q = first_free 0 j.binder (term j.body) end p.1 in
    ap (λ b. kid b (term k.body) (kid j.binder (term j.body) end)) p.0 ∙ ap (λ b. kid None (term k.body) (kid b (term j.body) end)) q.0
row_two (k ∷ j ∷ l ∷ ks) d f h =
    let p = first_free 1 k.binder (term k.body) (row_of (j ∷ l ∷ ks)) h in
    absurd (none_left l.binder (term l.body) (row_of ks) (first_free 0 j.binder (term j.body) (row_of (l ∷ ks)) p.1).1)

-- the parts before the last one, and the last one under its variable
pub row_scope : (ks front : List Kid) (k : Kid) (x : Name) → ks ≡ front ++ k ∷ [] → k.binder ≡ Some x → row_of ks ≡ row_of front +++ kid (Some x) (term k.body) end
row_scope ks front k x e h = ap row_of e ∙ row_of-push front k ∙ ap (λ b. row_of front +++ kid b (term k.body) end) h
