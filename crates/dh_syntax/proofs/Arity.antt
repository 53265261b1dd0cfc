-- The parts of a node, as the program tests them.
use Rattle.std.specs.Prelude.{◌≡◌, ◌==◌, ℕ, zero, suc, ◌+◌, Bool, true, false, ◌&&◌, not, List, [], ◌∷◌, ◌++◌, length, Option, Some, None, is_some, is_none, map, count_by, refl}
use Rattle.std.specs.List.{list_all}
use Rattle.std.proofs.lemmas.List.Recursion.{is_count_by}
use Rattle.std.proofs.Common.{◌∙◌, ap, sym, arith, cond}
use Rattle.std.proofs.Math.Bool.{and-false}
use Rattle.std.proofs.Math.Dec.{eqb-suc-zero}
use Rattle.std.proofs.lemmas.Bool.{false≢true, eq-eqb, eqb-true}
use Rattle.dh_syntax.specs.declared.expressions.Alt.{Alt}
use Rattle.dh_syntax.specs.declared.expressions.Kid.{Kid}
use Rattle.dh_syntax.specs.Expressions.Tree.{Tree, Row, end, kid}
use Rattle.dh_syntax.specs.Expressions.Rows.{◌+++◌, row_length}
use Rattle.dh_syntax.specs.Expressions.Numbers.{eq}
use Rattle.dh_syntax.proofs.NativeTests.{eq-native}
use Rattle.dh_syntax.specs.Expressions.Arity.{plain, binding, some_plain, alt_labels, typed_count}
use Rattle.dh_syntax.specs.Expressions.Bridge.{term, row_of}
use Rattle.dh_syntax.proofs.Bridge.{row_of-nil, row_of-cons}
use Rattle.dh_syntax.proofs.Rows.{row_length-row_of, row_of-push}

-- none of the parts is under a binder
abbrev pub all_free : {A B : Type 0} → Row A B → Bool
all_free end = true
all_free (kid b e r) = is_none b && all_free r

pub all_free-row_of : (ks : List Kid) → all_free (row_of ks) ≡ list_all (λ k. is_none k.binder) ks
unfolding row_of
all_free-row_of [] = refl
all_free-row_of (k ∷ ks) = ap (λ b. is_none k.binder && b) (all_free-row_of ks)

pub plain-all_free : {A B : Type 0} (n : ℕ) (r : Row A B) → plain n r ≡ (eq (row_length r) n && all_free r)
plain-all_free zero end = refl
plain-all_free zero (kid b e r) = refl
plain-all_free (suc n) end = refl
plain-all_free (suc n) (kid None e r) = plain-all_free n r
plain-all_free (suc n) (kid (Some x) e r) = sym (and-false (eq (row_length r) n))

pub some_plain-all_free : {A B : Type 0} (b : Option B) (e : Tree A B) (r : Row A B) → some_plain (kid b e r) ≡ all_free (kid b e r)
some_plain-all_free None e end = refl
some_plain-all_free None e (kid c f r) = some_plain-all_free c f r
some_plain-all_free (Some x) e r = refl

pub binding-last : {A B : Type 0} (n : ℕ) (r : Row A B) (b : Option B) (e : Tree A B) → binding n (r +++ kid b e end) ≡ (is_some b && plain n r)
binding-last zero end None e = refl
binding-last zero end (Some x) e = refl
binding-last (suc zero) end None e = refl
binding-last (suc (suc n)) end None e = refl
binding-last (suc n) end (Some x) e = refl
binding-last zero (kid None f end) b e = sym (and-false (is_some b))
binding-last zero (kid (Some y) f end) b e = sym (and-false (is_some b))
binding-last zero (kid None f (kid c g r)) b e = sym (and-false (is_some b))
binding-last zero (kid (Some y) f (kid c g r)) b e = sym (and-false (is_some b))
binding-last (suc n) (kid None f r) b e = binding-last n r b e
binding-last (suc n) (kid (Some y) f r) b e = sym (and-false (is_some b))

-- The same on kids.
pub plain-row_of : (n : ℕ) (ks : List Kid) → plain n (row_of ks) ≡ ((length ks == n) && list_all (λ k. is_none k.binder) ks)
plain-row_of n ks =
    plain-all_free n (row_of ks) ∙ ap (λ b. b && all_free (row_of ks)) (ap (λ m. eq m n) (row_length-row_of ks) ∙ eq-native (length ks) n)
    ∙ ap (λ b. (length ks == n) && b) (all_free-row_of ks)

first_no : (a b : Bool) → (a ≡ true → ⊥) → (a && b) ≡ a
first_no true b h = absurd (h refl)
first_no false b h = refl

pub plain_yes : (n : ℕ) (ks : List Kid) → length ks ≡ n → plain n (row_of ks) ≡ list_all (λ k. is_none k.binder) ks
plain_yes n ks h = plain-row_of n ks ∙ ap (λ b. b && list_all (λ k. is_none k.binder) ks) (eq-eqb (length ks) n h)

pub plain_no : (n : ℕ) (ks : List Kid) → (length ks ≡ n → ⊥) → plain n (row_of ks) ≡ (length ks == n)
plain_no n ks h = plain-row_of n ks ∙ first_no (length ks == n) (list_all (λ k. is_none k.binder) ks) (λ e. h (eqb-true (length ks) n e))

pub some_plain_yes : (ks : List Kid) (b : Bool) → b ≡ (length ks == 0) → b ≡ false → some_plain (row_of ks) ≡ list_all (λ k. is_none k.binder) ks
some_plain_yes [] b h e = absurd (false≢true (sym e ∙ h))
some_plain_yes (k ∷ ks) b h e =
    ap some_plain (row_of-cons k ks) ∙ some_plain-all_free k.binder (term k.body) (row_of ks) ∙ ap (λ b. is_none k.binder && b) (all_free-row_of ks)

pub some_plain_no : (ks : List Kid) (b : Bool) → b ≡ (length ks == 0) → b ≡ true → some_plain (row_of ks) ≡ not b
some_plain_no [] b h e = ap some_plain row_of-nil ∙ ap not (sym e)
some_plain_no (k ∷ ks) b h e = absurd (false≢true (sym (eqb-suc-zero (length ks)) ∙ sym h ∙ e))

pub binding-row_of : (n : ℕ) (ks : List Kid) (k : Kid) → binding n (row_of (ks ++ k ∷ [])) ≡ (is_some k.binder && plain n (row_of ks))
binding-row_of n ks k = ap (binding n) (row_of-push ks k) ∙ binding-last n (row_of ks) k.binder (term k.body)

pub binding_yes : (n : ℕ) (ks front : List Kid) (k : Kid) → ks ≡ front ++ k ∷ [] → is_some k.binder ≡ true → binding n (row_of ks) ≡ plain n (row_of front)
binding_yes n ks front k e h = ap (λ r. binding n (row_of r)) e ∙ binding-row_of n front k ∙ ap (λ b. b && plain n (row_of front)) h

pub binding_no : (n : ℕ) (ks front : List Kid) (k : Kid) → ks ≡ front ++ k ∷ [] → is_some k.binder ≡ false → binding n (row_of ks) ≡ false
binding_no n ks front k e h = ap (λ r. binding n (row_of r)) e ∙ binding-row_of n front k ∙ ap (λ b. b && plain n (row_of front)) h

binding-end : (n : ℕ) → binding n (row_of []) ≡ false
unfolding row_of
binding-end zero = refl
binding-end (suc n) = refl

pub binding_none : (n : ℕ) (ks : List Kid) → length ks ≡ 0 → binding n (row_of ks) ≡ false
binding_none n [] h = binding-end n
binding_none n (k ∷ ks) h = absurd (omega arith)

one_more : (b : Bool) (n : ℕ) → elim b as (λ _. ℕ) [ true ↦ suc n | false ↦ n ] ≡ cond b (1 + n) n
one_more true n = omega arith
one_more false n = refl

pub typed_count-count_by : (alts : List Alt) → typed_count alts ≡ count_by (λ a. a.typed) alts
typed_count-count_by = is_count_by typed_count (λ a. a.typed) refl (λ a as'. one_more a.typed (typed_count as'))

pub alt_labels-map : (alts : List Alt) → alt_labels alts ≡ map (λ a. a.label) alts
alt_labels-map [] = refl
alt_labels-map (a ∷ as') = ap (λ r. a.label ∷ r) (alt_labels-map as')
