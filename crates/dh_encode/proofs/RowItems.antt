-- The items of parts.
use Rattle.std.specs.Prelude.{◌≡◌, ◌<◌, ◌≤◌, ◌+◌, ℕ, suc, true, false, List, [], ◌∷◌, ◌++◌, length, drop, Option, Some, None, codes, refl}
use Rattle.std.proofs.Common.{sym, ap, ◌∙◌, get_or, append_assoc}
use Rattle.std.proofs.lemmas.Bool.{false≢true}
use Rattle.dh_syntax.specs.declared.expressions.Kid.{Kid}
use Rattle.dh_syntax.specs.Bytes.Binary.{enc}
use Rattle.dh_syntax.specs.Bytes.Cbor.{array, natural, text}
use Rattle.dh_syntax.specs.Expressions.Arity.{plain}
use Rattle.dh_syntax.specs.Expressions.Bridge.{term, row_of}
use Rattle.dh_syntax.specs.Expressions.Numbers.{bytes_eq}
use Rattle.dh_syntax.specs.Expressions.Rows.{◌+++◌, row_length}
use Rattle.dh_syntax.specs.Expressions.Tree.{Row, Var, Name, Term, end, kid}
use Rattle.dh_syntax.proofs.Rows.{row_length-row_of, row_of-drop_item, row_of-drop_all}
use Rattle.dh_encode.specs.Inside.Items.{row_items, abstraction_bytes}

pub row_items-kid : (b : Option Name) (e : Term) (r : Row Var Name) → row_items (kid b e r) ≡ enc e ∷ row_items r
row_items-kid None e r = refl
row_items-kid (Some x) e r = refl

pub row_items-+++ : (r s : Row Var Name) → row_items (r +++ s) ≡ row_items r ++ row_items s
row_items-+++ end s = refl
row_items-+++ (kid b e r) s = row_items-kid b e (r +++ s) ∙ ap (λ l. enc e ∷ l) (row_items-+++ r s) ∙ ap (λ l. l ++ row_items s) (sym (row_items-kid b e r))

pub row_items-length : (r : Row Var Name) → length (row_items r) ≡ row_length r
row_items-length end = refl
row_items-length (kid b e r) = ap length (row_items-kid b e r) ∙ ap suc (row_items-length r)

-- how many items kids have
pub items_count : (ks : List Kid) → length (row_items (row_of ks)) ≡ length ks
items_count ks = row_items-length (row_of ks) ∙ row_length-row_of ks

-- the items of the kids from a place on
pub items_next : (ks : List Kid) (i : ℕ) (k : Kid) → i < length ks → k ≡ get_or ks i k → row_items (row_of (drop i ks)) ≡ enc (term k.body) ∷ row_items (row_of (drop (i + 1) ks))
items_next ks i k h e = ap row_items (row_of-drop_item ks i k h e) ∙ row_items-kid k.binder (term k.body) (row_of (drop (i + 1) ks))

pub items_none : (ks : List Kid) (i : ℕ) → length ks ≤ i → row_items (row_of (drop i ks)) ≡ []
items_none ks i h = ap row_items (row_of-drop_all ks i h)

-- one more piece of what a loop writes
pub more : (a b x rest whole : List ℕ) → b ≡ a ++ x → a ++ (x ++ rest) ≡ whole → b ++ rest ≡ whole
more a b x rest whole p so_far = ap (λ l. l ++ rest) p ∙ append_assoc a x rest ∙ so_far

-- ---- functions and function types

pub abstraction_blank : (code : ℕ) (r f : Row Var Name) (x : Name) (e : Term) → r ≡ f +++ kid (Some x) e end → plain 1 f ≡ true → bytes_eq x (codes "_") ≡ true
    → array (natural code ∷ row_items r) ≡ abstraction_bytes code r
abstraction_blank code r end x e h p q = absurd (false≢true p)
abstraction_blank code r (kid (Some y) d f) x e h p q = absurd (false≢true p)
abstraction_blank code r (kid None d (kid c g f)) x e h p q = absurd (false≢true p)
abstraction_blank code r (kid None d end) x e h p q =
    ap (λ s. array (natural code ∷ row_items s)) h ∙ rw q refl ∙ ap (abstraction_bytes code) (sym h)

pub abstraction_named : (code : ℕ) (r f : Row Var Name) (x : Name) (e : Term) → r ≡ f +++ kid (Some x) e end → plain 1 f ≡ true → bytes_eq x (codes "_") ≡ false
    → array (natural code ∷ text x ∷ row_items r) ≡ abstraction_bytes code r
abstraction_named code r end x e h p q = absurd (false≢true p)
abstraction_named code r (kid (Some y) d f) x e h p q = absurd (false≢true p)
abstraction_named code r (kid None d (kid c g f)) x e h p q = absurd (false≢true p)
abstraction_named code r (kid None d end) x e h p q =
    ap (λ s. array (natural code ∷ text x ∷ row_items s)) h ∙ rw q refl ∙ ap (abstraction_bytes code) (sym h)

pub abstraction_count : (r f : Row Var Name) (x : Name) (e : Term) → r ≡ f +++ kid (Some x) e end → plain 1 f ≡ true → length (row_items r) ≡ 2
abstraction_count r end x e h p = absurd (false≢true p)
abstraction_count r (kid (Some y) d f) x e h p = absurd (false≢true p)
abstraction_count r (kid None d (kid c g f)) x e h p = absurd (false≢true p)
abstraction_count r (kid None d end) x e h p = ap (λ s. length (row_items s)) h
