-- Unions are read back.
use Rattle.std.specs.Prelude.{◌≡◌, ℕ, suc, Bool, true, false, if◌then◌else◌, List, [], ◌∷◌, map, Some, None, refl}
use Rattle.std.specs.List.{list_all}
use Rattle.std.proofs.Common.{sym, ◌∙◌, ap}
use Rattle.dh_syntax.specs.declared.expressions.Alt.{Alt}
use Rattle.dh_syntax.specs.declared.expressions.Op.TheVariants as ops
use Rattle.dh_syntax.specs.Expressions.Arity.{plain, typed_count, alt_labels}
use Rattle.dh_syntax.specs.Bytes.BinaryItems.{map_of, Pairs, no_pairs, more_pairs}
use Rattle.dh_syntax.specs.Bytes.BinaryLeaves.{◌>>=◌, inserted}
use Rattle.dh_syntax.specs.Bytes.BinaryRead as old
use Rattle.dh_syntax.specs.Bytes.BinaryRead.{plain_row, entries_of, Entry}
use Rattle.dh_syntax.specs.Expressions.Numbers.{bytes_eq}
use Rattle.dh_syntax.specs.Expressions.Order.{before, ascending}
use Rattle.dh_syntax.specs.Expressions.Spellable.{is_label}
use Rattle.dh_syntax.specs.Expressions.Tree.{Row, Node, end, kid, Name, Var, Term}
use Rattle.dh_binary.specs.Written.{just, row_of, label, no, alternatives, all_written, written, items}
use Rattle.dh_binary.proofs.Back.{Back, just_back, AllBack}
use Rattle.dh_binary.proofs.BackNodes.{label_reads}
use Rattle.dh_binary.proofs.BackMore.{left_of, right_of, later, value_reads}

-- the entries of a union with these alternatives and these types
data Entries : List Alt → Row Var Name → List Entry → Type 0 where
  nothing_more : Entries [] end []
  untyped : (a : Alt) (as' : List Alt) (r : Row Var Name) (es : List Entry) → a.typed ≡ false → Entries as' r es → Entries (a ∷ as') r (record { name = a.label; value = old.nothing } ∷ es)
  typed : (a : Alt) (as' : List Alt) (e : Term) (r : Row Var Name) (es : List Entry) → a.typed ≡ true → Entries as' r es → Entries (a ∷ as') (kid None e r) (record { name = a.label; value = old.holds e } ∷ es)

abbrev count_by : Bool → ℕ → ℕ
count_by c n = elim c [ true ↦ suc n | false ↦ n ]

abbrev Some_entries : List Alt → Row Var Name → Type 0
Some_entries as' r = (es : List Entry) × Entries as' r es

entries_by : (a : Alt) (as' : List Alt) (c : Bool) → a.typed ≡ c → (r : Row Var Name) → plain (count_by c (typed_count as')) r ≡ true → ((r : Row Var Name) → plain (typed_count as') r ≡ true → Some_entries as' r) → Some_entries (a ∷ as') r
entries_by a as' false e r p go = let (es, w) = go r p in (record { name = a.label; value = old.nothing } ∷ es, untyped a as' r es e w)
entries_by a as' true e end p go = cc
entries_by a as' true e (kid (Some y) t r) p go = cc
entries_by a as' true e (kid None t r) p go = let (es, w) = go r p in (record { name = a.label; value = old.holds t } ∷ es, typed a as' t r es e w)

entries : (as' : List Alt) (r : Row Var Name) → plain (typed_count as') r ≡ true → Some_entries as' r
entries [] end p = ([], nothing_more)
entries [] (kid x e r) p = cc
entries (a ∷ as') r p = entries_by a as' a.typed refl r p (λ r p. entries as' r p)

first_of : (x y : Name) (v : old.Value) (e : Entry) (es : List Entry) → e.name ≡ y → before x y ≡ true → inserted (λ e. e.name) (record { name = x; value = v }) (e ∷ es) ≡ Some (record { name = x; value = v } ∷ e ∷ es)
first_of x y v e es p h =
    ap (λ c. if c then Some (record { name = x; value = v } ∷ e ∷ es) else if bytes_eq x e.name then None else (inserted (λ e. e.name) (record { name = x; value = v }) es >>= λ zs. Some (e ∷ zs))) (ap (before x) p ∙ h)

goes_first : (x : Name) (v : old.Value) (as' : List Alt) (r : Row Var Name) (es : List Entry) → Entries as' r es → ascending (x ∷ alt_labels as') ≡ true → inserted (λ e. e.name) (record { name = x; value = v }) es ≡ Some (record { name = x; value = v } ∷ es)
goes_first x v _ _ _ nothing_more h = refl
goes_first x v _ _ _ (untyped a as' r es e w) h = first_of x a.label v _ es refl (left_of (before x a.label) _ h)
goes_first x v _ _ _ (typed a as' t r es e w) h = first_of x a.label v _ es refl (left_of (before x a.label) _ h)

reads : (as' : List Alt) (r : Row Var Name) (es : List Entry) → Entries as' r es → ascending (alt_labels as') ≡ true → list_all is_label (alt_labels as') ≡ true → AllBack r → entries_of false (alternatives as' (items (all_written r))) ≡ Some es
reads _ _ _ nothing_more a l b = refl
reads _ _ _ (untyped c as' r es e w) a l b =
    ap (λ k. entries_of false (elim k as (λ k. Pairs) [ false ↦ more_pairs (label c.label) no (alternatives as' (items (all_written r))) | true ↦ elim (items (all_written r)) as (λ ts. Pairs) [ [] ↦ no_pairs | (t ∷ ts) ↦ more_pairs (label c.label) t (alternatives as' ts) ] ])) e
    ∙ ap (λ o. old.entered o (Some old.nothing) (entries_of false (alternatives as' (items (all_written r))))) (label_reads c.label (left_of (is_label c.label) _ l))
    ∙ ap (λ o. old.entered (Some c.label) (Some old.nothing) o) (reads as' r es w (later c.label (alt_labels as') a) (right_of (is_label c.label) _ l) b) ∙ goes_first c.label old.nothing as' r es w a
reads _ _ _ (typed c as' t r es e w) a l (b, bs) =
    ap (λ k. entries_of false (elim k as (λ k. Pairs) [ false ↦ more_pairs (label c.label) no (alternatives as' (items (all_written (kid None t r)))) | true ↦ more_pairs (label c.label) (written t).alone (alternatives as' (items (all_written r))) ])) e
    ∙ ap (λ o. old.entered o (old.value_of (written t).alone (old.part false (written t).alone).term) (entries_of false (alternatives as' (items (all_written r))))) (label_reads c.label (left_of (is_label c.label) _ l))
    ∙ ap (λ o. old.entered (Some c.label) o (entries_of false (alternatives as' (items (all_written r))))) (value_reads t b)
    ∙ ap (λ o. old.entered (Some c.label) (Some (old.holds t)) o) (reads as' r es w (later c.label (alt_labels as') a) (right_of (is_label c.label) _ l) bs) ∙ goes_first c.label (old.holds t) as' r es w a

names_same : (as' : List Alt) (r : Row Var Name) (es : List Entry) → Entries as' r es → (map old.alternative es ≡ as') × (plain_row (old.types es) ≡ r)
names_same _ _ _ nothing_more = (refl, refl)
names_same _ _ _ (untyped a as' r es e w) = let (q, s) = names_same as' r es w in (ap (λ c. record { label = a.label; typed = c } ∷ map old.alternative es) (sym e) ∙ ap (λ xs. a ∷ xs) q, s)
names_same _ _ _ (typed a as' t r es e w) = let (q, s) = names_same as' r es w in (ap (λ c. record { label = a.label; typed = c } ∷ map old.alternative es) (sym e) ∙ ap (λ xs. a ∷ xs) q, ap (kid None t) s)

pub union_back : (as' : List Alt) (r : Row Var Name) → ascending (alt_labels as') ≡ true → plain (typed_count as') r ≡ true → list_all is_label (alt_labels as') ≡ true → AllBack r → Back (just (row_of 11 (map_of (alternatives as' (items (all_written r))) ∷ []))) (Node (ops.Union as') r)
union_back as' r a p l b =
    let (es, w) = entries as' r p in
    let (q, s) = names_same as' r es w in
    just_back _ _ (ap (λ o. o >>= λ es. Some (Node (ops.Union (map old.alternative es)) (plain_row (old.types es)))) (reads as' r es w a l b)
    ∙ ap (λ xs. Some (Node (ops.Union xs) (plain_row (old.types es)))) q ∙ ap (λ k. Some (Node (ops.Union as') k)) s)
