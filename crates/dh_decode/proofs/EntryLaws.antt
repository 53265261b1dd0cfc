-- Entries in the order of their labels, as a map of the program keeps them.
use Rattle.std.proofs.Common.{◌≡◌, ℕ, Bool, true, false, not, cond, if◌then◌else◌, List, [], ◌∷◌, map, Option, Some, None, option_map, refl, sym, ◌∙◌, ap}
use Rattle.std.specs.Borrow.{Bor}
use Rattle.std.specs.BTreeMap.{insert_entry, is_at}
use Rattle.std.specs.Cmp.Lexicographic.{slice_cmp}
use Rattle.std.specs.List.Sorted.{IsStrictlySortedBy}
use Rattle.std.specs.Map.{lookup, keys_of}
use Rattle.std.specs.Ordering.{nat_cmp, is_eq, is_lt, match_ordering}
use Rattle.std.specs.declared.cmp.Ordering.{Ordering}
use Rattle.std.specs.declared.cmp.Ordering.TheVariants.{Less, Equal, Greater}
use Rattle.std.proofs.lemmas.Cmp.{nat_list_cmp_total, on_total}
use Rattle.std.proofs.lemmas.Map.{lookup-none}
use Rattle.std.proofs.lemmas.Map.Entries.{none_below_head}
use Rattle.std.proofs.lemmas.Map.Keys.{sorted_tail}
use Rattle.std.proofs.lemmas.Map.Text.{is_eq-slice_cmp}
use Rattle.dh_syntax.proofs.NativeTests.{bytes_eq-pointwise}
use Rattle.dh_syntax.proofs.Order.{before-slice_cmp}
use Rattle.dh_syntax.specs.Bytes.BinaryLeaves.{inserted, ◌>>=◌}
use Rattle.dh_syntax.specs.Expressions.Numbers.{bytes_eq}
use Rattle.dh_syntax.specs.Expressions.Order.{before}
use Rattle.dh_syntax.specs.Expressions.Tree.{Name}
use Rattle.dh_binary.specs.Machine.{is_some, or_same}
use Rattle.dh_binary.specs.Stubs.{stubs}
use Rattle.dh_decode.specs.Inside.Entries.{order, has_label, with_name, with_entry}
use Rattle.dh_decode.specs.Inside.Views.{Text, part_of, names_of, entry_of, entries_of}
use Rattle.dh_decode.specs.declared.parts.Part.{Part}

same_bytes : (x y : List ℕ) → bytes_eq x y ≡ is_eq (slice_cmp nat_cmp x y)
same_bytes x y = bytes_eq-pointwise x y ∙ sym (is_eq-slice_cmp x y)

module _ {X A : Type 0} (name : A → Name) (g : Bor (List ℕ) × X → A) (named : (e : Bor (List ℕ) × X) → name (g e) ≡ e.0.now) where
  -- a test of two labels, by their order
  put_by : (o : Ordering) (b c : Bool) (a d : A) (ds zs : List A) (r : Option (List A)) → b ≡ is_lt o → c ≡ is_eq o → is_eq o ≡ false → r ≡ Some zs →
      (if b then Some (a ∷ d ∷ ds) else if c then None else (r >>= λ zs. Some (d ∷ zs))) ≡ Some (match_ordering o (a ∷ d ∷ ds) [] (d ∷ zs))
  put_by Less b c a d ds zs r h k n e = ap (λ b. if b then Some (a ∷ d ∷ ds) else if c then None else (r >>= λ zs. Some (d ∷ zs))) h
  put_by Equal b c a d ds zs r h k n e = absurd cc
  put_by Greater b c a d ds zs r h k n e =
      ap (λ b. if b then Some (a ∷ d ∷ ds) else if c then None else (r >>= λ zs. Some (d ∷ zs))) h
      ∙ ap (λ (c : Bool). if c then None else (r >>= λ zs. Some (d ∷ zs))) k ∙ ap (λ r. r >>= λ zs. Some (d ∷ zs)) e

  before_by : (k : Bor (List ℕ)) (v : X) (e : Bor (List ℕ) × X) → before (name (g (k, v))) (name (g e)) ≡ is_lt (order k e.0)
  before_by k v e = ap (λ x. before x (name (g e))) (named (k, v)) ∙ ap (before k.now) (named e) ∙ before-slice_cmp k.now e.0.now

  equal_by : (k : Bor (List ℕ)) (v : X) (e : Bor (List ℕ) × X) → bytes_eq (name (g (k, v))) (name (g e)) ≡ is_eq (order k e.0)
  equal_by k v e = ap (λ x. bytes_eq x (name (g e))) (named (k, v)) ∙ ap (bytes_eq k.now) (named e) ∙ same_bytes k.now e.0.now

  mapped : (o : Ordering) (k : Bor (List ℕ)) (v : X) (e : Bor (List ℕ) × X) (es zs : List (Bor (List ℕ) × X)) → is_eq o ≡ false →
      match_ordering o (g (k, v) ∷ g e ∷ map g es) [] (g e ∷ map g zs) ≡ map g (match_ordering o ((k, v) ∷ e ∷ es) ((e.0, v) ∷ es) (e ∷ zs))
  mapped Less k v e es zs n = refl
  mapped Equal k v e es zs n = absurd cc
  mapped Greater k v e es zs n = refl

  head_none : (c : Bool) (x : X) (r : Option X) → cond c (Some x) r ≡ None → c ≡ false
  head_none true x r h = absurd cc
  head_none false x r h = refl

  tail_none : (c : Bool) (x : X) (r : Option X) → cond c (Some x) r ≡ None → r ≡ None
  tail_none true x r h = absurd cc
  tail_none false x r h = h

  -- a label that is not there yet
  pub put : (k : Bor (List ℕ)) (v : X) (es : List (Bor (List ℕ) × X)) → lookup (is_at (order k)) es ≡ None → inserted name (g (k, v)) (map g es) ≡ Some (map g (insert_entry order es k v))
  put k v [] n = refl
  put k v (e ∷ es) n =
      let a : is_eq (order k e.0) ≡ false = head_none (is_eq (order k e.0)) e.1 (lookup (is_at (order k)) es) n in
      put_by (order k e.0) _ _ (g (k, v)) (g e) (map g es) (map g (insert_entry order es k v)) _ (before_by k v e) (equal_by k v e) a (put k v es (tail_none (is_eq (order k e.0)) e.1 (lookup (is_at (order k)) es) n))
      ∙ ap Some (mapped (order k e.0) k v e es (insert_entry order es k v) a)

  kept_by : (o : Ordering) (b c : Bool) (a d : A) (ds : List A) (r : Option (List A)) → b ≡ is_lt o → c ≡ is_eq o → (o ≡ Less → ⊥) → (o ≡ Greater → r ≡ None) →
      (if b then Some (a ∷ d ∷ ds) else if c then None else (r >>= λ zs. Some (d ∷ zs))) ≡ None
  kept_by Less b c a d ds r h k f n = absurd (f refl)
  kept_by Equal b c a d ds r h k f n = ap (λ b. if b then Some (a ∷ d ∷ ds) else if c then None else (r >>= λ zs. Some (d ∷ zs))) h ∙ ap (λ (c : Bool). if c then None else (r >>= λ zs. Some (d ∷ zs))) k
  kept_by Greater b c a d ds r h k f n =
      ap (λ b. if b then Some (a ∷ d ∷ ds) else if c then None else (r >>= λ zs. Some (d ∷ zs))) h
      ∙ ap (λ (c : Bool). if c then None else (r >>= λ zs. Some (d ∷ zs))) k ∙ ap (λ r. r >>= λ zs. Some (d ∷ zs)) (n refl)

  not_equal : (o : Ordering) → o ≡ Greater → is_eq o ≡ false
  not_equal o h = ap is_eq h

  -- a label that is there
  pub kept : (k : Bor (List ℕ)) (v : X) (es : List (Bor (List ℕ) × X)) → IsStrictlySortedBy order (keys_of es) → is_some (lookup (is_at (order k)) es) ≡ true → inserted name (g (k, v)) (map g es) ≡ None
  kept k v [] s n = absurd cc
  kept k v (e ∷ es) s n =
      kept_by (order k e.0) _ _ (g (k, v)) (g e) (map g es) _ (before_by k v e) (equal_by k v e)
      (λ l. let z = lookup-none (is_at (order k)) (e ∷ es) (none_below_head (on_total (λ (x : Bor (List ℕ)). x.now) nat_list_cmp_total) k e es s l) in let y = ap is_some z in absurd cc)
      (λ l. kept k v es (sorted_tail order e.0 (keys_of es) s) (sym (ap (λ c. is_some (cond c (Some e.1) (lookup (is_at (order k)) es))) (not_equal (order k e.0) l)) ∙ n))

  -- whether a label can be put
  pub can_put : (k : Bor (List ℕ)) (v : X) (es : List (Bor (List ℕ) × X)) (b : Bool) → IsStrictlySortedBy order (keys_of es) → b ≡ is_some (lookup (is_at (order k)) es) → is_some (inserted name (g (k, v)) (map g es)) ≡ not b
  can_put k v es b s e = by (lookup (is_at (order k)) es) refl
    where
      by : (o : Option X) → lookup (is_at (order k)) es ≡ o → is_some (inserted name (g (k, v)) (map g es)) ≡ not b
      by (Some x) h = ap is_some (kept k v es s (ap is_some h)) ∙ sym (ap not (e ∙ ap is_some h))
      by None h = ap is_some (put k v es h) ∙ sym (ap not (e ∙ ap is_some h))

-- ---- as the program puts them

pub put_none : {A : Type 0} (o : Option (List A)) (xs : List A) (b : Bool) → is_some o ≡ not b → b ≡ true → xs ≡ or_same stubs o xs
put_none (Some ys) xs b h e = let g : is_some (Some ys) ≡ not true = h ∙ ap not e in absurd cc
put_none None xs b h e = refl

pub put_some : {A : Type 0} (o : Option (List A)) (xs ys zs : List A) → o ≡ Some ys → zs ≡ ys → zs ≡ or_same stubs o xs
put_some o xs ys zs h e = e ∙ sym (ap (λ o. or_same stubs o xs) h)

none_of : {X : Type 0} (o : Option X) (b : Bool) → b ≡ is_some o → b ≡ false → o ≡ None
none_of (Some x) b h e = absurd cc
none_of None b h e = refl

pub names_put : (k : Text) (es fs : List (Text × Unit {0})) (b : Bool) → b ≡ has_label es k.now → b ≡ false → fs ≡ insert_entry order es k tt → names_of fs ≡ with_name k.now (names_of es)
names_put k es fs b h e f =
    put_some _ (names_of es) (names_of (insert_entry order es k tt)) (names_of fs) (put (λ y. y) (λ e. e.0.now) (λ e. refl) k tt es (none_of _ b h e)) (ap names_of f)

pub entries_put : (k : Text) (v : Option Part) (es fs : List (Text × Option Part)) (b : Bool) → b ≡ has_label es k.now → b ≡ false → fs ≡ insert_entry order es k v → entries_of fs ≡ with_entry k.now (option_map part_of v) (entries_of es)
entries_put k v es fs b h e f =
    put_some _ (entries_of es) (entries_of (insert_entry order es k v)) (entries_of fs) (put (λ e. e.name) entry_of (λ e. refl) k v es (none_of _ b h e)) (ap entries_of f)

-- any value will do to see whether a label can be put
pub entries_kept : (k : Text) (v : Option Part) (es : List (Text × Option Part)) (b : Bool) → IsStrictlySortedBy order (keys_of es) → b ≡ has_label es k.now → b ≡ true → entries_of es ≡ with_entry k.now (option_map part_of v) (entries_of es)
entries_kept k v es b s h e = put_none _ (entries_of es) b (can_put (λ e. e.name) entry_of (λ e. refl) k v es b s h) e
