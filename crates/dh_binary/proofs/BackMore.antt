-- More nodes that are read back: lists, records, texts.
use Rattle.std.specs.Prelude.{◌≡◌, ℕ, suc, Bool, true, false, ◌&&◌, if◌then◌else◌, List, [], ◌∷◌, length, map, Some, None, refl}
use Rattle.std.specs.List.{list_all}
use Rattle.std.specs.Str.{is_utf8}
use Rattle.std.proofs.Common.{◌∙◌, ap}
use Rattle.dh_syntax.specs.declared.expressions.Op.{Op}
use Rattle.dh_syntax.specs.declared.expressions.Op.TheVariants as ops
use Rattle.dh_syntax.specs.Expressions.Arity.{plain, some_plain, between}
use Rattle.dh_syntax.specs.Bytes.BinaryItems.{map_of}
use Rattle.dh_syntax.specs.Bytes.BinaryLeaves as leaf
use Rattle.dh_syntax.specs.Bytes.BinaryLeaves.{◌>>=◌, is_null, label_of, inserted}
use Rattle.dh_syntax.specs.Bytes.BinaryRead as old
use Rattle.dh_syntax.specs.Bytes.BinaryRead.{plain_row, entries_of, Entry}
use Rattle.dh_syntax.specs.Expressions.Numbers.{bytes_eq}
use Rattle.dh_syntax.specs.Expressions.Order.{before, ascending}
use Rattle.dh_syntax.specs.Expressions.Spellable.{is_label}
use Rattle.dh_syntax.specs.Expressions.Tree.{Row, Node, end, kid, Name, Var, Term}
use Rattle.dh_binary.specs.Written.{just, row_of, label, no, interleaved, pairs, all_written, written, items}
use Rattle.dh_binary.proofs.Back.{Back, just_back, AllBack, parts_listed, read_items, node_back}
use Rattle.dh_binary.proofs.BackNodes.{label_reads, not_null}

pub left_of : (a c : Bool) → (a && c) ≡ true → a ≡ true
left_of true c h = refl
left_of false c h = h

pub right_of : (a c : Bool) → (a && c) ≡ true → c ≡ true
right_of true c h = h
right_of false c h = cc

-- ---- lists

how_many : (r : Row Var Name) → some_plain r ≡ true → (n : ℕ) × (plain n r ≡ true)
how_many (kid None e end) h = (1, refl)
how_many (kid None e (kid x f r)) h = let (n, p) = how_many (kid x f r) h in (suc n, p)
how_many end h = cc
how_many (kid (Some x) e r) h = cc

pub list_back : (r : Row Var Name) → some_plain r ≡ true → AllBack r → Back (just (row_of 4 (no ∷ items (all_written r)))) (Node ops.List r)
list_back end h b = cc
list_back (kid x e r) h b =
    let (n, p) = how_many (kid x e r) h in
    just_back _ _ (ap (λ ps. old.list (old.part false no ∷ ps)) (parts_listed (items (all_written (kid x e r)))) ∙ node_back ops.List n (kid x e r) p b)

-- ---- texts

record PiecesBack (ps : List (List ℕ)) (r : Row Var Name) : Type 0 where
  es : List Term
  reads : old.pieces_of (read_items (interleaved ps (items (all_written r)))) ≡ Some (record { pieces = ps; between = es })
  same : plain_row es ≡ r

piece_reads : (p : List ℕ) → is_utf8 p ≡ true → leaf.spelled is_utf8 (old.part false (label p)).item ≡ Some p
piece_reads p h = ap (λ c. if c then Some p else None) h

pieces_back : (ps : List (List ℕ)) (r : Row Var Name) → between ps r ≡ true → list_all is_utf8 ps ≡ true → AllBack r → PiecesBack ps r
pieces_back [] r h u b = cc
pieces_back (p ∷ []) end h u b = record { es = []; reads = ap (λ o. o >>= λ t. Some (record { pieces = t ∷ []; between = [] })) (piece_reads p (left_of (is_utf8 p) _ u)); same = refl }
pieces_back (p ∷ []) (kid x e r) h u b = cc
pieces_back (p ∷ q ∷ ps) end h u b = cc
pieces_back (p ∷ q ∷ ps) (kid (Some x) e r) h u b = cc
pieces_back (p ∷ q ∷ ps) (kid None e r) h u (b, bs) =
    let g = pieces_back (q ∷ ps) r h (right_of (is_utf8 p) _ u) bs in
    let rest = old.pieces_of (read_items (interleaved (q ∷ ps) (items (all_written r)))) in
    record {
      es = e ∷ g.es;
      reads =
          ap (λ o. o >>= λ t. (old.part false (written e).alone).term >>= λ f. rest >>= λ s. Some (record { pieces = t ∷ s.pieces; between = f ∷ s.between })) (piece_reads p (left_of (is_utf8 p) _ u))
          ∙ ap (λ o. o >>= λ f. rest >>= λ s. Some (record { pieces = p ∷ s.pieces; between = f ∷ s.between })) b.alone
          ∙ ap (λ o. o >>= λ s. Some (record { pieces = p ∷ s.pieces; between = e ∷ s.between })) g.reads;
      same = ap (kid None e) g.same;
    }

pub text_back : (ps : List (List ℕ)) (r : Row Var Name) → between ps r ≡ true → list_all is_utf8 ps ≡ true → AllBack r → Back (just (row_of 18 (interleaved ps (items (all_written r))))) (Node (ops.Text ps) r)
text_back ps r h u b =
    let g = pieces_back ps r h u b in
    just_back _ _ (ap old.text (parts_listed (interleaved ps (items (all_written r)))) ∙ ap (λ o. o >>= λ s. Some (Node (ops.Text s.pieces) (plain_row s.between))) g.reads ∙ ap (λ r. Some (Node (ops.Text ps) r)) g.same)

-- ---- records

abbrev row_entries : List Name → Row Var Name → List Entry
row_entries (x ∷ xs) (kid b e r) = record { name = x; value = old.holds e } ∷ row_entries xs r
row_entries xs r = []

goes_first : (x : Name) (v : old.Value) (xs : List Name) (r : Row Var Name) → ascending (x ∷ xs) ≡ true → inserted (λ e. e.name) (record { name = x; value = v }) (row_entries xs r) ≡ Some (record { name = x; value = v } ∷ row_entries xs r)
goes_first x v [] r h = refl
goes_first x v (y ∷ ys) end h = refl
goes_first x v (y ∷ ys) (kid b e r) h =
    ap (λ c. if c then Some (record { name = x; value = v } ∷ record { name = y; value = old.holds e } ∷ row_entries ys r) else if bytes_eq x y then None else (inserted (λ e. e.name) (record { name = x; value = v }) (row_entries ys r) >>= λ zs. Some (record { name = y; value = old.holds e } ∷ zs))) (left_of (before x y) _ h)

pub later : (x : Name) (xs : List Name) → ascending (x ∷ xs) ≡ true → ascending xs ≡ true
later x [] h = refl
later x (y ∷ ys) h = right_of (before x y) _ h

pub value_reads : (e : Term) → Back (written e) e → old.value_of (written e).alone (old.part false (written e).alone).term ≡ Some (old.holds e)
value_reads e b =
    ap (λ c. if c then Some old.nothing else ((old.part false (written e).alone).term >>= λ t. Some (old.holds t))) (not_null (written e).alone e b.alone)
    ∙ ap (λ o. o >>= λ t. Some (old.holds t)) b.alone

entries_back : (xs : List Name) (r : Row Var Name) → ascending xs ≡ true → plain (length xs) r ≡ true → list_all is_label xs ≡ true → AllBack r → entries_of false (pairs xs (items (all_written r))) ≡ Some (row_entries xs r)
entries_back [] end a p l b = refl
entries_back [] (kid x e r) a p l b = cc
entries_back (x ∷ xs) end a p l b = cc
entries_back (x ∷ xs) (kid (Some y) e r) a p l b = cc
entries_back (x ∷ xs) (kid None e r) a p l (b, bs) =
    let rest = entries_back xs r (later x xs a) p (right_of (is_label x) _ l) bs in
    ap (λ o. old.entered o (old.value_of (written e).alone (old.part false (written e).alone).term) (entries_of false (pairs xs (items (all_written r))))) (label_reads x (left_of (is_label x) _ l))
    ∙ ap (λ o. old.entered (Some x) o (entries_of false (pairs xs (items (all_written r))))) (value_reads e b)
    ∙ ap (λ o. old.entered (Some x) (Some (old.holds e)) o) rest ∙ goes_first x (old.holds e) xs r a

record HeldBack (xs : List Name) (r : Row Var Name) : Type 0 where
  es : List Term
  held : old.held (row_entries xs r) ≡ Some es
  names : map (λ e. e.name) (row_entries xs r) ≡ xs
  same : plain_row es ≡ r

held_back : (xs : List Name) (r : Row Var Name) → plain (length xs) r ≡ true → HeldBack xs r
held_back [] end p = record { es = []; held = refl; names = refl; same = refl }
held_back [] (kid x e r) p = cc
held_back (x ∷ xs) end p = cc
held_back (x ∷ xs) (kid (Some y) e r) p = cc
held_back (x ∷ xs) (kid None e r) p =
    let g = held_back xs r p in
    record { es = e ∷ g.es; held = ap (λ o. o >>= λ ts. Some (e ∷ ts)) g.held; names = ap (λ ys. x ∷ ys) g.names; same = ap (kid None e) g.same }

fields_back : (op : List Name → Op) (xs : List Name) (r : Row Var Name) → ascending xs ≡ true → plain (length xs) r ≡ true → list_all is_label xs ≡ true → AllBack r
    → old.fields op (old.part false (map_of (pairs xs (items (all_written r)))) ∷ []) ≡ Some (Node (op xs) r)
fields_back op xs r a p l b =
    let g = held_back xs r p in
    ap (λ o. o >>= λ es. old.held es >>= λ ts. Some (Node (op (map (λ e. e.name) es)) (plain_row ts))) (entries_back xs r a p l b)
    ∙ ap (λ o. o >>= λ ts. Some (Node (op (map (λ e. e.name) (row_entries xs r))) (plain_row ts))) g.held
    ∙ ap (λ ys. Some (Node (op ys) (plain_row g.es))) g.names ∙ ap (λ s. Some (Node (op xs) s)) g.same

pub record_type_back : (xs : List Name) (r : Row Var Name) → ascending xs ≡ true → plain (length xs) r ≡ true → list_all is_label xs ≡ true → AllBack r → Back (just (row_of 7 (map_of (pairs xs (items (all_written r))) ∷ []))) (Node (ops.RecordType xs) r)
record_type_back xs r a p l b = just_back _ _ (fields_back ops.RecordType xs r a p l b)

pub record_back : (xs : List Name) (r : Row Var Name) → ascending xs ≡ true → plain (length xs) r ≡ true → list_all is_label xs ≡ true → AllBack r → Back (just (row_of 8 (map_of (pairs xs (items (all_written r))) ∷ []))) (Node (ops.Record xs) r)
record_back xs r a p l b = just_back _ _ (fields_back ops.Record xs r a p l b)

-- ---- projections

labels_first : (x : Name) (xs : List Name) → ascending (x ∷ xs) ≡ true → inserted (λ y. y) x xs ≡ Some (x ∷ xs)
labels_first x [] h = refl
labels_first x (y ∷ ys) h = ap (λ c. if c then Some (x ∷ y ∷ ys) else if bytes_eq x y then None else (inserted (λ y. y) x ys >>= λ zs. Some (y ∷ zs))) (left_of (before x y) _ h)

sorted_back : (xs : List Name) → ascending xs ≡ true → list_all is_label xs ≡ true → old.sorted_labels (read_items (map label xs)) ≡ Some xs
sorted_back [] a l = refl
sorted_back (x ∷ xs) a l =
    ap (λ o. o >>= λ y. old.sorted_labels (read_items (map label xs)) >>= λ ys. inserted (λ z. z) y ys) (label_reads x (left_of (is_label x) _ l))
    ∙ ap (λ o. o >>= λ ys. inserted (λ z. z) x ys) (sorted_back xs (later x xs a) (right_of (is_label x) _ l)) ∙ labels_first x xs a

project_reads : (e : Term) (xs : List Name) → ascending xs ≡ true → list_all is_label xs ≡ true → Back (written e) e → old.projection (read_items ((written e).alone ∷ map label xs)) ≡ Some (Node (ops.Project xs) (kid None e end))
project_reads e [] a l b = ap (λ o. o >>= λ f. old.projected f []) b.alone
project_reads e (x ∷ []) a l b = ap (λ o. o >>= λ f. old.projected f (old.part false (label x) ∷ [])) b.alone ∙ ap (λ o. o >>= λ ys. Some (Node (ops.Project ys) (kid None e end))) (sorted_back (x ∷ []) a l)
project_reads e (x ∷ y ∷ xs) a l b =
    ap (λ o. o >>= λ f. old.projected f (read_items (map label (x ∷ y ∷ xs)))) b.alone ∙ ap (λ o. o >>= λ ys. Some (Node (ops.Project ys) (kid None e end))) (sorted_back (x ∷ y ∷ xs) a l)

pub project_back : (e : Term) (xs : List Name) → ascending xs ≡ true → list_all is_label xs ≡ true → Back (written e) e → Back (just (row_of 10 ((written e).alone ∷ map label xs))) (Node (ops.Project xs) (kid None e end))
project_back e xs a l b = just_back _ _ (ap old.projection (parts_listed ((written e).alone ∷ map label xs)) ∙ project_reads e xs a l b)
