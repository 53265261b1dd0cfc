-- Reading by recursion is the definition.
use Rattle.std.specs.Prelude.{◌≡◌, ℕ, suc, ◌*◌, ◌^◌, ◌==◌, pos, negsuc, Bool, true, false, ◌&&◌, ◌||◌, if◌then◌else◌, List, [], ◌∷◌, ◌++◌, length, Option, Some, None, refl}
use Rattle.std.proofs.Common.{sym, ◌∙◌, ap}
use Rattle.std.proofs.lemmas.List.{append_assoc, append-nil}
use Rattle.dh_syntax.specs.Bytes.BinaryHeads.{Atom, unsigned, negative, octets, characters, simple}
use Rattle.dh_syntax.specs.Bytes.BinaryItems.{Item, single, array_of, map_of, tagged, Items, no_items, more_items, Pairs, no_pairs, more_pairs, item_count, pair_count}
use Rattle.dh_syntax.specs.Bytes.BinaryLeaves as leaf
use Rattle.dh_syntax.specs.Bytes.BinaryLeaves.{◌>>=◌, check, characters_of, is_null, octets_of, label_of, labels_of, inserted, bignum, hash_of}
use Rattle.dh_syntax.specs.Bytes.BinaryRead as old
use Rattle.dh_syntax.specs.Bytes.BinaryRead.{Part, part, parts, entries_of, expression, only_term}
use Rattle.dh_syntax.specs.Expressions.Builtins.{builtin_of}
use Rattle.dh_syntax.specs.Expressions.Numbers.{eq, le, bytes_eq}
use Rattle.dh_syntax.specs.Expressions.Order.{before}
use Rattle.dh_syntax.specs.Expressions.Spellable.{is_label, is_query}
use Rattle.dh_syntax.specs.Expressions.Tree.{Name, Term}
use Rattle.dh_binary.specs.Machine.{Value, nothing, holds, called, counted, indexed, signed, hashed, queried, names, entries, Want, term, whole, nullable, opening, spelled, null, index, operator_code, digest, mode, scheme, query, natural, integer, big_natural, big_integer, path, boxed, rows, none, Place, first, labels, boxing, key, value, Entry, or_same, is_some, when, fresh_key, row_at, want, fill, result, term_atom, atom_as, array_as}
use Rattle.dh_binary.specs.Inside.Running.{read, reads, reads_pairs}
use Rattle.dh_binary.specs.Inside.Terms.{terms}
use Rattle.dh_binary.proofs.Parts.{hold, null_or, call, open_by, box_by, all_kept, read_part, reads_parts}
use Rattle.dh_binary.proofs.Rows as rows
use Rattle.dh_binary.proofs.Rows.{bind_assoc, bind_same, bind_none}
use Rattle.dh_binary.proofs.TableRows.{array_read}
use Rattle.dh_binary.proofs.Inserting.{put, all_put, put_first}
use Rattle.dh_binary.proofs.Maps.{value_in, value_read, name_of, wanted, wanted_entry, entries_kept}

module _ (b : Bool) where
  -- ---- atoms

  hold_if : (c d : Bool) (x y : Term) → (if c then Some (holds x) else if d then Some (holds y) else None) ≡ hold (if c then Some x else if d then Some y else None)
  hold_if true d x y = refl
  hold_if false true x y = refl
  hold_if false false x y = refl

  term_same : (a : Atom) → term_atom terms b a ≡ hold (old.atom_term b a)
  term_same (unsigned n) = sym (bind_assoc (leaf.index_of b (single (unsigned n))) _ _)
  term_same (negative n) = refl
  term_same (octets bs) = refl
  term_same (characters t) = sym (bind_assoc (builtin_of t) _ _)
  term_same (simple n) = hold_if (n == 20) (n == 21) _ _

  abbrev nope : Option (Value Term)
  nope = None

  if_none : (c : Bool) → nope ≡ (if c then nope else nope)
  if_none true = refl
  if_none false = refl

  digest_if : (c : Bool) → (if c then Some (hashed None) else nope) ≡ ((if c then Some None else None) >>= λ d. Some (hashed d))
  digest_if true = refl
  digest_if false = refl

  query_if : (c : Bool) → (if c then Some (queried None) else nope) ≡ ((if c then Some None else None) >>= λ d. Some (queried d))
  query_if true = refl
  query_if false = refl

  abbrev asked : Option (List ℕ) → Option (Value Term)
  asked q = Some (queried q)

  query_text : (c : Bool) (t : List ℕ) → ((if c then Some t else None) >>= λ q. asked (Some q)) ≡ (((if c then Some t else None) >>= λ q. Some (Some q)) >>= asked)
  query_text true t = refl
  query_text false t = refl

  null_same : (a : Atom) (o q : Option (Value Term)) → o ≡ q → Rattle.dh_binary.specs.Machine.or_null terms nothing a o ≡ null_or nothing (single a) q
  null_same (unsigned n) o q e = e
  null_same (negative n) o q e = e
  null_same (octets n) o q e = e
  null_same (characters n) o q e = e
  null_same (simple n) o q e = ap (λ o. if n == 22 then Some nothing else o) e

  atom_same : (w : Want) (a : Atom) → atom_as terms b w a ≡ read_part b w (part b (single a))
  atom_same term a = term_same a
  atom_same whole a = term_same a
  atom_same nullable a = null_same a _ _ (term_same a)
  atom_same (opening k) (unsigned n) = refl
  atom_same (opening k) (negative n) = if_none (eq k 1)
  atom_same (opening k) (octets n) = if_none (eq k 1)
  atom_same (opening k) (characters t) = refl
  atom_same (opening k) (simple n) = if_none (eq k 1)
  atom_same (spelled test) (unsigned n) = refl
  atom_same (spelled test) (negative n) = refl
  atom_same (spelled test) (octets n) = refl
  atom_same (spelled test) (characters n) = refl
  atom_same (spelled test) (simple n) = refl
  atom_same null a = null_same a _ _ refl
  atom_same index (unsigned n) = refl
  atom_same index (negative n) = refl
  atom_same index (octets n) = refl
  atom_same index (characters n) = refl
  atom_same index (simple n) = refl
  atom_same operator_code (unsigned n) = refl
  atom_same operator_code (negative n) = refl
  atom_same operator_code (octets n) = refl
  atom_same operator_code (characters n) = refl
  atom_same operator_code (simple n) = refl
  atom_same digest (unsigned n) = refl
  atom_same digest (negative n) = refl
  atom_same digest (octets n) = refl
  atom_same digest (characters n) = refl
  atom_same digest (simple n) = digest_if (n == 22)
  atom_same mode (unsigned n) = refl
  atom_same mode (negative n) = refl
  atom_same mode (octets n) = refl
  atom_same mode (characters n) = refl
  atom_same mode (simple n) = refl
  atom_same (scheme k) (unsigned n) = refl
  atom_same (scheme k) (negative n) = refl
  atom_same (scheme k) (octets n) = refl
  atom_same (scheme k) (characters n) = refl
  atom_same (scheme k) (simple n) = refl
  atom_same query (unsigned n) = refl
  atom_same query (negative n) = refl
  atom_same query (octets n) = refl
  atom_same query (characters t) = query_text (is_query t) t
  atom_same query (simple n) = query_if (n == 22)
  atom_same natural (unsigned n) = refl
  atom_same natural (negative n) = refl
  atom_same natural (octets n) = refl
  atom_same natural (characters n) = refl
  atom_same natural (simple n) = refl
  atom_same integer (unsigned n) = refl
  atom_same integer (negative n) = refl
  atom_same integer (octets n) = refl
  atom_same integer (characters n) = refl
  atom_same integer (simple n) = refl
  atom_same big_natural (unsigned n) = refl
  atom_same big_natural (negative n) = refl
  atom_same big_natural (octets n) = refl
  atom_same big_natural (characters n) = refl
  atom_same big_natural (simple n) = refl
  atom_same (big_integer t) (unsigned n) = refl
  atom_same (big_integer t) (negative n) = refl
  atom_same (big_integer t) (octets n) = refl
  atom_same (big_integer t) (characters n) = refl
  atom_same (big_integer t) (simple n) = refl
  atom_same path a = refl
  atom_same boxed (unsigned n) = refl
  atom_same boxed (negative n) = refl
  atom_same boxed (octets n) = refl
  atom_same boxed (characters n) = refl
  atom_same boxed (simple n) = refl
  atom_same (rows nulls) a = refl
  atom_same none a = refl

  -- ---- a text

  leaf_same : (test : List ℕ → Bool) (i : Item) → read terms b (spelled test) i ≡ call (leaf.spelled test i)
  leaf_same test (single a) = by a
    where
      by : (a : Atom) → atom_as terms b (spelled test) a ≡ call (leaf.spelled test (single a))
      by (characters t) = refl
      by (unsigned t) = refl
      by (negative t) = refl
      by (octets t) = refl
      by (simple t) = refl
  leaf_same test (array_of is) = refl
  leaf_same test (map_of ps) = refl
  leaf_same test (tagged t i) = refl

  labels_by : (ks : List Name) (is : Items) → ((x : Name) → reads terms b (labels (ks ++ x ∷ [])) is ≡ (labels_of is >>= λ xs. Some (names (ks ++ x ∷ xs)))) → (o : Option Name)
      → (call o >>= λ v. reads terms b (fill terms (labels ks) v) is) ≡ ((o >>= λ x. labels_of is >>= λ xs. Some (x ∷ xs)) >>= λ xs. Some (names (ks ++ xs)))
  labels_by ks is h None = refl
  labels_by ks is h (Some x) = h x ∙ sym (bind_assoc (labels_of is) (λ xs. Some (x ∷ xs)) (λ xs. Some (names (ks ++ xs))))

  labels_read : (ks : List Name) (is : Items) → reads terms b (labels ks) is ≡ (labels_of is >>= λ xs. Some (names (ks ++ xs)))
  labels_read ks no_items = ap (λ xs. Some (names xs)) (sym (append-nil ks))
  labels_read ks (more_items i is) =
      ap (λ o. o >>= λ v. reads terms b (fill terms (labels ks) v) is) (leaf_same is_label i)
      ∙ labels_by ks is (λ x. labels_read (ks ++ x ∷ []) is ∙ bind_same (labels_of is) (λ xs. Some (names ((ks ++ x ∷ []) ++ xs))) (λ xs. Some (names (ks ++ x ∷ xs))) (λ xs. ap (λ ys. Some (names ys)) (append_assoc ks (x ∷ []) xs))) (label_of i)

  -- ---- an array of one item is no expression

  if_no : {A : Type 0} (c : Bool) (x : Option A) → x ≡ None → (if c then None else x) ≡ None
  if_no true x h = refl
  if_no false x h = h

  no_row : (n : ℕ) → row_at {T = Term} n 0 ≡ None
  no_row n =
      if_no (n == 0) _ (if_no (n == 1) _ (if_no (n == 2) _ (if_no (n == 3) _ (if_no (n == 4) _ (if_no (n == 5) _ (if_no (n == 6) _ (if_no (n == 7) _ (if_no (n == 8) _ (if_no (n == 9) _ (if_no (n == 10) _ (if_no (n == 11) _
      (if_no (n == 14) _ (if_no (n == 15) _ (if_no (n == 16) _ (if_no (n == 18) _ (if_no (n == 19) _ (if_no (n == 24) _ (if_no (n == 25) _ (if_no (n == 26) _ (if_no (n == 27) _ (if_no (n == 28) _ (if_no (n == 29) _ refl))))))))))))))))))))))

  opens_none : (i : Item) (o : Option ℕ) → open_by 0 i o ≡ None
  opens_none i (Some n) = ap (λ p. if is_some p then Some (Rattle.dh_binary.specs.Machine.coded n 0) else None) (no_row n)
  opens_none i None = refl

  -- ---- a map

  some_bind : (o : Option (List (Entry Term))) (y : Entry Term) → is_some (o >>= λ zs. Some (y ∷ zs)) ≡ is_some o
  some_bind (Some zs) y = refl
  some_bind None y = refl

  -- the value of an entry does not matter
  same_fresh : (x : Name) (u w : Option Term) (es : List (Entry Term)) → is_some (inserted name_of (record { name = x; value = u }) es) ≡ is_some (inserted name_of (record { name = x; value = w }) es)
  same_fresh x u w [] = refl
  same_fresh x u w (y ∷ ys) =
      by (before x y.name) (bytes_eq x y.name)
      (some_bind (inserted name_of (record { name = x; value = u }) ys) y ∙ same_fresh x u w ys ∙ sym (some_bind (inserted name_of (record { name = x; value = w }) ys) y))
    where
      by : (c d : Bool) → is_some (inserted name_of (record { name = x; value = u }) ys >>= λ zs. Some (y ∷ zs)) ≡ is_some (inserted name_of (record { name = x; value = w }) ys >>= λ zs. Some (y ∷ zs))
          → is_some (if c then Some (record { name = x; value = u } ∷ y ∷ ys) else if d then None else (inserted name_of (record { name = x; value = u }) ys >>= λ zs. Some (y ∷ zs)))
          ≡ is_some (if c then Some (record { name = x; value = w } ∷ y ∷ ys) else if d then None else (inserted name_of (record { name = x; value = w }) ys >>= λ zs. Some (y ∷ zs)))
      by true d h = refl
      by false true h = refl
      by false false h = h

  module _ (nulls : Bool) (es : List (Entry Term)) (x : Name) (ps : Pairs) where
    abbrev with_value : Option Term → Option (List (Entry Term))
    with_value u = inserted name_of (record { name = x; value = u }) es

    abbrev rest_put : List (Entry Term) → Option (Value Term)
    rest_put ws = all_put name_of ws (wanted b nulls ps) >>= λ fs. Some (entries fs)

    value_by : (u : Option Term) → is_some (with_value None) ≡ true → ((ws : List (Entry Term)) → reads_pairs terms b (key nulls ws) ps ≡ rest_put ws)
        → (q : Option (List (Entry Term))) → with_value u ≡ q → reads_pairs terms b (key nulls (or_same terms q es)) ps ≡ (q >>= rest_put)
    value_by u k h (Some ws) e = h ws
    value_by u k h None e = let f : false ≡ true = sym (ap is_some e) ∙ same_fresh x u None es ∙ k in cc

    pairs_step : (v : Item) (o : Option Term) → is_some (with_value None) ≡ true → ((ws : List (Entry Term)) → reads_pairs terms b (key nulls ws) ps ≡ rest_put ws)
        → (value_read nulls v o >>= λ c. reads_pairs terms b (fill terms (value nulls es x) c) ps) ≡ ((((value_read nulls v o >>= value_in) >>= λ u. Some (record { name = x; value = u })) >>= λ e. inserted name_of e es) >>= rest_put)
    pairs_step v o k h = by nulls (is_null v) o
      where
        by : (n c : Bool) (o : Option Term) → ((if n then (if c then Some nothing else hold o) else hold o) >>= λ c. reads_pairs terms b (fill terms (value nulls es x) c) ps)
            ≡ (((((if n then (if c then Some nothing else hold o) else hold o) >>= value_in) >>= λ u. Some (record { name = x; value = u })) >>= λ e. inserted name_of e es) >>= rest_put)
        by true true o = value_by None k h (with_value None) refl
        by true false None = refl
        by true false (Some t) = value_by (Some t) k h (with_value (Some t)) refl
        by false c None = refl
        by false c (Some t) = value_by (Some t) k h (with_value (Some t)) refl

    no_value : (u : Option Term) (q : Option (List (Entry Term))) → with_value u ≡ q → is_some (with_value None) ≡ false → with_value u ≡ None
    no_value u (Some ws) e k = let f : true ≡ false = sym (ap is_some e) ∙ same_fresh x u None es ∙ k in cc
    no_value u None e k = e

    not_fresh : (r : Option (Option Term)) → is_some (with_value None) ≡ false → nope ≡ (((r >>= λ u. Some (record { name = x; value = u })) >>= λ e. inserted name_of e es) >>= rest_put)
    not_fresh None k = refl
    not_fresh (Some u) k = sym (ap (λ q. q >>= rest_put) (no_value u (with_value u) refl k))

  -- a key, by whether it is one
  key_by : (nulls : Bool) (es : List (Entry Term)) (k v : Item) (ps : Pairs) (n : ℕ)
      → ((x : Name) → read terms b (want (value nulls es x) n) v ≡ value_read nulls v (part b v).term) → ((ws : List (Entry Term)) → reads_pairs terms b (key nulls ws) ps ≡ rest_put nulls es [] ps ws)
      → (call (leaf.spelled (fresh_key es) k) >>= λ a. read terms b (want (fill terms (key nulls es) a) n) v >>= λ c. reads_pairs terms b (fill terms (fill terms (key nulls es) a) c) ps) ≡ (put name_of (wanted_entry nulls k v (part b v).term) es >>= rest_put nulls es [] ps)
  key_by nulls es k v ps n r h = by (characters_of k)
    where
      fresh : (x : Name) (c : Bool) → is_some (with_value nulls es x ps None) ≡ c
          → (call (if c then Some x else None) >>= λ a. read terms b (want (fill terms (key nulls es) a) n) v >>= λ c. reads_pairs terms b (fill terms (fill terms (key nulls es) a) c) ps)
          ≡ ((((value_read nulls v (part b v).term >>= value_in) >>= λ u. Some (record { name = x; value = u })) >>= λ e. inserted name_of e es) >>= rest_put nulls es [] ps)
      fresh x true e = ap (λ o. o >>= λ c. reads_pairs terms b (fill terms (value nulls es x) c) ps) (r x) ∙ pairs_step nulls es x ps v (part b v).term e h
      fresh x false e = not_fresh nulls es x ps (value_read nulls v (part b v).term >>= value_in) e

      tested : (x : Name) (c : Bool)
          → (call (if c && is_some (with_value nulls es x ps None) then Some x else None) >>= λ a. read terms b (want (fill terms (key nulls es) a) n) v >>= λ c. reads_pairs terms b (fill terms (fill terms (key nulls es) a) c) ps)
          ≡ (put name_of ((if c then Some x else None) >>= λ x. (value_read nulls v (part b v).term >>= value_in) >>= λ u. Some (record { name = x; value = u })) es >>= rest_put nulls es [] ps)
      tested x true = fresh x (is_some (with_value nulls es x ps None)) refl
      tested x false = refl

      by : (o : Option (List ℕ))
          → (call (o >>= check (fresh_key es)) >>= λ a. read terms b (want (fill terms (key nulls es) a) n) v >>= λ c. reads_pairs terms b (fill terms (fill terms (key nulls es) a) c) ps)
          ≡ (put name_of ((o >>= check is_label) >>= λ x. (value_read nulls v (part b v).term >>= value_in) >>= λ u. Some (record { name = x; value = u })) es >>= rest_put nulls es [] ps)
      by None = refl
      by (Some x) = tested x (is_label x)

  -- ---- bignums

  big_natural_by : (c : Bool) (i : Item) → read terms b big_natural i ≡ (octets_of i >>= λ bs. bignum b (2 ^ 128) bs >>= λ n. Some (counted n))
      → ((if c then Some big_natural else None) >>= λ w. read terms b w i) ≡ ((if c then (octets_of i >>= bignum b (2 ^ 128)) else None) >>= λ n. Some (counted n))
  big_natural_by true i h = h ∙ sym (bind_assoc (octets_of i) (bignum b (2 ^ 128)) (λ n. Some (counted n)))
  big_natural_by false i h = refl

  tags_none : (c d : Bool) → c ≡ false → d ≡ false → (o : Option ℕ) → (o >>= λ n. if c then Some (pos n) else if d then Some (negsuc n) else None) ≡ None
  tags_none false false e f o = bind_none o
  tags_none true d e f o = cc
  tags_none false true e f o = cc

  big_integer_by : (t : ℕ) (c d : Bool) (i : Item) → (t == 2) ≡ c → (t == 3) ≡ d → read terms b (big_integer t) i ≡ (octets_of i >>= λ bs. leaf.tagged_integer b t bs >>= λ z. Some (signed z))
      → ((if c || d then Some (big_integer t) else None) >>= λ w. read terms b w i) ≡ ((octets_of i >>= leaf.tagged_integer b t) >>= λ z. Some (signed z))
  big_integer_by t true d i e f h = h ∙ sym (bind_assoc (octets_of i) (leaf.tagged_integer b t) (λ z. Some (signed z)))
  big_integer_by t false true i e f h = h ∙ sym (bind_assoc (octets_of i) (leaf.tagged_integer b t) (λ z. Some (signed z)))
  big_integer_by t false false i e f h =
      sym (ap (λ o. o >>= λ z. Some (signed z)) (bind_same (octets_of i) (leaf.tagged_integer b t) rows.none (λ bs. tags_none (t == 2) (t == 3) e f (bignum b (2 ^ 127) bs)) ∙ bind_none (octets_of i)))

  -- ---- items

  count_parts : (is : Items) → length (parts b is) ≡ item_count is
  count_parts no_items = refl
  count_parts (more_items i is) = ap suc (count_parts is)

  whole_by : (c : Bool) (i : Item) → read terms b whole i ≡ hold (expression b i) → ((if c then Some whole else None) >>= λ w. read terms b w i) ≡ hold (if c then expression b i else None)
  whole_by true i h = h
  whole_by false i h = refl

  -- an array that is wanted as an expression
  array_by : (is : Items) → ((n : ℕ) (i : Item) (js : Items) → is ≡ more_items i js → reads terms b first is ≡ reads_parts b first (parts b is)) → (when (le 2 (item_count is)) first >>= λ p. reads terms b p is) ≡ hold (old.array_term b (parts b is))
  array_by no_items h = refl
  array_by (more_items i no_items) h =
      sym (ap (λ o. o >>= λ v. result terms (fill terms first v)) (opens_none (part b i).item (leaf.unsigned_of (part b i).item))) ∙ array_read b (part b i) []
  array_by (more_items i (more_items j is)) h = h 0 i (more_items j is) refl ∙ array_read b (part b i) (parts b (more_items j is))

  box_one : (o : Option Term) (i : Item) → label_of i ≡ None → (hold o >>= λ v. result terms (fill terms boxing v)) ≡ box_by i o
  box_one None i h = sym (ap call h)
  box_one (Some t) i h = refl

  value_want : (nulls : Bool) (i : Item) → ((w : Want) → read terms b w i ≡ read_part b w (part b i)) → (part b i).item ≡ i → read terms b (if nulls then nullable else term) i ≡ value_read nulls i (part b i).term
  value_want true i h e = h nullable ∙ ap (λ j. null_or nothing j (hold (part b i).term)) e
  value_want false i h e = h term

  item_of : (i : Item) → (part b i).item ≡ i
  item_of (single a) = refl
  item_of (array_of is) = refl
  item_of (map_of ps) = refl
  item_of (tagged t i) = refl

  module_rows : (nulls : Bool) (o : Option (List old.Entry)) (q : Option (List (Entry Term))) → (o >>= all_kept nulls) ≡ q → (q >>= λ fs. Some (entries fs)) ≡ (o >>= λ es. all_kept nulls es >>= λ fs. Some (entries fs))
  module_rows nulls o q e = ap (λ q. q >>= λ fs. Some (entries fs)) (sym e) ∙ bind_assoc o (all_kept nulls) (λ fs. Some (entries fs))

  array_same : (w : Want) (is : Items) → ((p : Place Term) → reads terms b p is ≡ reads_parts b p (parts b is)) → read terms b w (array_of is) ≡ read_part b w (part b (array_of is))
  array_same term is h = array_by is (λ n i js e. h first)
  array_same whole is h = array_by is (λ n i js e. h first)
  array_same nullable is h = array_by is (λ n i js e. h first)
  array_same (opening k) is h = if_none (eq k 1)
  array_same (spelled test) is h = refl
  array_same path no_items h = refl
  array_same path (more_items i is) h = labels_read [] (more_items i is)
  array_same boxed no_items h = refl
  array_same boxed (more_items i no_items) h = h boxing ∙ box_one (part b i).term (array_of (more_items i no_items)) refl
  array_same boxed (more_items i (more_items j is)) h = refl
  array_same w is h = refl

  map_same : (w : Want) (ps : Pairs) → ((nulls : Bool) → reads_pairs terms b (key nulls []) ps ≡ (all_put name_of [] (wanted b nulls ps) >>= λ fs. Some (entries fs))) → read terms b w (map_of ps) ≡ read_part b w (part b (map_of ps))
  map_same (rows nulls) ps h = h nulls ∙ module_rows nulls (entries_of b ps) (all_put name_of [] (wanted b nulls ps)) (entries_kept b nulls ps)
  map_same (opening k) ps h = if_none (eq k 1)
  map_same w ps h = refl

  tag_same : (w : Want) (t : ℕ) (i : Item) → ((v : Want) → read terms b v i ≡ read_part b v (part b i)) → read terms b w (tagged t i) ≡ read_part b w (part b (tagged t i))
  tag_same whole t i h = whole_by (t == 55799) i (h whole ∙ ap (λ j. hold (expression b j)) (item_of i))
  tag_same natural t i h = big_natural_by (t == 2) i (h big_natural ∙ ap (λ j. octets_of j >>= λ bs. bignum b (2 ^ 128) bs >>= λ n. Some (counted n)) (item_of i))
  tag_same integer t i h = big_integer_by t (t == 2) (t == 3) i refl refl (h (big_integer t) ∙ ap (λ j. octets_of j >>= λ bs. leaf.tagged_integer b t bs >>= λ z. Some (signed z)) (item_of i))
  tag_same (opening k) t i h = if_none (eq k 1)
  tag_same w t i h = refl

  reads_more : (p : Place Term) (i : Item) (is : Items) → read terms b (want p (item_count is)) i ≡ read_part b (want p (item_count is)) (part b i) → ((q : Place Term) → reads terms b q is ≡ reads_parts b q (parts b is)) → reads terms b p (more_items i is) ≡ reads_parts b p (parts b (more_items i is))
  reads_more p i is e h =
      ap (λ o. o >>= λ v. reads terms b (fill terms p v) is) (e ∙ ap (λ n. read_part b (want p n) (part b i)) (sym (count_parts is)))
      ∙ bind_same (read_part b (want p (length (parts b is))) (part b i)) (λ v. reads terms b (fill terms p v) is) (λ v. reads_parts b (fill terms p v) (parts b is)) (λ v. h (fill terms p v))

  pairs_more : (nulls : Bool) (es : List (Entry Term)) (k v : Item) (ps : Pairs) → ((w : Want) → read terms b w v ≡ read_part b w (part b v)) → ((ws : List (Entry Term)) → reads_pairs terms b (key nulls ws) ps ≡ (all_put name_of ws (wanted b nulls ps) >>= λ fs. Some (entries fs)))
      → reads_pairs terms b (key nulls es) (more_pairs k v ps) ≡ (all_put name_of es (wanted b nulls (more_pairs k v ps)) >>= λ fs. Some (entries fs))
  pairs_more nulls es k v ps r h =
      ap (λ o. o >>= λ a. read terms b (want (fill terms (key nulls es) a) (2 * pair_count ps)) v >>= λ c. reads_pairs terms b (fill terms (fill terms (key nulls es) a) c) ps) (leaf_same (fresh_key es) k)
      ∙ key_by nulls es k v ps (2 * pair_count ps) (λ x. value_want nulls v r (item_of v)) h
      ∙ sym (bind_assoc (put name_of (wanted_entry nulls k v (part b v).term) es) (λ ws. all_put name_of ws (wanted b nulls ps)) (λ fs. Some (entries fs)))
      ∙ ap (λ o. o >>= λ fs. Some (entries fs)) (sym (put_first name_of es (wanted_entry nulls k v (part b v).term) (wanted b nulls ps)))

  mutual
    pub read_same : (w : Want) (i : Item) → read terms b w i ≡ read_part b w (part b i)
    read_same w (single a) = atom_same w a
    read_same w (array_of is) = array_same w is (λ p. reads_same p is)
    read_same w (map_of ps) = map_same w ps (λ nulls. pairs_same nulls [] ps)
    read_same w (tagged t i) = tag_same w t i (λ v. read_same v i)

    reads_same : (p : Place Term) (is : Items) → reads terms b p is ≡ reads_parts b p (parts b is)
    reads_same p no_items = refl
    reads_same p (more_items i is) =
        reads_more p i is (read_same (want p (item_count is)) i) (λ q. reads_same q is)

    pairs_same : (nulls : Bool) (es : List (Entry Term)) (ps : Pairs) → reads_pairs terms b (key nulls es) ps ≡ (all_put name_of es (wanted b nulls ps) >>= λ fs. Some (entries fs))
    pairs_same nulls es no_pairs = refl
    pairs_same nulls es (more_pairs k v ps) = pairs_more nulls es k v ps (λ w. read_same w v) (λ ws. pairs_same nulls ws ps)

  -- an item is read as the expression that it is
  pub whole_same : (i : Item) → read terms b whole i ≡ hold (expression b i)
  whole_same i = read_same whole i ∙ ap (λ j. hold (expression b j)) (item_of i)
