-- A machine whose parts are carried over by a map does what the other one does.
use Rattle.std.specs.Prelude.{◌≡◌, ℕ, zero, suc, ◌*◌, ◌^◌, ◌==◌, nat_le, Bool, true, false, ◌&&◌, if◌then◌else◌, List, [], ◌∷◌, map, Option, Some, None, codes, refl}
use Rattle.std.proofs.Common.{sym, ◌∙◌, ap}
use Rattle.std.proofs.Math.Path.{fun_ext}
use Rattle.std.proofs.lemmas.List.{map-append}
use Rattle.dh_syntax.specs.declared.expressions.Alt.{Alt}
use Rattle.dh_syntax.specs.declared.expressions.Op.TheVariants as ops
use Rattle.dh_syntax.specs.Bytes.BinaryHeads.{Atom, unsigned, negative, octets, characters, simple, Mark, atom, array, tag}
use Rattle.dh_syntax.specs.Bytes.BinaryHeads as head
use Rattle.dh_syntax.specs.Bytes.BinaryLeaves.{◌>>=◌, check, inserted, within, bignum, tagged_integer, hash_of, mode_by}
use Rattle.dh_syntax.specs.Bytes.BinaryRead.{operator}
use Rattle.dh_syntax.specs.Expressions.Builtins.{builtin_of}
use Rattle.dh_syntax.specs.Expressions.Numbers.{bytes_eq, eq, le}
use Rattle.dh_syntax.specs.Expressions.Order.{before}
use Rattle.dh_syntax.specs.Expressions.Spellable.{is_label, is_query}
use Rattle.dh_syntax.specs.Limits.{most_index}
use Rattle.dh_binary.specs.Machine.{Making, Value, nothing, holds, called, counted, indexed, signed, coded, by, hashed, taken, queried, names, entries, Want, term, whole, nullable, opening, spelled, null, index, operator_code, digest, mode, scheme, query, natural, integer, big_natural, big_integer, path, boxed, rows, none, Place, first, finished, applying, operands, binder, quantify, operating, emptied, skipping, rowing, types, values, alternatives, selecting, selected, projecting, projected, labelled, numeral, signed_numeral, piece, between, importing, moding, locating, Start, components, headers, hosting, segments, environment, Binding, let_name, let_type, let_value, updating, update_path, update_value, indexing, labels, boxing, key, value, is_odd, is_some, when, row_at, or_first, lets_fit, scheme_fits, located, want, fill, result, fresh_key, Entry, is_named, called_by, term_atom, or_null, atom_as, array_as, map_as, tag_as, lets_made, let_made, held_values, or_same, Frame, State, reading, done, stopped, settle_by, ended, deliver, take_atom, open_place, go_on, after}
use Rattle.dh_binary.specs.Inside.Mapping.{Carries, option_map, map_entry, map_binding, map_value, map_place, map_frame, map_state}

pub if_same : {X Y : Type 0} (g : X → Y) (c : Bool) (x y : X) (v w : Y) → v ≡ g x → w ≡ g y → (if c then v else w) ≡ g (if c then x else y)
if_same g true x y v w h k = h
if_same g false x y v w h k = k

abbrev alternative : {T : Type 0} → Entry T → Alt
alternative e = record { label = e.name; typed = is_some e.value }

some_same : {X Y : Type 0} (g : X → Y) (o : Option X) → is_some (option_map g o) ≡ is_some o
some_same g None = refl
some_same g (Some x) = refl

module _ {A B : Type 0} (f : A → B) where
  -- ---- entries

  put_same : (e : Entry A) (es : List (Entry A)) → inserted (λ e. e.name) (map_entry f e) (map (map_entry f) es) ≡ option_map (map (map_entry f)) (inserted (λ e. e.name) e es)
  put_same e [] = refl
  put_same e (g ∷ es) = by (before e.name g.name) (bytes_eq e.name g.name) (inserted (λ e. e.name) e es) (put_same e es)
    where
      by : (c d : Bool) (o : Option (List (Entry A))) → inserted (λ e. e.name) (map_entry f e) (map (map_entry f) es) ≡ option_map (map (map_entry f)) o
          → (if c then Some (map_entry f e ∷ map_entry f g ∷ map (map_entry f) es) else if d then None else (inserted (λ e. e.name) (map_entry f e) (map (map_entry f) es) >>= λ zs. Some (map_entry f g ∷ zs)))
          ≡ option_map (map (map_entry f)) (if c then Some (e ∷ g ∷ es) else if d then None else (o >>= λ zs. Some (g ∷ zs)))
      by true d o h = refl
      by false true o h = refl
      by false false None h = ap (λ o. o >>= λ zs. Some (map_entry f g ∷ zs)) h
      by false false (Some zs) h = ap (λ o. o >>= λ zs. Some (map_entry f g ∷ zs)) h

  fresh_same : (es : List (Entry A)) → fresh_key (map (map_entry f) es) ≡ fresh_key es
  fresh_same es =
      fun_ext (λ x. ap (λ o. is_label x && is_some o) (put_same (record { name = x; value = None }) es)
      ∙ ap (λ c. is_label x && c) (some_same (map (map_entry f)) (inserted (λ e. e.name) (record { name = x; value = None }) es)))

  -- ---- places

  pub want_same : (p : Place A) (k : ℕ) → want (map_place f p) k ≡ want p k
  want_same (key nulls es) k = ap spelled (fresh_same es)
  want_same (projected t) zero = refl
  want_same (projected t) (suc k) = refl
  want_same (segments h s host cs) zero = refl
  want_same (segments h s host cs) (suc k) = refl
  want_same (let_name bs) zero = refl
  want_same (let_name bs) (suc k) = refl
  want_same p k = refl

  when_same : (c : Bool) (p : Place A) → when c (map_place f p) ≡ option_map (map_place f) (when c p)
  when_same true p = refl
  when_same false p = refl

  -- the same where one of two comes
  two_same : (c d : Bool) (p q : Place A) → (if c then Some (map_place f p) else when d (map_place f q)) ≡ option_map (map_place f) (if c then Some p else when d q)
  two_same true d p q = refl
  two_same false d p q = when_same d q

  abbrev row_if : (c : Bool) (x y : Option (Place A)) (v w : Option (Place B)) → v ≡ option_map (map_place f) x → w ≡ option_map (map_place f) y → (if c then v else w) ≡ option_map (map_place f) (if c then x else y)
  row_if c x y v w h k = if_same (option_map (map_place f)) c x y v w h k

  row_same : (c n : ℕ) → row_at {T = B} c n ≡ option_map (map_place f) (row_at {T = A} c n)
  row_same c n =
      row_if (c == 0) _ _ _ _ (when_same (le 2 n) (applying None))
      (row_if (c == 1) _ _ _ _ (two_same (eq n 2) (eq n 3) (quantify ops.Lam (codes "_") None) (binder ops.Lam))
      (row_if (c == 2) _ _ _ _ (two_same (eq n 2) (eq n 3) (quantify ops.Pi (codes "_") None) (binder ops.Pi))
      (row_if (c == 3) _ _ _ _ (when_same (eq n 3) operating)
      (row_if (c == 4) _ _ _ _ (two_same (eq n 1) (le 2 n) emptied (skipping ops.List))
      (row_if (c == 5) _ _ _ _ (when_same (eq n 2) (skipping ops.Some))
      (row_if (c == 6) _ _ _ _ (two_same (n == 2) (n == 3) (operands (ops.Merge false) []) (operands (ops.Merge true) []))
      (row_if (c == 7) _ _ _ _ (when_same (eq n 1) (rowing types))
      (row_if (c == 8) _ _ _ _ (when_same (eq n 1) (rowing values))
      (row_if (c == 9) _ _ _ _ (when_same (eq n 2) selecting)
      (row_if (c == 10) _ _ _ _ (when_same (le 1 n) projecting)
      (row_if (c == 11) _ _ _ _ (when_same (eq n 1) (rowing alternatives))
      (row_if (c == 14) _ _ _ _ (when_same (n == 3) (operands ops.If []))
      (row_if (c == 15) _ _ _ _ (when_same (eq n 1) numeral)
      (row_if (c == 16) _ _ _ _ (when_same (eq n 1) signed_numeral)
      (row_if (c == 18) _ _ _ _ (when_same (is_odd n) (piece [] []))
      (row_if (c == 19) _ _ _ _ (when_same (n == 1) (operands ops.Assert []))
      (row_if (c == 24) _ _ _ _ (when_same (le 3 n) importing)
      (row_if (c == 25) _ _ _ _ (when_same (lets_fit n) (let_name []))
      (row_if (c == 26) _ _ _ _ (when_same (n == 2) (operands ops.Annot []))
      (row_if (c == 27) _ _ _ _ (two_same (n == 1) (n == 2) (operands (ops.ToMap false) []) (operands (ops.ToMap true) []))
      (row_if (c == 28) _ _ _ _ (when_same (n == 1) (operands ops.EmptyList []))
      (row_if (c == 29) _ _ _ _ (when_same (eq n 3) updating) refl))))))))))))))))))))))

  or_first_same : (o : Option (Place A)) → or_first (option_map (map_place f) o) ≡ map_place f (or_first o)
  or_first_same None = refl
  or_first_same (Some p) = refl

  row_some : (c n : ℕ) → is_some (row_at {T = B} c n) ≡ is_some (row_at {T = A} c n)
  row_some c n = ap is_some (row_same c n) ∙ some_same (map_place f) (row_at c n)

  names_same : (es : List (Entry A)) → map (λ e. e.name) (map (map_entry f) es) ≡ map (λ e. e.name) es
  names_same [] = refl
  names_same (e ∷ es) = ap (λ xs. e.name ∷ xs) (names_same es)

  alternatives_same : (es : List (Entry A)) → map alternative (map (map_entry f) es) ≡ map alternative es
  alternatives_same [] = refl
  alternatives_same (e ∷ es) = ap (λ c. record { label = e.name; typed = c } ∷ map alternative (map (map_entry f) es)) (some_same f e.value) ∙ ap (λ xs. record { label = e.name; typed = is_some e.value } ∷ xs) (alternatives_same es)

module _ {A B : Type 0} (m : Making A) (n : Making B) (f : A → B) (c : Carries m n f) where
  or_same_same : (o : Option (List (Entry A))) (es : List (Entry A)) → or_same n (option_map (map (map_entry f)) o) (map (map_entry f) es) ≡ map (map_entry f) (or_same m o es)
  or_same_same None es = refl
  or_same_same (Some fs) es = refl

  values_same : (es : List (Entry A)) → held_values n (map (map_entry f) es) ≡ map f (held_values m es)
  values_same [] = refl
  values_same (e ∷ es) = by e.value (values_same es)
    where
      by : (o : Option A) → held_values n (map (map_entry f) es) ≡ map f (held_values m es) → held_values n (map (map_entry f) (record { name = e.name; value = o } ∷ es)) ≡ map f (held_values m (record { name = e.name; value = o } ∷ es))
      by None h = h
      by (Some t) h = ap (λ ts. f t ∷ ts) h

  let_same : (b : Binding A) (e : A) → let_made n (map_binding f b) (f e) ≡ f (let_made m b e)
  let_same b e = by b.type
    where
      by : (o : Option A) → let_made n (map_binding f (record { name = b.name; type = o; value = b.value })) (f e) ≡ f (let_made m (record { name = b.name; type = o; value = b.value }) e)
      by None = sym (c.under (ops.Let false) (b.value ∷ []) b.name e)
      by (Some t) = sym (c.under (ops.Let true) (t ∷ b.value ∷ []) b.name e)

  lets_same : (bs : List (Binding A)) (e : A) → lets_made n (map (map_binding f) bs) (f e) ≡ f (lets_made m bs e)
  lets_same [] e = refl
  lets_same (b ∷ bs) e = ap (let_made n (map_binding f b)) (lets_same bs e) ∙ let_same b (lets_made m bs e)

  located_same : (h : Start) (k : ℕ) → located n h k ≡ map_place f (located m h k)
  located_same h k =
      if_same (map_place f) (k == 0) _ _ _ _ refl
      (if_same (map_place f) (k == 1) _ _ _ _ refl
      (if_same (map_place f) (k == 2) _ _ _ _ refl
      (if_same (map_place f) (k == 3) _ _ _ _ refl
      (if_same (map_place f) (k == 4) _ _ _ _ refl
      (if_same (map_place f) (k == 5) _ _ _ _ refl
      (if_same (map_place f) (k == 6) _ _ _ _ refl (ap finished (sym (c.node _ [])))))))))

  pub fill_same : (p : Place A) (v : Value A) → fill n (map_place f p) (map_value f v) ≡ map_place f (fill m p v)
  fill_same first (coded k j) = ap or_first (row_same f k j) ∙ or_first_same f (row_at k j)
  fill_same (applying (Some g)) (holds a) = ap (λ t. applying (Some t)) (sym (c.node ops.App (g ∷ a ∷ [])))
  fill_same (operands op es) (holds e) = ap (operands op) (sym (map-append f es (e ∷ [])))
  fill_same (quantify op x (Some a)) (holds b) = ap finished (sym (c.under op (a ∷ []) x b))
  fill_same emptied (holds t) =
      ap finished (ap (λ l. n.node ops.EmptyList (n.node ops.App (l ∷ f t ∷ []) ∷ [])) (sym (c.node _ []))
      ∙ ap (λ l. n.node ops.EmptyList (l ∷ [])) (sym (c.node ops.App _)) ∙ sym (c.node ops.EmptyList _))
  fill_same (rowing types) (entries es) = ap finished (ap (λ xs. n.node (ops.RecordType xs) (held_values n (map (map_entry f) es))) (names_same f es) ∙ ap (n.node _) (values_same es) ∙ sym (c.node _ (held_values m es)))
  fill_same (rowing values) (entries es) = ap finished (ap (λ xs. n.node (ops.Record xs) (held_values n (map (map_entry f) es))) (names_same f es) ∙ ap (n.node _) (values_same es) ∙ sym (c.node _ (held_values m es)))
  fill_same (rowing alternatives) (entries es) = ap finished (ap (λ xs. n.node (ops.Union xs) (held_values n (map (map_entry f) es))) (alternatives_same f es) ∙ ap (n.node _) (values_same es) ∙ sym (c.node _ (held_values m es)))
  fill_same (selected t) (called x) = ap finished (sym (c.node (ops.Field x) (t ∷ [])))
  fill_same (projected t) (holds u) = ap finished (sym (c.node ops.ProjectType (t ∷ u ∷ [])))
  fill_same numeral (counted k) = ap finished (sym (c.node (ops.Nat k) []))
  fill_same signed_numeral (signed z) = ap finished (sym (c.node (ops.Int z) []))
  fill_same (between ps es) (holds e) = ap (piece ps) (sym (map-append f es (e ∷ [])))
  fill_same (locating h) (counted k) = located_same h k
  fill_same (segments h s host cs) (queried q) = ap finished (sym (c.node _ []))
  fill_same (environment h) (called x) = ap finished (sym (c.node _ []))
  fill_same (let_name bs) (holds e) = ap finished (lets_same bs e)
  fill_same (let_value bs x t) (holds a) = ap let_name (sym (map-append (map_binding f) bs (record { name = x; type = t; value = a } ∷ [])))
  fill_same (update_value e ks) (holds v) = ap finished (sym (c.node (ops.With ks) (e ∷ v ∷ [])))
  fill_same (indexing x) (indexed k) = ap finished (sym (c.leaf (record { name = x; index = k })))
  fill_same (value nulls es x) nothing =
      let e : Entry A = record { name = x; value = None } in ap (key nulls) (ap (λ o. or_same n o (map (map_entry f) es)) (put_same f e es) ∙ or_same_same (inserted (λ e. e.name) e es) es)
  fill_same (value nulls es x) (holds t) =
      let e : Entry A = record { name = x; value = Some t } in ap (key nulls) (ap (λ o. or_same n o (map (map_entry f) es)) (put_same f e es) ∙ or_same_same (inserted (λ e. e.name) e es) es)
  fill_same first (called x) = refl
  fill_same (applying None) (holds a) = refl
  fill_same (binder op) (called x) = refl
  fill_same (quantify op x None) (holds a) = refl
  fill_same operating (by o) = refl
  fill_same (skipping op) nothing = refl
  fill_same selecting (holds t) = refl
  fill_same projecting (holds t) = refl
  fill_same (labelled t xs) (called x) = refl
  fill_same (projected t) (called x) = refl
  fill_same (piece ps es) (called p) = refl
  fill_same importing (hashed d) = refl
  fill_same (moding d) (taken how) = refl
  fill_same (components h k cs) (called x) = refl
  fill_same (headers h s) nothing = refl
  fill_same (hosting h s) (called x) = refl
  fill_same (segments h s host cs) (called x) = refl
  fill_same (let_name bs) (called x) = refl
  fill_same (let_type bs x) nothing = refl
  fill_same (let_type bs x) (holds t) = refl
  fill_same updating (holds e) = refl
  fill_same (update_path e) (names ks) = refl
  fill_same (labels ks) (called k) = refl
  fill_same boxing (holds t) = refl
  fill_same (key nulls es) (called x) = refl
  fill_same p v = refl

  pub result_same : (p : Place A) → result n (map_place f p) ≡ option_map (map_value f) (result m p)
  result_same (applying None) = refl
  result_same (applying (Some g)) = refl
  result_same (operands op es) = ap (λ t. Some (holds t)) (sym (c.node op es))
  result_same (projected t) = ap (λ t. Some (holds t)) (sym (c.node _ (t ∷ [])))
  result_same (labelled t xs) = ap (λ t. Some (holds t)) (sym (c.node _ (t ∷ [])))
  result_same (between ps es) = ap (λ t. Some (holds t)) (sym (c.node _ es))
  result_same (components h k cs) = ap (λ t. Some (holds t)) (sym (c.node _ []))
  result_same p = refl

  -- ---- heads

  -- what gives a value, or nothing
  bind_map : {X : Type 0} (o : Option X) (g : X → Value A) (h : X → Value B) → ((x : X) → h x ≡ map_value f (g x)) → (o >>= λ x. Some (h x)) ≡ option_map (map_value f) (o >>= λ x. Some (g x))
  bind_map None g h k = refl
  bind_map (Some x) g h k = ap (λ v. Some v) (k x)

  term_same : (b : Bool) (a : Atom) → term_atom n b a ≡ option_map (map_value f) (term_atom m b a)
  term_same b (unsigned k) = bind_map (within b (nat_le k most_index) k) (λ k. holds (m.leaf (record { name = codes "_"; index = k }))) (λ k. holds (n.leaf (record { name = codes "_"; index = k }))) (λ k. ap holds (sym (c.leaf (record { name = codes "_"; index = k }))))
  term_same b (characters t) = bind_map (builtin_of t) (λ b. holds (m.node (ops.Builtin b) [])) (λ b. holds (n.node (ops.Builtin b) [])) (λ b. ap holds (sym (c.node (ops.Builtin b) [])))
  term_same b (simple k) =
      if_same (option_map (map_value f)) (k == 20) _ _ _ _ (ap (λ t. Some (holds t)) (sym (c.node (ops.Bool false) [])))
      (if_same (option_map (map_value f)) (k == 21) _ _ _ _ (ap (λ t. Some (holds t)) (sym (c.node (ops.Bool true) []))) refl)
  term_same b (negative k) = refl
  term_same b (octets bs) = refl

  null_same : (v : Value A) (a : Atom) (o : Option (Value A)) (q : Option (Value B)) → q ≡ option_map (map_value f) o → or_null n (map_value f v) a q ≡ option_map (map_value f) (or_null m v a o)
  null_same v (simple k) o q h = if_same (option_map (map_value f)) (k == 22) _ _ _ _ refl h
  null_same v (unsigned k) o q h = h
  null_same v (negative k) o q h = h
  null_same v (octets k) o q h = h
  null_same v (characters k) o q h = h

  called_same : (test : List ℕ → Bool) (a : Atom) → called_by n test a ≡ option_map (map_value f) (called_by m test a)
  called_same test (characters t) = bind_map (check test t) (λ x. called x) (λ x. called x) (λ x. refl)
  called_same test (unsigned k) = refl
  called_same test (negative k) = refl
  called_same test (octets k) = refl
  called_same test (simple k) = refl

  code_same : (c d : Bool) (k j : ℕ) → c ≡ d → when {A = Value B} c (coded k j) ≡ option_map (map_value f) (when {A = Value A} d (coded k j))
  code_same true true k j h = refl
  code_same false false k j h = refl
  code_same true false k j h = cc
  code_same false true k j h = cc

  pub atom_same : (b : Bool) (w : Want) (a : Atom) → atom_as n b w a ≡ option_map (map_value f) (atom_as m b w a)
  atom_same b term a = term_same b a
  atom_same b whole a = term_same b a
  atom_same b nullable a = null_same nothing a (term_atom m b a) (term_atom n b a) (term_same b a)
  atom_same b (opening k) (unsigned j) = code_same _ _ j k (row_some f j k)
  atom_same b (opening k) (characters t) = if_same (option_map (map_value f)) (eq k 1) _ _ _ _ (called_same is_named (characters t)) refl
  atom_same b (opening k) (negative j) = refl
  atom_same b (opening k) (octets j) = refl
  atom_same b (opening k) (simple j) = refl
  atom_same b (spelled test) a = called_same test a
  atom_same b null a = null_same nothing a None None refl
  atom_same b index (unsigned k) = bind_map (within b (nat_le k most_index) k) (λ k. indexed k) (λ k. indexed k) (λ k. refl)
  atom_same b operator_code (unsigned k) = bind_map (operator k) (λ o. by o) (λ o. by o) (λ o. refl)
  atom_same b digest (octets bs) = bind_map (hash_of bs) (λ d. hashed d) (λ d. hashed d) (λ d. refl)
  atom_same b digest (simple k) = if_same (option_map (map_value f)) (k == 22) _ _ _ _ refl refl
  atom_same b mode (unsigned k) = bind_map (mode_by k) (λ d. taken d) (λ d. taken d) (λ d. refl)
  atom_same b (scheme k) (unsigned j) = if_same (option_map (map_value f)) (scheme_fits j k) _ _ _ _ refl refl
  atom_same b query (characters t) = bind_map (check is_query t) (λ q. queried (Some q)) (λ q. queried (Some q)) (λ d. refl)
  atom_same b query (simple k) = if_same (option_map (map_value f)) (k == 22) _ _ _ _ refl refl
  atom_same b natural (unsigned k) = refl
  atom_same b integer (unsigned k) = refl
  atom_same b integer (negative k) = refl
  atom_same b big_natural (octets bs) = bind_map (bignum b (2 ^ 128) bs) (λ k. counted k) (λ k. counted k) (λ k. refl)
  atom_same b (big_integer t) (octets bs) = bind_map (tagged_integer b t bs) (λ z. signed z) (λ z. signed z) (λ z. refl)
  atom_same b boxed a = called_same is_label a
  atom_same b path a = refl
  atom_same b (rows nulls) a = refl
  atom_same b none a = refl
  atom_same b w a = refl

  array_same : (w : Want) (k : ℕ) → array_as n w k ≡ option_map (map_place f) (array_as m w k)
  array_same term k = when_same f (le 2 k) first
  array_same whole k = when_same f (le 2 k) first
  array_same nullable k = when_same f (le 2 k) first
  array_same path k = when_same f (le 1 k) (labels [])
  array_same boxed k = when_same f (eq k 1) boxing
  array_same w k = refl

  maps_same : (w : Want) → map_as n w ≡ option_map (map_place f) (map_as m w)
  maps_same (rows nulls) = refl
  maps_same w = refl

  tag_same : (w : Want) (t : ℕ) → tag_as n w t ≡ tag_as m w t
  tag_same whole t = refl
  tag_same w t = refl

  -- ---- the machine

  settle_same : (go : Value B → State B) (og : Value A → State A) → ((v : Value A) → go (map_value f v) ≡ map_state f (og v)) → (p : Place A) (k : ℕ) (st : List (Frame A))
      → settle_by n go (map_place f p) k (map (map_frame f) st) ≡ map_state f (settle_by m og p k st)
  settle_same go og h p zero st = ap (λ o. ended n go o) (result_same p) ∙ by (result m p)
    where
      by : (o : Option (Value A)) → ended n go (option_map (map_value f) o) ≡ map_state f (ended m og o)
      by None = refl
      by (Some v) = h v
  settle_same go og h p (suc k) st = ap (λ w. reading w (record { place = map_place f p; left = k } ∷ map (map_frame f) st)) (want_same f p k)

  deliver_same : (st : List (Frame A)) (v : Value A) → deliver n (map_value f v) (map (map_frame f) st) ≡ map_state f (deliver m v st)
  deliver_same [] v = refl
  deliver_same (g ∷ st) v =
      ap (λ p. settle_by n (λ u. deliver n u (map (map_frame f) st)) p g.left (map (map_frame f) st)) (fill_same g.place v)
      ∙ settle_same (λ u. deliver n u (map (map_frame f) st)) (λ u. deliver m u st) (λ u. deliver_same st u) (fill m g.place v) g.left st

  opens : (o : Option (Place A)) (k : ℕ) (st : List (Frame A)) → open_place n (option_map (map_place f) o) k (map (map_frame f) st) ≡ map_state f (open_place m o k st)
  opens None k st = refl
  opens (Some p) k st = settle_same (λ u. deliver n u (map (map_frame f) st)) (λ u. deliver m u st) (λ u. deliver_same st u) p k st

  -- A head does to the state that is carried over what it does to the state.
  pub after_same : (b : Bool) (k : Mark) (s : State A) → after n b k (map_state f s) ≡ map_state f (after m b k s)
  after_same b k (done v) = refl
  after_same b k stopped = refl
  after_same b (atom a) (reading w st) = ap (λ o. take_atom n o (map (map_frame f) st)) (atom_same b w a) ∙ by (atom_as m b w a)
    where
      by : (o : Option (Value A)) → take_atom n (option_map (map_value f) o) (map (map_frame f) st) ≡ map_state f (take_atom m o st)
      by None = refl
      by (Some v) = deliver_same st v
  after_same b (array k) (reading w st) = ap (λ o. open_place n o k (map (map_frame f) st)) (array_same w k) ∙ opens (array_as m w k) k st
  after_same b (head.map k) (reading w st) = ap (λ o. open_place n o (2 * k) (map (map_frame f) st)) (maps_same w) ∙ opens (map_as m w) (2 * k) st
  after_same b (tag t) (reading w st) = ap (λ o. go_on n o (map (map_frame f) st)) (tag_same w t) ∙ by (tag_as m w t)
    where
      by : (o : Option Want) → go_on n o (map (map_frame f) st) ≡ map_state f (go_on m o st)
      by None = refl
      by (Some v) = refl
