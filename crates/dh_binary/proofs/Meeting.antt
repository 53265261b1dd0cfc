-- A place wants what there is, until its end.
use Rattle.std.specs.Prelude.{◌≡◌, ℕ, zero, suc, ◌==◌, Bool, true, false, ◌&&◌, ◌||◌, if◌then◌else◌, List, [], ◌∷◌, length, ◌+◌, ◌<◌, ⊤, Option, Some, None, codes, refl}
use Rattle.std.proofs.Common.{ap, arith}
use Rattle.std.specs.Str.{is_utf8, chars}
use Rattle.std.specs.Char.{encode_utf8}
use Rattle.dh_syntax.specs.declared.expressions.Op.TheVariants as ops
use Rattle.dh_syntax.specs.Bytes.BinaryHeads.{unsigned, octets, characters, simple}
use Rattle.dh_syntax.specs.Bytes.BinaryItems.{Item, single, array_of, map_of, no_items, more_items, no_pairs}
use Rattle.dh_syntax.specs.Expressions.Numbers.{le, bytes_eq}
use Rattle.dh_syntax.specs.Bytes.BinaryLeaves.{◌>>=◌, inserted}
use Rattle.dh_syntax.specs.Expressions.Spellable.{is_label}
use Rattle.dh_syntax.specs.Expressions.Order.{before}
use Rattle.std.proofs.lemmas.Bool.{eqb-true}
use Rattle.dh_syntax.proofs.Numbers.{bytes_eq-true, eq-itself}
use Rattle.dh_binary.specs.Machine.{Making, Value, nothing, holds, called, counted, indexed, signed, coded, by, hashed, taken, queried, names, entries, Want, term, whole, nullable, opening, spelled, null, index, operator_code, digest, mode, scheme, query, natural, integer, big_natural, big_integer, path, boxed, rows, none, Place, first, finished, applying, operands, binder, quantify, operating, emptied, skipping, rowing, types, values, alternatives, selecting, selected, projecting, projected, labelled, numeral, signed_numeral, piece, between, importing, moding, locating, Start, components, headers, hosting, segments, environment, let_name, let_type, let_value, updating, update_path, update_value, indexing, labels, boxing, key, value, is_odd, is_some, when, row_at, or_first, lets_fit, scheme_fits, located, import_at, want, fill, result, fresh, fresh_key, Entry}
use Rattle.dh_binary.specs.Inside.Running.{read}
use Rattle.dh_binary.specs.Inside.Fitting.{ok, sort, gives}

module _ {T : Type 0} (m : Making T) where
  -- ---- a place that fits no more items is at its end

  pub ends : (p : Place T) → ok p 0 ≡ true → (v : Value T) × (result m p ≡ Some v) × (gives (sort p) v ≡ true)
  ends (finished t) h = (holds t, refl, refl)
  ends (applying (Some f)) h = (holds f, refl, refl)
  ends (operands op es) h = (holds (m.node op es), refl, refl)
  ends (projected t) h = (holds (m.node (ops.Project []) (t ∷ [])), refl, refl)
  ends (labelled t xs) h = (holds (m.node (ops.Project xs) (t ∷ [])), refl, refl)
  ends (between ps es) h = (holds (m.node (ops.Text ps) es), refl, refl)
  ends (components s k cs) h = (holds (import_at m s (Rattle.dh_binary.specs.Machine.path_location m k cs)), refl, refl)
  ends (labels ks) h = (names ks, refl, refl)
  ends (key nulls es) h = (entries es, refl, refl)
  ends (quantify op x None) h = cc
  ends (quantify op x (Some a)) h = cc
  ends p h = cc

  -- ---- each want is met by some item

  pub record Met (b : Bool) (w : Want) : Type 0 where
    pub item : Item
    pub value : Value T
    pub reads : read m b w item ≡ Some value
    pub gives : gives w value ≡ true

  met_text : (b : Bool) (test : List ℕ → Bool) (x : List ℕ) → test x ≡ true → Met b (spelled test)
  met_text b test x h = record { item = single (characters x); value = called x; reads = ap (λ c. (if c then Some x else None) >>= λ y. Some (called y)) h; gives = refl }

  met : (b : Bool) (w : Want) (i : Item) (v : Value T) → read m b w i ≡ Some v → gives w v ≡ true → Met b w
  met b w i v h g = record { item = i; value = v; reads = h; gives = g }

  met_term : (b : Bool) → Met b term
  met_term b = met b term (single (simple 20)) (holds (m.node (ops.Bool false) [])) refl refl

  -- the first item of a row of so many
  met_opening : (b : Bool) (n : ℕ) → le 2 (suc n) ≡ true → Met b (opening n)
  met_opening b zero h = cc
  met_opening b (suc zero) h = met b (opening 1) (single (unsigned 15)) (coded 15 1) refl refl
  met_opening b (suc (suc n)) h = met b (opening (suc (suc n))) (single (unsigned 0)) (coded 0 (suc (suc n))) refl (eq-itself n)

  met_scheme : (b : Bool) (n : ℕ) → Met b (scheme n)
  met_scheme b zero = met b (scheme 0) (single (unsigned 7)) (counted 7) refl refl
  met_scheme b (suc n) = met b (scheme (suc n)) (single (unsigned 2)) (counted 2) refl refl

  -- ---- a label that is not there yet

  abbrev as_long : ℕ → List ℕ
  as_long zero = []
  as_long (suc k) = 97 ∷ as_long k

  long_label : (k : ℕ) → is_label (as_long k) ≡ true
  long_label zero = refl
  long_label (suc k) = long_label k

  length_long : (k : ℕ) → length (as_long k) ≡ k
  length_long zero = refl
  length_long (suc k) = ap suc (length_long k)

  module _ {A : Type 0} (name : A → List ℕ) where
    abbrev total : List A → ℕ
    total [] = 0
    total (y ∷ ys) = length (name y) + total ys

    abbrev Differs : List ℕ → List A → Type 0
    Differs x [] = ⊤
    Differs x (y ∷ ys) = (bytes_eq x (name y) ≡ false) × Differs x ys

    differ : (x y : List ℕ) → length y < length x → bytes_eq x y ≡ false
    differ x y h = by (bytes_eq x y) refl
      where
        by : (c : Bool) → bytes_eq x y ≡ c → c ≡ false
        by false e = refl
        by true e = let f = ap length (bytes_eq-true x y e) in absurd (omega arith)

    long_differs : (k : ℕ) (ys : List A) → total ys < k → Differs (as_long k) ys
    long_differs k [] h = tt
    long_differs k (y ∷ ys) h = let e = length_long k in (differ (as_long k) (name y) (omega arith), long_differs k ys (omega arith))

    some_more : (o : Option (List A)) (y : A) → is_some o ≡ true → is_some (o >>= λ zs. Some (y ∷ zs)) ≡ true
    some_more (Some zs) y h = refl
    some_more None y h = h

    goes_in : (x : A) (ys : List A) → Differs (name x) ys → is_some (inserted name x ys) ≡ true
    goes_in x [] d = refl
    goes_in x (y ∷ ys) (d, ds) = by (before (name x) (name y)) (bytes_eq (name x) (name y)) d (some_more (inserted name x ys) y (goes_in x ys ds))
      where
        by : (c e : Bool) → e ≡ false → is_some (inserted name x ys >>= λ zs. Some (y ∷ zs)) ≡ true → is_some (if c then Some (x ∷ y ∷ ys) else if e then None else (inserted name x ys >>= λ zs. Some (y ∷ zs))) ≡ true
        by true e h k = refl
        by false true h k = cc
        by false false h k = k

  both : (a c : Bool) → a ≡ true → c ≡ true → (a && c) ≡ true
  both true c h k = k
  both false c h k = h

  met_fresh : (b : Bool) (xs : List (List ℕ)) → Met b (spelled (fresh xs))
  met_fresh b xs =
      let k = suc (total (λ y. y) xs) in
      met_text b (fresh xs) (as_long k) (both (is_label (as_long k)) _ (long_label k) (goes_in (λ y. y) (as_long k) xs (long_differs (λ y. y) k xs (omega arith))))

  met_key : (b : Bool) (es : List (Entry T)) → Met b (spelled (fresh_key es))
  met_key b es =
      let k = suc (total (λ e. e.name) es) in
      met_text b (fresh_key es) (as_long k) (both (is_label (as_long k)) _ (long_label k) (goes_in (λ e. e.name) (record { name = as_long k; value = None }) es (long_differs (λ e. e.name) k es (omega arith))))

  met_value : (b nulls : Bool) → Met b (if nulls then nullable else term)
  met_value b true = met b nullable (single (simple 22)) nothing refl refl
  met_value b false = met_term b

  met_piece : (b : Bool) → Met b (spelled is_utf8)
  unfolding is_utf8 chars encode_utf8
  met_piece b = met_text b is_utf8 [] refl

  -- ---- a place that fits more items wants one that there is

  pub wants : (b : Bool) (p : Place T) (n : ℕ) → ok p (suc n) ≡ true → Met b (want p n)
  wants b first n h = met_opening b n h
  wants b (finished t) n h = cc
  wants b (applying f) n h = met_term b
  wants b (operands op es) n h = met_term b
  wants b (binder op) n h = met_text b _ (codes "a") refl
  wants b (quantify op x a) n h = met_term b
  wants b operating n h = met b operator_code (single (unsigned 0)) (by _) refl refl
  wants b emptied n h = met_term b
  wants b (skipping op) n h = met b null (single (simple 22)) nothing refl refl
  wants b (rowing types) n h = met b (rows false) (map_of no_pairs) (entries []) refl refl
  wants b (rowing values) n h = met b (rows false) (map_of no_pairs) (entries []) refl refl
  wants b (rowing alternatives) n h = met b (rows true) (map_of no_pairs) (entries []) refl refl
  wants b selecting n h = met_term b
  wants b (selected t) n h = met_text b is_label (codes "a") refl
  wants b projecting n h = met_term b
  wants b (projected t) zero h = met b boxed (single (characters (codes "a"))) (called (codes "a")) refl refl
  wants b (projected t) (suc n) h = met_text b is_label (codes "a") refl
  wants b (labelled t xs) n h = met_fresh b xs
  wants b numeral n h = met b natural (single (unsigned 0)) (counted 0) refl refl
  wants b signed_numeral n h = met b integer (single (unsigned 0)) (signed _) refl refl
  wants b (piece ps es) n h = met_piece b
  wants b (between ps es) n h = met_term b
  wants b importing n h = met b digest (single (simple 22)) (hashed None) refl refl
  wants b (moding d) n h = met b mode (single (unsigned 0)) (taken _) refl refl
  wants b (locating s) n h = met_scheme b n
  wants b (components s k cs) n h = met_text b _ (codes "a") refl
  wants b (headers s c) n h = met b null (single (simple 22)) nothing refl refl
  wants b (hosting s c) n h = met_text b _ (codes "a") refl
  wants b (segments s c host cs) zero h = met b query (single (simple 22)) (queried None) refl refl
  wants b (segments s c host cs) (suc n) h = met_text b _ [] refl
  wants b (environment s) n h = met_text b _ (codes "a") refl
  wants b (let_name bs) zero h = met_term b
  wants b (let_name bs) (suc n) h = met_text b is_label (codes "a") refl
  wants b (let_type bs x) n h = met b nullable (single (simple 22)) nothing refl refl
  wants b (let_value bs x t) n h = met_term b
  wants b updating n h = met_term b
  wants b (update_path e) n h = met b path (array_of (more_items (single (characters (codes "a"))) no_items)) (names (codes "a" ∷ [])) refl refl
  wants b (update_value e ks) n h = met_term b
  wants b (indexing x) n h = met b index (single (unsigned 0)) (indexed 0) refl refl
  wants b (labels ks) n h = met_text b is_label (codes "a") refl
  wants b boxing n h = met_term b
  wants b (key nulls es) n h = met_key b es
  wants b (value nulls es x) n h = met_value b nulls

  pub wants_whole : (b : Bool) → Met b whole
  wants_whole b = met b whole (single (simple 20)) (holds (m.node (ops.Bool false) [])) refl refl

  pub wants_big_natural : (b : Bool) → Met b big_natural
  wants_big_natural b = met b big_natural (single (octets [])) (counted 0) refl refl

  pub wants_big_integer : (b : Bool) (t : ℕ) → (t == 2 || t == 3) ≡ true → Met b (big_integer t)
  wants_big_integer b t h = by (t == 2) (t == 3) refl refl h
    where
      by : (c d : Bool) → (t == 2) ≡ c → (t == 3) ≡ d → (c || d) ≡ true → Met b (big_integer t)
      by true d e f g = rw (eqb-true t 2 e) (met b (big_integer 2) (single (octets [])) (signed _) refl refl)
      by false true e f g = rw (eqb-true t 3 f) (met b (big_integer 3) (single (octets [])) (signed _) refl refl)
      by false false e f g = cc
