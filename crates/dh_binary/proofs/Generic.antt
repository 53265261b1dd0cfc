-- The machine reads items as recursion does.
use Rattle.std.specs.Prelude.{◌≡◌, ℕ, zero, suc, ◌*◌, ◌≤◌, Bool, List, [], ◌∷◌, ◌++◌, length, Option, Some, None, refl}
use Rattle.std.proofs.Common.{sym, ◌∙◌, ap, arith}
use Rattle.std.proofs.lemmas.List.{append_assoc, append-nil}
use Rattle.dh_syntax.specs.Bytes.BinaryHeads.{Mark, atom, array, tag}
use Rattle.dh_syntax.specs.Bytes.BinaryHeads as head
use Rattle.dh_syntax.specs.Bytes.BinaryItems.{Item, single, array_of, map_of, tagged, Items, no_items, more_items, Pairs, no_pairs, more_pairs, item_count, pair_count, item_marks, items_marks, pairs_marks}
use Rattle.dh_syntax.specs.Bytes.BinaryLeaves.{◌>>=◌}
use Rattle.dh_binary.specs.Machine.{Making, Value, Want, Place, want, fill, result, atom_as, array_as, map_as, tag_as, Frame, State, reading, done, stopped, deliver, settle, take_atom, ended, open_place, go_on, after, run}
use Rattle.dh_binary.specs.Inside.Running.{read, reads, reads_pairs}

pub twice : (n : ℕ) → 2 * suc n ≡ suc (suc (2 * n))
twice n = omega arith

module _ {T : Type 0} (m : Making T) (b : Bool) where
  pub run-stopped : (ms : List Mark) → run m b stopped ms ≡ stopped
  run-stopped [] = refl
  run-stopped (k ∷ ms) = run-stopped ms

  pub run-append : (s : State T) (ms ns : List Mark) → run m b s (ms ++ ns) ≡ run m b (run m b s ms) ns
  run-append s [] ns = refl
  run-append s (k ∷ ms) ns = run-append (after m b k s) ms ns

  -- an item, and what its value goes on with
  and_then : (o : Option (Value T)) (f : Value T → Option (Value T)) (st sts : List (Frame T)) (rest more : List Mark)
      → ((v : Value T) → run m b (deliver m v sts) rest ≡ run m b (take_atom m (f v) st) more) → run m b (take_atom m o sts) rest ≡ run m b (take_atom m (o >>= f) st) more
  and_then (Some v) f st sts rest more h = h v
  and_then None f st sts rest more h = run-stopped rest ∙ sym (run-stopped more)

  opens : (o : Option (Place T)) (n : ℕ) (f : Place T → Option (Value T)) (st : List (Frame T)) (rest more : List Mark)
      → ((p : Place T) → run m b (settle m p n st) rest ≡ run m b (take_atom m (f p) st) more) → run m b (open_place m o n st) rest ≡ run m b (take_atom m (o >>= f) st) more
  opens (Some p) n f st rest more h = h p
  opens None n f st rest more h = run-stopped rest ∙ sym (run-stopped more)

  tags : (o : Option Want) (f : Want → Option (Value T)) (st : List (Frame T)) (rest more : List Mark)
      → ((w : Want) → run m b (reading w st) rest ≡ run m b (take_atom m (f w) st) more) → run m b (go_on m o st) rest ≡ run m b (take_atom m (o >>= f) st) more
  tags (Some w) f st rest more h = h w
  tags None f st rest more h = run-stopped rest ∙ sym (run-stopped more)

  ends : (o : Option (Value T)) (st : List (Frame T)) (more : List Mark) → run m b (ended m (λ u. deliver m u st) o) more ≡ run m b (take_atom m o st) more
  ends (Some v) st more = refl
  ends None st more = refl

  mutual
    pub run_item : (w : Want) (st : List (Frame T)) (i : Item) (more : List Mark) → run m b (reading w st) (item_marks i ++ more) ≡ run m b (take_atom m (read m b w i) st) more
    run_item w st (single a) more = refl
    run_item w st (array_of is) more = opens (array_as m w (item_count is)) (item_count is) (λ p. reads m b p is) st (items_marks is ++ more) more (λ p. run_items p st is more)
    run_item w st (map_of ps) more = opens (map_as m w) (2 * pair_count ps) (λ p. reads_pairs m b p ps) st (pairs_marks ps ++ more) more (λ p. run_pairs p st ps more)
    run_item w st (tagged t i) more = tags (tag_as m w t) (λ v. read m b v i) st (item_marks i ++ more) more (λ v. run_item v st i more)

    pub run_items : (p : Place T) (st : List (Frame T)) (is : Items) (more : List Mark) → run m b (settle m p (item_count is) st) (items_marks is ++ more) ≡ run m b (take_atom m (reads m b p is) st) more
    run_items p st no_items more = ends (result m p) st more
    run_items p st (more_items i is) more =
        let f : Frame T = record { place = p; left = item_count is } in
        ap (λ ms. run m b (reading (want p (item_count is)) (f ∷ st)) ms) (append_assoc (item_marks i) (items_marks is) more)
        ∙ run_item (want p (item_count is)) (f ∷ st) i (items_marks is ++ more)
        ∙ and_then (read m b (want p (item_count is)) i) (λ v. reads m b (fill m p v) is) st (f ∷ st) (items_marks is ++ more) more (λ v. run_items (fill m p v) st is more)

    pub run_pairs : (p : Place T) (st : List (Frame T)) (ps : Pairs) (more : List Mark) → run m b (settle m p (2 * pair_count ps) st) (pairs_marks ps ++ more) ≡ run m b (take_atom m (reads_pairs m b p ps) st) more
    run_pairs p st no_pairs more = ends (result m p) st more
    run_pairs p st (more_pairs k v ps) more =
        let n = 2 * pair_count ps in
        let f : Frame T = record { place = p; left = suc n } in
        ap (λ j. run m b (settle m p j st) (pairs_marks (more_pairs k v ps) ++ more)) (twice (pair_count ps))
        ∙ ap (λ ms. run m b (reading (want p (suc n)) (f ∷ st)) ms) (append_assoc (item_marks k ++ item_marks v) (pairs_marks ps) more ∙ append_assoc (item_marks k) (item_marks v) (pairs_marks ps ++ more))
        ∙ run_item (want p (suc n)) (f ∷ st) k (item_marks v ++ (pairs_marks ps ++ more))
        ∙ and_then (read m b (want p (suc n)) k) (λ a. read m b (want (fill m p a) n) v >>= λ c. reads_pairs m b (fill m (fill m p a) c) ps) st (f ∷ st) (item_marks v ++ (pairs_marks ps ++ more)) more
        (λ a. run_item (want (fill m p a) n) (record { place = fill m p a; left = n } ∷ st) v (pairs_marks ps ++ more)
        ∙ and_then (read m b (want (fill m p a) n) v) (λ c. reads_pairs m b (fill m (fill m p a) c) ps) st (record { place = fill m p a; left = n } ∷ st) (pairs_marks ps ++ more) more
        (λ c. run_pairs (fill m (fill m p a) c) st ps more))

  -- ---- heads that come to an end are those of items

  record Parsed (k : ℕ) (w : Want) (st : List (Frame T)) (ms : List Mark) (v : Value T) : Type 0 where
    pub item : Item
    pub value : Value T
    pub rest : List Mark
    pub marks : ms ≡ item_marks item ++ rest
    pub reads : read m b w item ≡ Some value
    pub fewer : length rest ≤ k
    pub goes : run m b (deliver m value st) rest ≡ done v

  record ParsedItems (k : ℕ) (p : Place T) (n : ℕ) (st : List (Frame T)) (ms : List Mark) (v : Value T) : Type 0 where
    items : Items
    count : item_count items ≡ n
    value : Value T
    rest : List Mark
    marks : ms ≡ items_marks items ++ rest
    reads : reads m b p items ≡ Some value
    fewer : length rest ≤ k
    goes : run m b (deliver m value st) rest ≡ done v

  record ParsedPairs (k : ℕ) (p : Place T) (n : ℕ) (st : List (Frame T)) (ms : List Mark) (v : Value T) : Type 0 where
    items : Pairs
    count : pair_count items ≡ n
    value : Value T
    rest : List Mark
    marks : ms ≡ pairs_marks items ++ rest
    reads : reads_pairs m b p items ≡ Some value
    fewer : length rest ≤ k
    goes : run m b (deliver m value st) rest ≡ done v

  abbrev Parses : ℕ → Type 0
  Parses k = (w : Want) (st : List (Frame T)) (ms : List Mark) (v : Value T) → length ms ≤ k → run m b (reading w st) ms ≡ done v → Parsed k w st ms v

  not_stopped : {G : Type 0} (ms : List Mark) (v : Value T) → run m b stopped ms ≡ done v → G
  not_stopped ms v h = let e : stopped ≡ done v = sym (run-stopped ms) ∙ h in cc

  ended_some : (o : Option (Value T)) (st : List (Frame T)) (ms : List Mark) (v : Value T) → run m b (ended m (λ u. deliver m u st) o) ms ≡ done v → (u : Value T) × (o ≡ Some u) × (run m b (deliver m u st) ms ≡ done v)
  ended_some (Some u) st ms v h = (u, refl, h)
  ended_some None st ms v h = not_stopped ms v h

  parse_items : (k : ℕ) → Parses k → (n : ℕ) (p : Place T) (st : List (Frame T)) (ms : List Mark) (v : Value T) → length ms ≤ k → run m b (settle m p n st) ms ≡ done v → ParsedItems k p n st ms v
  parse_items k self zero p st ms v l h =
      let (u, e, g) = ended_some (result m p) st ms v h in
      record { items = no_items; count = refl; value = u; rest = ms; marks = refl; reads = e; fewer = l; goes = g }
  parse_items k self (suc n) p st ms v l h =
      let x = self (want p n) (record { place = p; left = n } ∷ st) ms v l h in
      let y = parse_items k self n (fill m p x.value) st x.rest v x.fewer x.goes in
      record {
        items = more_items x.item y.items;
        count = ap suc y.count;
        value = y.value;
        rest = y.rest;
        marks = x.marks ∙ ap (λ r. item_marks x.item ++ r) y.marks ∙ sym (append_assoc (item_marks x.item) (items_marks y.items) y.rest);
        reads = ap (λ j. read m b (want p j) x.item >>= λ v. reads m b (fill m p v) y.items) y.count ∙ ap (λ o. o >>= λ v. reads m b (fill m p v) y.items) x.reads ∙ y.reads;
        fewer = y.fewer;
        goes = y.goes;
      }

  parse_pairs : (k : ℕ) → Parses k → (n : ℕ) (p : Place T) (st : List (Frame T)) (ms : List Mark) (v : Value T) → length ms ≤ k → run m b (settle m p (2 * n) st) ms ≡ done v → ParsedPairs k p n st ms v
  parse_pairs k self zero p st ms v l h =
      let (u, e, g) = ended_some (result m p) st ms v h in
      record { items = no_pairs; count = refl; value = u; rest = ms; marks = refl; reads = e; fewer = l; goes = g }
  parse_pairs k self (suc n) p st ms v l h =
      let h₁ : run m b (settle m p (suc (suc (2 * n))) st) ms ≡ done v = sym (ap (λ j. run m b (settle m p j st) ms) (twice n)) ∙ h in
      let x = self (want p (suc (2 * n))) (record { place = p; left = suc (2 * n) } ∷ st) ms v l h₁ in
      let q = fill m p x.value in
      let y = self (want q (2 * n)) (record { place = q; left = 2 * n } ∷ st) x.rest v x.fewer x.goes in
      let z = parse_pairs k self n (fill m q y.value) st y.rest v y.fewer y.goes in
      record {
        items = more_pairs x.item y.item z.items;
        count = ap suc z.count;
        value = z.value;
        rest = z.rest;
        marks =
            x.marks ∙ ap (λ r. item_marks x.item ++ r) (y.marks ∙ ap (λ r. item_marks y.item ++ r) z.marks)
            ∙ sym (append_assoc (item_marks x.item ++ item_marks y.item) (pairs_marks z.items) z.rest ∙ append_assoc (item_marks x.item) (item_marks y.item) (pairs_marks z.items ++ z.rest));
        reads =
            ap (λ j. read m b (want p (suc (2 * j))) x.item >>= λ a. read m b (want (fill m p a) (2 * j)) y.item >>= λ c. reads_pairs m b (fill m (fill m p a) c) z.items) z.count
            ∙ ap (λ o. o >>= λ a. read m b (want (fill m p a) (2 * n)) y.item >>= λ c. reads_pairs m b (fill m (fill m p a) c) z.items) x.reads
            ∙ ap (λ o. o >>= λ c. reads_pairs m b (fill m q c) z.items) y.reads ∙ z.reads;
        fewer = z.fewer;
        goes = z.goes;
      }

  by_atom : (k : ℕ) (w : Want) (st : List (Frame T)) (a : _) (ms : List Mark) (v : Value T) (o : Option (Value T)) → atom_as m b w a ≡ o → length ms ≤ k → run m b (take_atom m o st) ms ≡ done v → Parsed (suc k) w st (atom a ∷ ms) v
  by_atom k w st a ms v (Some u) e l h = record { item = single a; value = u; rest = ms; marks = refl; reads = e; fewer = omega arith; goes = h }
  by_atom k w st a ms v None e l h = not_stopped ms v h

  by_array : (k : ℕ) → Parses k → (w : Want) (st : List (Frame T)) (n : ℕ) (ms : List Mark) (v : Value T) (o : Option (Place T)) → array_as m w n ≡ o → length ms ≤ k → run m b (open_place m o n st) ms ≡ done v → Parsed (suc k) w st (array n ∷ ms) v
  by_array k self w st n ms v (Some p) e l h =
      let x = parse_items k self n p st ms v l h in
      record {
        item = array_of x.items;
        value = x.value;
        rest = x.rest;
        marks = ap (λ j. array j ∷ ms) (sym x.count) ∙ ap (λ r. array (item_count x.items) ∷ r) x.marks;
        reads = ap (λ j. array_as m w j >>= λ p. reads m b p x.items) x.count ∙ ap (λ o. o >>= λ p. reads m b p x.items) e ∙ x.reads;
        fewer = let f = x.fewer in omega arith;
        goes = x.goes;
      }
  by_array k self w st n ms v None e l h = not_stopped ms v h

  by_map : (k : ℕ) → Parses k → (w : Want) (st : List (Frame T)) (n : ℕ) (ms : List Mark) (v : Value T) (o : Option (Place T)) → map_as m w ≡ o → length ms ≤ k → run m b (open_place m o (2 * n) st) ms ≡ done v → Parsed (suc k) w st (head.map n ∷ ms) v
  by_map k self w st n ms v (Some p) e l h =
      let x = parse_pairs k self n p st ms v l h in
      record {
        item = map_of x.items;
        value = x.value;
        rest = x.rest;
        marks = ap (λ j. head.map j ∷ ms) (sym x.count) ∙ ap (λ r. head.map (pair_count x.items) ∷ r) x.marks;
        reads = ap (λ o. o >>= λ p. reads_pairs m b p x.items) e ∙ x.reads;
        fewer = let f = x.fewer in omega arith;
        goes = x.goes;
      }
  by_map k self w st n ms v None e l h = not_stopped ms v h

  by_tag : (k : ℕ) → Parses k → (w : Want) (st : List (Frame T)) (t : ℕ) (ms : List Mark) (v : Value T) (o : Option Want) → tag_as m w t ≡ o → length ms ≤ k → run m b (go_on m o st) ms ≡ done v → Parsed (suc k) w st (tag t ∷ ms) v
  by_tag k self w st t ms v (Some u) e l h =
      let x = self u st ms v l h in
      record {
        item = tagged t x.item;
        value = x.value;
        rest = x.rest;
        marks = ap (λ r. tag t ∷ r) x.marks;
        reads = ap (λ o. o >>= λ u. read m b u x.item) e ∙ x.reads;
        fewer = let f = x.fewer in omega arith;
        goes = x.goes;
      }
  by_tag k self w st t ms v None e l h = not_stopped ms v h

  parse : (k : ℕ) → Parses k
  parse k w st [] v l h = cc
  parse zero w st (x ∷ ms) v l h = absurd (omega arith)
  parse (suc k) w st (atom a ∷ ms) v l h = by_atom k w st a ms v (atom_as m b w a) refl (omega arith) h
  parse (suc k) w st (array n ∷ ms) v l h = by_array k (parse k) w st n ms v (array_as m w n) refl (omega arith) h
  parse (suc k) w st (head.map n ∷ ms) v l h = by_map k (parse k) w st n ms v (map_as m w) refl (omega arith) h
  parse (suc k) w st (tag t ∷ ms) v l h = by_tag k (parse k) w st t ms v (tag_as m w t) refl (omega arith) h

  -- a value that goes nowhere takes no more heads
  done_whole : (u v : Value T) (ms : List Mark) → run m b (done u) ms ≡ done v → (ms ≡ []) × (u ≡ v)
  done_whole u v [] h = (refl, cc)
  done_whole u v (k ∷ ms) h = not_stopped ms v h

  -- heads are read to their end as an item
  pub parsed : (w : Want) (ms : List Mark) (v : Value T) → run m b (reading w []) ms ≡ done v → (i : Item) × (item_marks i ≡ ms) × (read m b w i ≡ Some v)
  parsed w ms v h =
      let x = parse (length ms) w [] ms v (omega arith) h in
      let (e, f) = done_whole x.value v x.rest x.goes in
      (x.item, (sym (append-nil (item_marks x.item)) ∙ ap (λ r. item_marks x.item ++ r) (sym e) ∙ sym x.marks), x.reads ∙ ap (λ y. Some y) f)

  pub runs_whole : (w : Want) (i : Item) (v : Value T) → read m b w i ≡ Some v → run m b (reading w []) (item_marks i) ≡ done v
  runs_whole w i v h = ap (λ ms. run m b (reading w []) ms) (sym (append-nil (item_marks i))) ∙ run_item w [] i [] ∙ ap (λ o. take_atom m o []) h
