-- Every state that is reached can be gone on with to the end.
use Rattle.std.specs.Prelude.{◌≡◌, ℕ, zero, suc, ◌*◌, ◌==◌, Bool, true, false, ◌&&◌, ◌||◌, if◌then◌else◌, List, [], ◌∷◌, ◌++◌, Option, Some, None, ⊤, ◌⊎◌, refl}
use Rattle.std.proofs.Common.{sym, ◌∙◌, ap, subst, inl, inr}
use Rattle.dh_syntax.specs.Bytes.BinaryHeads.{Atom, unsigned, negative, octets, characters, simple, Mark, atom, array, tag}
use Rattle.dh_syntax.specs.Bytes.BinaryHeads as head
use Rattle.dh_syntax.specs.Bytes.BinaryItems.{item_marks}
use Rattle.dh_syntax.specs.Bytes.BinaryLeaves.{◌>>=◌}
use Rattle.dh_syntax.specs.Expressions.Numbers.{eq, le}
use Rattle.dh_syntax.proofs.Numbers.{eq-itself}
use Rattle.dh_binary.specs.Machine.{Making, Value, holds, called, counted, signed, entries, Want, term, whole, nullable, opening, spelled, null, index, operator_code, digest, mode, scheme, query, natural, integer, big_natural, big_integer, path, boxed, rows, Place, first, labels, boxing, key, is_odd, is_some, when, row_at, scheme_fits, is_named, want, fill, called_by, term_atom, atom_as, array_as, map_as, tag_as, Frame, State, reading, done, stopped, deliver, settle, take_atom, ended, open_place, go_on, after, run, start}
use Rattle.dh_binary.specs.Inside.Fitting.{ok, sort, gives}
use Rattle.dh_binary.proofs.Generic.{run_item, twice}
use Rattle.dh_binary.proofs.Going.{goes_on}
use Rattle.dh_binary.proofs.Meeting.{ends, Met, wants, wants_whole, wants_big_natural, wants_big_integer}

module _ {T : Type 0} (m : Making T) (b : Bool) where
  -- ---- what is taken meets what is wanted

  made_gives : {A : Type 0} (w : Want) (o : Option A) (f : A → Value T) (v : Value T) → ((a : A) → gives w (f a) ≡ true) → (o >>= λ a. Some (f a)) ≡ Some v → gives w v ≡ true
  made_gives w (Some a) f v h e = let g : f a ≡ v = cc in ap (gives w) (sym g) ∙ h a
  made_gives w None f v h e = cc

  when_gives : (w : Want) (c : Bool) (x v : Value T) → (c ≡ true → gives w x ≡ true) → (if c then Some x else None) ≡ Some v → gives w v ≡ true
  when_gives w true x v h e = let g : x ≡ v = cc in ap (gives w) (sym g) ∙ h refl
  when_gives w false x v h e = cc

  if_gives : (w : Want) (c : Bool) (x : Value T) (o : Option (Value T)) (v : Value T) → gives w x ≡ true → (o ≡ Some v → gives w v ≡ true) → (if c then Some x else o) ≡ Some v → gives w v ≡ true
  if_gives w true x o v h k e = let g : x ≡ v = cc in ap (gives w) (sym g) ∙ h
  if_gives w false x o v h k e = k e

  some_gives : (w : Want) (x v : Value T) → gives w x ≡ true → Some x ≡ Some v → gives w v ≡ true
  some_gives w x v h e = let g : x ≡ v = cc in ap (gives w) (sym g) ∙ h

  term_gives : (w : Want) → ((t : T) → gives w (holds t) ≡ true) → (a : Atom) (v : Value T) → term_atom m b a ≡ Some v → gives w v ≡ true
  term_gives w h (unsigned n) v e = made_gives w _ _ v (λ k. h _) e
  term_gives w h (negative n) v e = cc
  term_gives w h (octets n) v e = cc
  term_gives w h (characters t) v e = made_gives w _ _ v (λ k. h _) e
  term_gives w h (simple n) v e = if_gives w (n == 20) _ _ v (h _) (λ e. when_gives w (n == 21) _ v (λ c. h _) e) e

  text_gives : (w : Want) (test : List ℕ → Bool) → ((x : List ℕ) → gives {T = T} w (called x) ≡ true) → (a : Atom) (v : Value T) → called_by m test a ≡ Some v → gives w v ≡ true
  text_gives w test h (characters t) v e = made_gives w _ _ v h e
  text_gives w test h (unsigned t) v e = cc
  text_gives w test h (negative t) v e = cc
  text_gives w test h (octets t) v e = cc
  text_gives w test h (simple t) v e = cc

  both_same : (c : Bool) (k : ℕ) → c ≡ true → (c && eq k k) ≡ true
  both_same true k h = eq-itself k
  both_same false k h = h

  pub atom_gives : (w : Want) (a : Atom) (v : Value T) → atom_as m b w a ≡ Some v → gives w v ≡ true
  atom_gives term a v e = term_gives term (λ t. refl) a v e
  atom_gives whole a v e = term_gives whole (λ t. refl) a v e
  atom_gives nullable (simple n) v e = if_gives nullable (n == 22) _ _ v refl (term_gives nullable (λ t. refl) (simple n) v) e
  atom_gives nullable (unsigned n) v e = term_gives nullable (λ t. refl) (unsigned n) v e
  atom_gives nullable (negative n) v e = cc
  atom_gives nullable (octets n) v e = cc
  atom_gives nullable (characters n) v e = term_gives nullable (λ t. refl) (characters n) v e
  atom_gives (opening k) (unsigned n) v e = when_gives (opening k) (is_some (row_at {T = T} n k)) _ v (both_same (is_some (row_at {T = T} n k)) k) e
  atom_gives (opening k) (characters t) v e = by (eq k 1) refl e
    where
      by : (c : Bool) → eq k 1 ≡ c → (if c then called_by m is_named (characters t) else None) ≡ Some v → gives (opening k) v ≡ true
      by true h e = text_gives (opening k) is_named (λ x. h) (characters t) v e
      by false h e = cc
  atom_gives (opening k) (negative n) v e = cc
  atom_gives (opening k) (octets n) v e = cc
  atom_gives (opening k) (simple n) v e = cc
  atom_gives (spelled test) a v e = text_gives (spelled test) test (λ x. refl) a v e
  atom_gives null (simple n) v e = if_gives null (n == 22) _ _ v refl (λ e. cc) e
  atom_gives index (unsigned n) v e = made_gives index _ _ v (λ k. refl) e
  atom_gives operator_code (unsigned n) v e = made_gives operator_code _ _ v (λ k. refl) e
  atom_gives digest (simple n) v e = if_gives digest (n == 22) _ _ v refl (λ e. cc) e
  atom_gives digest (octets bs) v e = made_gives digest _ _ v (λ k. refl) e
  atom_gives mode (unsigned n) v e = made_gives mode _ _ v (λ k. refl) e
  atom_gives (scheme k) (unsigned n) v e = when_gives (scheme k) (scheme_fits n k) _ v (λ h. h) e
  atom_gives query (simple n) v e = if_gives query (n == 22) _ _ v refl (λ e. cc) e
  atom_gives query (characters t) v e = made_gives query _ _ v (λ k. refl) e
  atom_gives natural (unsigned n) v e = some_gives natural _ v refl e
  atom_gives integer (unsigned n) v e = some_gives integer _ v refl e
  atom_gives integer (negative n) v e = some_gives integer _ v refl e
  atom_gives big_natural (octets bs) v e = made_gives big_natural _ _ v (λ k. refl) e
  atom_gives (big_integer t) (octets bs) v e = made_gives (big_integer t) _ _ v (λ k. refl) e
  atom_gives boxed a v e = text_gives boxed _ (λ x. refl) a v e
  atom_gives w a v e = cc

  -- an expression where one may stand
  holds_gives : (w : Want) → ((t : T) → gives w (holds t) ≡ true) → (v : Value T) → gives term v ≡ true → gives w v ≡ true
  holds_gives w h (holds t) g = h t
  holds_gives w h v g = cc

  -- ---- states

  -- these frames can take what meets this want
  abbrev pub Awaits : Want → List (Frame T) → Type 0
  Awaits w [] = ⊤
  Awaits w (f ∷ st) = ((v : Value T) → gives w v ≡ true → (ok (fill m f.place v) f.left ≡ true) × (sort (fill m f.place v) ≡ sort f.place)) × Awaits (sort f.place) st

  abbrev pub Valid : State T → Type 0
  Valid (reading w st) = Met m b w × Awaits w st
  Valid (done v) = ⊤
  Valid stopped = ⊥

  wider : (u w : Want) (st : List (Frame T)) → ((v : Value T) → gives u v ≡ true → gives w v ≡ true) → Awaits w st → Awaits u st
  wider u w [] h a = tt
  wider u w (f ∷ st) h a = (λ v g. a.0 v (h v g), a.1)

  settle_valid : (p : Place T) (n : ℕ) (st : List (Frame T)) → ok p n ≡ true → Awaits (sort p) st → ((v : Value T) → gives (sort p) v ≡ true → Valid (deliver m v st)) → Valid (settle m p n st)
  settle_valid p zero st h a go =
      let (v, e, g) = ends m p h in
      subst Valid (ap (ended m (λ u. deliver m u st)) (sym e)) (go v g)
  settle_valid p (suc n) st h a go = (wants m b p n h, ((λ v g. goes_on m p n v h g), a))

  pub deliver_valid : (st : List (Frame T)) (w : Want) (v : Value T) → gives w v ≡ true → Awaits w st → Valid (deliver m v st)
  deliver_valid [] w v g a = tt
  deliver_valid (f ∷ st) w v g a =
      let (h, e) = a.0 v g in
      let q = fill m f.place v in
      let c : Awaits (sort q) st = subst (λ s. Awaits s st) (sym e) a.1 in
      settle_valid q f.left st h c (λ u k. deliver_valid st (sort q) u k c)

  place_valid : (p : Place T) (n : ℕ) (st : List (Frame T)) → ok p n ≡ true → Awaits (sort p) st → Valid (settle m p n st)
  place_valid p n st h a = settle_valid p n st h a (λ v g. deliver_valid st (sort p) v g a)

  abbrev pub Good : State T → Type 0
  Good s = Valid s ⊎ (s ≡ stopped)

  atom_good : (w : Want) (st : List (Frame T)) → Awaits w st → (o : Option (Value T)) → ((v : Value T) → o ≡ Some v → gives w v ≡ true) → Good (take_atom m o st)
  atom_good w st a (Some v) h = inl (deliver_valid st w v (h v refl) a)
  atom_good w st a None h = inr refl

  array_good : (w : Want) (n : ℕ) (st : List (Frame T)) → Awaits w st → (c : Bool) (p : Place T) → (c ≡ true → ok p n ≡ true) → ((v : Value T) → gives (sort p) v ≡ true → gives w v ≡ true) → Good (open_place m (when c p) n st)
  array_good w n st a true p h g = inl (place_valid p n st (h refl) (wider (sort p) w st g a))
  array_good w n st a false p h g = inr refl

  arrays_good : (w : Want) (n : ℕ) (st : List (Frame T)) → Awaits w st → Good (open_place m (array_as m w n) n st)
  arrays_good term n st a = array_good term n st a (le 2 n) first (λ h. h) (λ v g. g)
  arrays_good whole n st a = array_good whole n st a (le 2 n) first (λ h. h) (holds_gives whole (λ t. refl))
  arrays_good nullable n st a = array_good nullable n st a (le 2 n) first (λ h. h) (holds_gives nullable (λ t. refl))
  arrays_good path n st a = array_good path n st a (le 1 n) (labels []) (λ h. refl) (λ v g. g)
  arrays_good boxed n st a = array_good boxed n st a (eq n 1) boxing (λ h. h) (holds_gives boxed (λ t. refl))
  arrays_good w n st a = inr refl

  is_even : (n : ℕ) → is_odd (suc (2 * n)) ≡ true
  is_even zero = refl
  is_even (suc n) = ap (λ k. is_odd (suc k)) (twice n) ∙ is_even n

  rows_give : (nulls c : Bool) (v : Value T) → gives (rows nulls) v ≡ true → gives (rows c) v ≡ true
  rows_give nulls c (entries es) g = refl
  rows_give nulls c v g = cc

  maps_good : (w : Want) (n : ℕ) (st : List (Frame T)) → Awaits w st → Good (open_place m (map_as m w) (2 * n) st)
  maps_good (rows nulls) n st a = inl (place_valid (key nulls []) (2 * n) st (is_even n) a)
  maps_good w n st a = inr refl

  tag_good : (w u : Want) (st : List (Frame T)) → Awaits w st → (c : Bool) → (c ≡ true → Met m b u) → ((v : Value T) → gives u v ≡ true → gives w v ≡ true) → Good (go_on m (when c u) st)
  tag_good w u st a true h g = inl (h refl, wider u w st g a)
  tag_good w u st a false h g = inr refl

  counted_natural : (v : Value T) → gives big_natural v ≡ true → gives natural v ≡ true
  counted_natural (counted n) g = refl
  counted_natural v g = cc

  signed_integer : (t : ℕ) (v : Value T) → gives (big_integer t) v ≡ true → gives integer v ≡ true
  signed_integer t (signed n) g = refl
  signed_integer t v g = cc

  tags_good : (w : Want) (t : ℕ) (st : List (Frame T)) → Awaits w st → Good (go_on m (tag_as m w t) st)
  tags_good whole t st a = tag_good whole whole st a (t == 55799) (λ h. wants_whole m b) (λ v g. g)
  tags_good natural t st a = tag_good natural big_natural st a (t == 2) (λ h. wants_big_natural m b) counted_natural
  tags_good integer t st a = tag_good integer (big_integer t) st a (t == 2 || t == 3) (wants_big_integer m b t) (signed_integer t)
  tags_good w t st a = inr refl

  pub after_good : (s : State T) (k : Mark) → Good s → Good (after m b k s)
  after_good (reading w st) (atom c) (inl (r, a)) = atom_good w st a (atom_as m b w c) (atom_gives w c)
  after_good (reading w st) (array n) (inl (r, a)) = arrays_good w n st a
  after_good (reading w st) (head.map n) (inl (r, a)) = maps_good w n st a
  after_good (reading w st) (tag t) (inl (r, a)) = tags_good w t st a
  after_good (reading w st) k (inr e) = cc
  after_good (done v) k g = inr refl
  after_good stopped k g = inr refl

  run_good : (s : State T) (ms : List Mark) → Good s → Good (run m b s ms)
  run_good s [] g = g
  run_good s (k ∷ ms) g = run_good (after m b k s) ms (after_good s k g)

  -- ---- the end

  abbrev pub Ends : State T → Type 0
  Ends s = (more : List Mark) × (v : Value T) × (run m b s more ≡ done v)

  item_ends : (w : Want) (st : List (Frame T)) (r : Met m b w) → Ends (deliver m r.value st) → Ends (reading w st)
  item_ends w st r (more, v, e) = (item_marks r.item ++ more, v, run_item m b w st r.item more ∙ ap (λ o. run m b (take_atom m o st) more) r.reads ∙ e)

  settle_ends : (n : ℕ) (p : Place T) (st : List (Frame T)) → ok p n ≡ true → ((v : Value T) → gives (sort p) v ≡ true → Ends (deliver m v st)) → Ends (settle m p n st)
  settle_ends zero p st h go =
      let (v, e, g) = ends m p h in
      subst Ends (ap (ended m (λ u. deliver m u st)) (sym e)) (go v g)
  settle_ends (suc n) p st h go =
      let r = wants m b p n h in
      let (o, s) = goes_on m p n r.value h r.gives in
      item_ends (want p n) (record { place = p; left = n } ∷ st) r (settle_ends n (fill m p r.value) st o (λ v g. go v (subst (λ s. gives s v ≡ true) s g)))

  deliver_ends : (st : List (Frame T)) (w : Want) (v : Value T) → gives w v ≡ true → Awaits w st → Ends (deliver m v st)
  deliver_ends [] w v g a = ([], v, refl)
  deliver_ends (f ∷ st) w v g a =
      let (h, e) = a.0 v g in
      let q = fill m f.place v in
      settle_ends f.left q st h (λ u k. deliver_ends st (sort q) u k (subst (λ s. Awaits s st) (sym e) a.1))

  state_ends : (s : State T) → Good s → (s ≡ stopped → ⊥) → Ends s
  state_ends (reading w st) (inl (r, a)) h = item_ends w st r (deliver_ends st w r.value r.gives a)
  state_ends (reading w st) (inr e) h = absurd (h e)
  state_ends (done v) g h = ([], v, refl)
  state_ends stopped g h = absurd (h refl)

  -- From each state that heads lead to, and that is not stopped, other heads lead to the end.
  pub run_ends : (ms : List Mark) → (run m b start ms ≡ stopped → ⊥) → Ends (run m b start ms)
  run_ends ms h = state_ends (run m b start ms) (run_good start ms (inl (wants_whole m b, tt))) h
