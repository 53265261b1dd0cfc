-- The machine takes what is an expression, and stops as soon as nothing can go on.
use Rattle.std.specs.Prelude.{◌≡◌, ℕ, zero, suc, ◌*◌, ◌^◌, ◌==◌, nat_lt, nat_le, ℤ, pos, negsuc, codes, Bool, true, false, if◌then◌else◌, List, [], ◌∷◌, ◌++◌, length, Option, Some, None, ⊤, refl}
use Rattle.std.proofs.Common.{sym, ◌∙◌, ap, subst}
use Rattle.dh_syntax.specs.Bytes.BinaryFaults.{CanGoOn}
use Rattle.dh_syntax.specs.Bytes.BinaryHeads.{Atom, unsigned, negative, octets, characters, simple, Mark, atom, array, tag}
use Rattle.dh_syntax.specs.Bytes.BinaryHeads as head
use Rattle.dh_syntax.specs.Bytes.BinaryItems.{Item, item_marks, Open, closed, after_mark, after_marks, open_at, at_start}
use Rattle.dh_syntax.specs.Bytes.BinaryLeaves.{◌>>=◌, within, bignum}
use Rattle.dh_syntax.specs.Bytes.BinaryRead.{expression}
use Rattle.dh_syntax.specs.Limits.{most_index}
use Rattle.dh_syntax.specs.Expressions.Tree.{Term}
use Rattle.dh_binary.specs.Machine.{Value, holds, counted, indexed, signed, Want, term, whole, nullable, index, big_natural, big_integer, Place, projected, segments, let_name, rowing, types, values, alternatives, value, want, fill, result, term_atom, atom_as, array_as, map_as, tag_as, Frame, State, reading, done, stopped, deliver, settle, take_atom, ended, open_place, go_on, after, run, start}
use Rattle.dh_binary.specs.Inside.Terms.{terms}
use Rattle.dh_binary.specs.Verdict.{lefts, one_more, opens, opens_with, is_big}
use Rattle.dh_binary.proofs.Generic.{run-append, run-stopped, parsed, runs_whole}
use Rattle.dh_binary.proofs.Parts.{hold}
use Rattle.dh_binary.proofs.Rows.{bind_assoc}
use Rattle.dh_binary.proofs.Same.{whole_same}
use Rattle.dh_binary.proofs.Alive.{run_ends}

abbrev pub IsRunning : State Term → Type 0
IsRunning s = s ≡ stopped → ⊥

held : (o : Option Term) (v : Value Term) → hold o ≡ Some v → (e : Term) × (o ≡ Some e) × (v ≡ holds e)
held (Some e) v h = (e, refl, cc)
held None v h = cc

-- ---- law 1: what is accepted

pub accepted : (b : Bool) (ms : List Mark) (v : Value Term) → run terms b start ms ≡ done v → (i : Item) × (e : Term) × (item_marks i ≡ ms) × (expression b i ≡ Some e) × (v ≡ holds e)
accepted b ms v h =
    let (i, p, q) = parsed terms b whole ms v h in
    let (e, x, y) = held (expression b i) v (sym (whole_same b i) ∙ q) in
    (i, e, p, x, y)

pub accepts : (b : Bool) (i : Item) (e : Term) → expression b i ≡ Some e → run terms b start (item_marks i) ≡ done (holds e)
accepts b i e h = runs_whole terms b whole i (holds e) (whole_same b i ∙ ap hold h)

-- ---- law 2: no dead states

pub running_goes_on : (b : Bool) (ms : List Mark) → IsRunning (run terms b start ms) → CanGoOn b ms
running_goes_on b ms h =
    let (more, v, e) = run_ends terms b ms h in
    let (i, f, p, x, y) = accepted b (ms ++ more) v (run-append terms b start ms more ∙ e) in
    (more, i, f, p, x)

pub what_goes_on_runs : (b : Bool) (ms : List Mark) → CanGoOn b ms → IsRunning (run terms b start ms)
what_goes_on_runs b ms (more, i, e, p, x) h =
    let f : done (holds e) ≡ stopped = sym (accepts b i e x) ∙ ap (run terms b start) p ∙ run-append terms b start ms more ∙ ap (λ s. run terms b s more) h ∙ run-stopped terms b more in
    cc

-- ---- law 3: what stands open

begun_opens : (st : List (Frame Term)) → Rattle.dh_syntax.specs.Bytes.BinaryItems.begun_item (one_more (lefts st)) ≡ lefts st
begun_opens [] = refl
begun_opens (f ∷ st) = refl

abbrev Counts : State Term → Open → Type 0
Counts stopped ns = ⊤
Counts s ns = opens s ≡ ns

settle_counts : (p : Place Term) (n : ℕ) (st : List (Frame Term)) → ((v : Value Term) → Counts (deliver terms v st) (closed (lefts st))) → Counts (settle terms p n st) (closed (n ∷ lefts st))
settle_counts p zero st h = by (result terms p)
  where
    by : (o : Option (Value Term)) → Counts (ended terms (λ u. deliver terms u st) o) (closed (lefts st))
    by (Some v) = h v
    by None = tt
settle_counts p (suc n) st h = refl

deliver_counts : (st : List (Frame Term)) (v : Value Term) → Counts (deliver terms v st) (closed (lefts st))
deliver_counts [] v = refl
deliver_counts (f ∷ st) v = settle_counts (fill terms f.place v) f.left st (deliver_counts st)

after_counts : (b : Bool) (k : Mark) (w : Want) (st : List (Frame Term)) → Counts (after terms b k (reading w st)) (after_mark k (one_more (lefts st)))
after_counts b (atom a) w st = by (atom_as terms b w a)
  where
    by : (o : Option (Value Term)) → Counts (take_atom terms o st) (closed (Rattle.dh_syntax.specs.Bytes.BinaryItems.begun_item (one_more (lefts st))))
    by (Some v) = subst (λ ns. Counts (deliver terms v st) (closed ns)) (sym (begun_opens st)) (deliver_counts st v)
    by None = tt
after_counts b (array n) w st = by (array_as terms w n)
  where
    by : (o : Option (Place Term)) → Counts (open_place terms o n st) (closed (n ∷ Rattle.dh_syntax.specs.Bytes.BinaryItems.begun_item (one_more (lefts st))))
    by (Some p) = subst (λ ns. Counts (settle terms p n st) (closed (n ∷ ns))) (sym (begun_opens st)) (settle_counts p n st (deliver_counts st))
    by None = tt
after_counts b (head.map n) w st = by (map_as terms w)
  where
    by : (o : Option (Place Term)) → Counts (open_place terms o (2 * n) st) (closed (2 * n ∷ Rattle.dh_syntax.specs.Bytes.BinaryItems.begun_item (one_more (lefts st))))
    by (Some p) = subst (λ ns. Counts (settle terms p (2 * n) st) (closed (2 * n ∷ ns))) (sym (begun_opens st)) (settle_counts p (2 * n) st (deliver_counts st))
    by None = tt
after_counts b (tag t) w st = by (tag_as terms w t)
  where
    by : (o : Option Want) → Counts (go_on terms o st) (one_more (lefts st))
    by (Some u) = refl
    by None = tt

-- a state that is not stopped has counted
counted_as : (s : State Term) (ns : Open) → Counts s ns → IsRunning s → opens s ≡ ns
counted_as (reading w st) ns h r = h
counted_as (done v) ns h r = h
counted_as stopped ns h r = absurd (r refl)

run_counts : (b : Bool) (ms : List Mark) (s : State Term) → IsRunning (run terms b s ms) → opens (run terms b s ms) ≡ after_marks ms (opens s)
run_counts b [] s r = refl
run_counts b (k ∷ ms) (reading w st) r =
    run_counts b ms (after terms b k (reading w st)) r
    ∙ ap (after_marks ms) (counted_as (after terms b k (reading w st)) _ (after_counts b k w st) (λ e. r (ap (λ s. run terms b s ms) e ∙ run-stopped terms b ms)))
run_counts b (k ∷ ms) (done v) r = absurd (r (run-stopped terms b ms))
run_counts b (k ∷ ms) stopped r = absurd (r (run-stopped terms b ms))

-- The machine counts what stands open as the definition does.
pub counts : (b : Bool) (ms : List Mark) → IsRunning (run terms b start ms) → opens (run terms b start ms) ≡ after_marks ms at_start
counts b ms r = run_counts b ms start r

length_lefts : (st : List (Frame Term)) → length (lefts st) ≡ suc (length st)
length_lefts [] = refl
length_lefts (f ∷ st) = ap suc (length_lefts st)

length_one_more : (ns : Open) → length (one_more ns) ≡ length ns
length_one_more [] = refl
length_one_more (n ∷ ns) = refl

pub opens_as_said : (k : Mark) (w : Want) (st : List (Frame Term)) → opens_with k st ≡ open_at k (opens (reading w st))
opens_as_said (atom a) w st = refl
opens_as_said (array n) w st = sym (length_one_more (lefts st) ∙ length_lefts st)
opens_as_said (head.map n) w st = sym (length_one_more (lefts st) ∙ length_lefts st)
opens_as_said (tag t) w st = refl

-- ---- numbers beyond their ranges

within_more : {B : Type 0} (c : Bool) (n : ℕ) (f : ℕ → Option B) (x : B) → (within false c n >>= f) ≡ Some x → (within true c n >>= f) ≡ Some x
within_more true n f x h = h
within_more false n f x h = cc

bignum_more : {B : Type 0} (bound : ℕ) (bs : List ℕ) (f : ℕ → Option B) (x : B) → (bignum false bound bs >>= f) ≡ Some x → (bignum true bound bs >>= f) ≡ Some x
bignum_more bound bs f x h = by (nat_lt (head.big_endian bs) bound) (nat_le (length bs) 16) h
  where
    by : (c d : Bool) → ((if c then (if d then Some (head.big_endian bs) else None) else None) >>= f) ≡ Some x → ((if c then (if d then Some (head.big_endian bs) else None) else Some (head.big_endian bs)) >>= f) ≡ Some x
    by true d h = h
    by false d h = cc

term_more : (a : Atom) (v : Value Term) → term_atom terms false a ≡ Some v → term_atom terms true a ≡ Some v
term_more (unsigned n) v h = within_more (nat_le n most_index) n (λ k. Some (holds (terms.leaf (record { name = codes "_"; index = k })))) v h
term_more (negative n) v h = h
term_more (octets n) v h = h
term_more (characters n) v h = h
term_more (simple n) v h = h

abbrev sign : ℕ → ℕ → Option ℤ
sign t n = if t == 2 then Some (pos n) else if t == 3 then Some (negsuc n) else None

atom_more : (w : Want) (a : Atom) (v : Value Term) → atom_as terms false w a ≡ Some v → atom_as terms true w a ≡ Some v
atom_more term a v h = term_more a v h
atom_more whole a v h = term_more a v h
atom_more nullable (unsigned n) v h = term_more (unsigned n) v h
atom_more index (unsigned n) v h = within_more (nat_le n most_index) n (λ k. Some (indexed k)) v h
atom_more big_natural (octets bs) v h = bignum_more (2 ^ 128) bs (λ n. Some (counted n)) v h
atom_more (big_integer t) (octets bs) v h =
    bind_assoc (bignum true (2 ^ 127) bs) (sign t) (λ z. Some (signed z)) ∙ bignum_more (2 ^ 127) bs (λ n. sign t n >>= λ z. Some (signed z)) v (sym (bind_assoc (bignum false (2 ^ 127) bs) (sign t) (λ z. Some (signed z))) ∙ h)
atom_more w a v h = h

-- what is taken is taken too where numbers may be beyond their ranges
pub after_more : (k : Mark) (s : State Term) → IsRunning (after terms false k s) → after terms true k s ≡ after terms false k s
after_more (atom a) (reading w st) r = by (atom_as terms false w a) refl r
  where
    by : (o : Option (Value Term)) → atom_as terms false w a ≡ o → IsRunning (take_atom terms o st) → take_atom terms (atom_as terms true w a) st ≡ take_atom terms (atom_as terms false w a) st
    by (Some v) e r = ap (λ o. take_atom terms o st) (atom_more w a v e) ∙ sym (ap (λ o. take_atom terms o st) e)
    by None e r = absurd (r refl)
after_more (array n) (reading w st) r = refl
after_more (head.map n) (reading w st) r = refl
after_more (tag t) (reading w st) r = refl
after_more k (done v) r = refl
after_more k stopped r = refl

pub run_more : (ms : List Mark) (s : State Term) → IsRunning (run terms false s ms) → run terms true s ms ≡ run terms false s ms
run_more [] s r = refl
run_more (k ∷ ms) s r =
    ap (λ s. run terms true s ms) (after_more k s (λ e. r (ap (λ s. run terms false s ms) e ∙ run-stopped terms false ms)))
    ∙ run_more ms (after terms false k s) r

-- a head that only ranges refuse is a number
pub data Wide (w : Want) (k : Mark) : Type 0 where
  small_number : (n : ℕ) → k ≡ atom (unsigned n) → is_big w ≡ false → Wide w k
  big_number : (bs : List ℕ) → k ≡ atom (octets bs) → is_big w ≡ true → Wide w k

atom_wide : (w : Want) (a : Atom) (v : Value Term) → atom_as terms false w a ≡ None → atom_as terms true w a ≡ Some v → Wide w (atom a)
atom_wide term (unsigned n) v h g = small_number n refl refl
atom_wide whole (unsigned n) v h g = small_number n refl refl
atom_wide nullable (unsigned n) v h g = small_number n refl refl
atom_wide index (unsigned n) v h g = small_number n refl refl
atom_wide big_natural (octets bs) v h g = big_number bs refl refl
atom_wide (big_integer t) (octets bs) v h g = big_number bs refl refl
atom_wide term (negative n) v h g = cc
atom_wide w a v h g = let e : None ≡ Some v = sym h ∙ g in cc

pub after_wide : (k : Mark) (w : Want) (st : List (Frame Term)) → after terms false k (reading w st) ≡ stopped → IsRunning (after terms true k (reading w st)) → Wide w k
after_wide (atom a) w st h r = by (atom_as terms false w a) (atom_as terms true w a) refl refl h r
  where
    by : (o p : Option (Value Term)) → atom_as terms false w a ≡ o → atom_as terms true w a ≡ p → take_atom terms o st ≡ stopped → IsRunning (take_atom terms p st) → Wide w (atom a)
    by None None e f h r = absurd (r refl)
    by None (Some v) e f h r = atom_wide w a v e f
    by (Some v) p e f h r = absurd (r (ap (λ o. take_atom terms o st) (sym f ∙ atom_more w a v e) ∙ h))
after_wide (array n) w st h r = absurd (r h)
after_wide (head.map n) w st h r = absurd (r h)
after_wide (tag t) w st h r = absurd (r h)

-- the string of a bignum is wanted only behind its tag
abbrev pub IsSmall : State Term → Type 0
IsSmall (reading w st) = is_big w ≡ false
IsSmall s = ⊤

want_small : (p : Place Term) (n : ℕ) → is_big (want p n) ≡ false
want_small (projected t) zero = refl
want_small (projected t) (suc n) = refl
want_small (segments h s host cs) zero = refl
want_small (segments h s host cs) (suc n) = refl
want_small (let_name bs) zero = refl
want_small (let_name bs) (suc n) = refl
want_small (rowing types) n = refl
want_small (rowing values) n = refl
want_small (rowing alternatives) n = refl
want_small (value true es x) n = refl
want_small (value false es x) n = refl
want_small p n = refl

settle_small : (p : Place Term) (n : ℕ) (st : List (Frame Term)) → ((v : Value Term) → IsSmall (deliver terms v st)) → IsSmall (settle terms p n st)
settle_small p zero st h = by (result terms p)
  where
    by : (o : Option (Value Term)) → IsSmall (ended terms (λ u. deliver terms u st) o)
    by (Some v) = h v
    by None = tt
settle_small p (suc n) st h = want_small p n

deliver_small : (st : List (Frame Term)) (v : Value Term) → IsSmall (deliver terms v st)
deliver_small [] v = tt
deliver_small (f ∷ st) v = settle_small (fill terms f.place v) f.left st (deliver_small st)

pub data Behind (k : Mark) (s : State Term) : Type 0 where
  small : IsSmall s → Behind k s
  behind_tag : (t : ℕ) → k ≡ tag t → Behind k s

pub after_behind : (b : Bool) (k : Mark) (s : State Term) → Behind k (after terms b k s)
after_behind b (atom a) (reading w st) = by (atom_as terms b w a)
  where
    by : (o : Option (Value Term)) → Behind (atom a) (take_atom terms o st)
    by (Some v) = small (deliver_small st v)
    by None = small tt
after_behind b (array n) (reading w st) = by (array_as terms w n)
  where
    by : (o : Option (Place Term)) → Behind (array n) (open_place terms o n st)
    by (Some p) = small (settle_small p n st (deliver_small st))
    by None = small tt
after_behind b (head.map n) (reading w st) = by (map_as terms w)
  where
    by : (o : Option (Place Term)) → Behind (head.map n) (open_place terms o (2 * n) st)
    by (Some p) = small (settle_small p (2 * n) st (deliver_small st))
    by None = small tt
after_behind b (tag t) (reading w st) = behind_tag t refl
after_behind b k (done v) = small tt
after_behind b k stopped = small tt
