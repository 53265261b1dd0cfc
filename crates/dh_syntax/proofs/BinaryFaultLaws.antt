-- What reading any bytes answers is one thing: an expression or one fault at one place.
use Rattle.std.specs.Prelude.{◌≡◌, ℕ, ◌<◌, nat_le, Bool, true, false, if◌then◌else◌, ◌⊎◌, IsTrue, List, [], ◌∷◌, ◌++◌, length, Some, Result, Ok, Err, refl}
use Rattle.std.proofs.Common.{sym, ◌∙◌, ap, subst, inl, inr, arith}
use Rattle.std.proofs.lemmas.Bool.{le-leb, leb-true}
use Rattle.std.proofs.lemmas.List.{append_assoc, append-nil}
use Rattle.dh_syntax.specs.declared.faults.DecodeFault.{DecodeFault}
use Rattle.dh_syntax.specs.declared.faults.DecodeFault.TheVariants as fault
use Rattle.dh_syntax.specs.Expressions.Arity.{has_some}
use Rattle.dh_syntax.specs.Bytes.BinaryFaults.{CanGoOn, BeginsNone, offset, Reached, HeadFails, IsNumber, Whole, NestsTooDeep, DecodesTo}
use Rattle.dh_syntax.specs.Limits.{most_open_items}
use Rattle.dh_syntax.specs.Bytes.BinaryHeads.{HeadFault, cut, indefinite, float, foreign_tag, too_wide, Mark, Marked, atom, tag, unsigned, octets, Begun, begun, begun_by, before_begun, mark_at}
use Rattle.dh_syntax.specs.Bytes.BinaryItems.{Item, item_marks, at_start, after_marks, open_at, opens_at_most}
use Rattle.dh_syntax.specs.Bytes.BinaryRead.{expression, Begins, Reads}
use Rattle.dh_syntax.specs.Expressions.Nesting.{nesting}
use Rattle.dh_syntax.specs.Limits.{most_nesting}
use Rattle.dh_syntax.specs.Expressions.Tree.{Term}
use Rattle.dh_syntax.proofs.BinaryDepth.{expression-depth}
use Rattle.dh_syntax.proofs.BinaryOpen.{after-whole, opens-whole, opens-next}
use Rattle.dh_syntax.proofs.BinaryReadLaws.{same_item, item_marks-one_to_one, goes_on_before, marks_in, after_in}

-- ---- heads of one list of bytes

begins_nil : (bytes after : List ℕ) → Begins bytes [] after → after ≡ bytes
begins_nil bytes after h = sym (ap after_in h)

-- the first head, and the others
abbrev Splits : List ℕ → Mark → List Mark → List ℕ → Type 0
Splits bytes m ms after = (rest : List ℕ) × (mark_at bytes ≡ Ok (record { mark = m; after = rest })) × Begins rest ms after

split_begun : (k : Marked) (r : Result Begun HeadFault) (m : Mark) (ms : List Mark) (after : List ℕ) → before_begun k.mark r ≡ Ok (record { marks = m ∷ ms; after = after })
    → (k.mark ≡ m) × (r ≡ Ok (record { marks = ms; after = after }))
split_begun k (Ok b) m ms after h =
    let e : k.mark ∷ b.marks ≡ m ∷ ms = ap marks_in h in
    let p : b.marks ≡ ms = cc in
    let q : b.after ≡ after = ap after_in h in
    (cc, ap (λ x. Ok (record { marks = x; after = b.after })) p ∙ ap (λ x. Ok (record { marks = ms; after = x })) q)
split_begun k (Err f) m ms after h = cc

split : (r : Result Marked HeadFault) (bytes : List ℕ) → mark_at bytes ≡ r → (m : Mark) (ms : List Mark) (after : List ℕ)
    → begun_by r (begun (length ms)) ≡ Ok (record { marks = m ∷ ms; after = after }) → Splits bytes m ms after
split (Ok k) bytes p m ms after h = let (q, g) = split_begun k (begun (length ms) k.after) m ms after h in (k.after, p ∙ ap (λ x. Ok (record { mark = x; after = k.after })) q, g)
split (Err f) bytes p m ms after h = cc

begins_cons : (bytes : List ℕ) (m : Mark) (ms : List Mark) (after : List ℕ) → Begins bytes (m ∷ ms) after → Splits bytes m ms after
begins_cons bytes m ms after h = split (mark_at bytes) bytes refl m ms after h

abbrev mark_in : Result Marked HeadFault → Mark
mark_in (Ok m) = m.mark
mark_in (Err f) = tag 0

abbrev rest_in : Result Marked HeadFault → List ℕ
rest_in (Ok m) = m.after
rest_in (Err f) = []

-- one list of heads goes on after another one
record Longer (ms : List Mark) (a : List ℕ) (ns : List Mark) (b : List ℕ) : Type 0 where
  mark : Mark
  rest : List ℕ
  more : List Mark
  longer : ns ≡ ms ++ mark ∷ more
  next : mark_at a ≡ Ok (record { mark = mark; after = rest })
  begins : Begins rest more b

abbrev Compared : List Mark → List ℕ → List Mark → List ℕ → Type 0
Compared ms a ns b = ((ms ≡ ns) × (a ≡ b)) ⊎ Longer ms a ns b ⊎ Longer ns b ms a

longer_cons : (m : Mark) (ms : List Mark) (a : List ℕ) (ns : List Mark) (b : List ℕ) → Longer ms a ns b → Longer (m ∷ ms) a (m ∷ ns) b
longer_cons m ms a ns b l = record { mark = l.mark; rest = l.rest; more = l.more; longer = ap (λ xs. m ∷ xs) l.longer; next = l.next; begins = l.begins }

compared_cons : (m : Mark) (ms : List Mark) (a : List ℕ) (ns : List Mark) (b : List ℕ) → Compared ms a ns b → Compared (m ∷ ms) a (m ∷ ns) b
compared_cons m ms a ns b (inl (p, q)) = inl (ap (λ xs. m ∷ xs) p, q)
compared_cons m ms a ns b (inr (inl l)) = inr (inl (longer_cons m ms a ns b l))
compared_cons m ms a ns b (inr (inr l)) = inr (inr (longer_cons m ns b ms a l))

-- the first heads of the same bytes are the same, as far as both go
compare : (bytes : List ℕ) (ms : List Mark) (a : List ℕ) (ns : List Mark) (b : List ℕ) → Begins bytes ms a → Begins bytes ns b → Compared ms a ns b
compare bytes [] a [] b h g = inl (refl, begins_nil bytes a h ∙ sym (begins_nil bytes b g))
compare bytes [] a (n ∷ ns) b h g =
    let (rest, p, g₁) = begins_cons bytes n ns b g in
    inr (inl (record { mark = n; rest = rest; more = ns; longer = refl; next = ap mark_at (begins_nil bytes a h) ∙ p; begins = g₁ }))
compare bytes (m ∷ ms) a [] b h g =
    let (rest, p, h₁) = begins_cons bytes m ms a h in
    inr (inr (record { mark = m; rest = rest; more = ms; longer = refl; next = ap mark_at (begins_nil bytes b g) ∙ p; begins = h₁ }))
compare bytes (m ∷ ms) a (n ∷ ns) b h g =
    let (r, p, h₁) = begins_cons bytes m ms a h in
    let (s, q, g₁) = begins_cons bytes n ns b g in
    let e : m ≡ n = ap mark_in (sym p ∙ q) in
    let f : r ≡ s = ap rest_in (sym p ∙ q) in
    subst (λ x. Compared (m ∷ ms) a (x ∷ ns) b) e (compared_cons m ms a ns b (compare r ms a ns b h₁ (subst (λ x. Begins x ns b) (sym f) g₁)))

-- ---- what stands next

abbrev head_fault : HeadFault → ℕ → DecodeFault
head_fault cut at = fault.Cut at
head_fault indefinite at = fault.Indefinite at
head_fault float at = fault.Float at
head_fault foreign_tag at = fault.Tag at
head_fault too_wide at = fault.Wide at

-- the fault of the head that stands next
data Next (bytes : List ℕ) (ms : List Mark) (a : List ℕ) (f : DecodeFault) : Type 0 where
  bad_head : (h : HeadFault) → mark_at a ≡ Err h → f ≡ head_fault h (offset bytes a) → Next bytes ms a f
  wide_number : (number : List Mark) (rest : List ℕ) → IsNumber number → Begins a number rest → CanGoOn true (ms ++ number) → ¬ CanGoOn false (ms ++ number) → f ≡ fault.Wide (offset bytes a) → Next bytes ms a f
  misfit : (m : Mark) (rest : List ℕ) → Begins a (m ∷ []) rest → BeginsNone (ms ++ m ∷ []) → f ≡ fault.Shape (offset bytes a) → Next bytes ms a f
  too_open : (m : Mark) (rest : List ℕ) → Begins a (m ∷ []) rest → CanGoOn false (ms ++ m ∷ []) → most_open_items < open_at m (after_marks ms at_start) → f ≡ fault.TooNested → Next bytes ms a f

-- the head that stands next
abbrev IsNext : List ℕ → Mark → Type 0
IsNext a m = (rest : List ℕ) × (mark_at a ≡ Ok (record { mark = m; after = rest }))

next_of : (a : List ℕ) (m : Mark) (ms : List Mark) (rest : List ℕ) → Begins a (m ∷ ms) rest → IsNext a m
next_of a m ms rest h = let (r, p, g) = begins_cons a m ms rest h in (r, p)

next_same : (a : List ℕ) (m n : Mark) → IsNext a m → IsNext a n → m ≡ n
next_same a m n (r, p) (s, q) = ap mark_in (sym p ∙ q)

no_next : (a : List ℕ) (m : Mark) (h : HeadFault) → IsNext a m → mark_at a ≡ Err h → ⊥
no_next a m h (r, p) q = cc

-- heads that can go on could go on with the first of them
goes_on_with : (beyond : Bool) (ms : List Mark) (m : Mark) (more : List Mark) → CanGoOn beyond (ms ++ m ∷ more) → CanGoOn beyond (ms ++ m ∷ [])
goes_on_with beyond ms m more g = goes_on_before beyond (ms ++ m ∷ []) more (subst (CanGoOn beyond) (sym (append_assoc ms (m ∷ []) more)) g)

-- a number is an index, or a bignum
abbrev Shown : List Mark → Type 0
Shown number = ((n : ℕ) × (number ≡ atom (unsigned n) ∷ [])) ⊎ ((t : ℕ) × (bs : List ℕ) × (number ≡ tag t ∷ atom (octets bs) ∷ []))

shown : (number : List Mark) → IsNumber number → Shown number
shown (atom (unsigned n) ∷ []) h = inl (n, refl)
shown (tag t ∷ atom (octets bs) ∷ []) h = inr (t, bs, refl)
shown _ h = absurd h

-- the first head of a number that stands next
first_of : (a : List ℕ) (number : List Mark) (rest : List ℕ) → Shown number → Begins a number rest → (m : Mark) × (more : List Mark) × (number ≡ m ∷ more) × IsNext a m
first_of a number rest (inl (n, p)) g = (atom (unsigned n), [], p, next_of a (atom (unsigned n)) [] rest (subst (λ x. Begins a x rest) p g))
first_of a number rest (inr (t, bs, p)) g =
    (tag t, atom (octets bs) ∷ [], p, next_of a (tag t) (atom (octets bs) ∷ []) rest (subst (λ x. Begins a x rest) p g))

-- a number that is too wide, and a head that fits nowhere or opens too many arrays
not_misfit : (ms : List Mark) (a : List ℕ) (number : List Mark) (rest : List ℕ) → Shown number → Begins a number rest → CanGoOn true (ms ++ number) → (m : Mark) → IsNext a m → BeginsNone (ms ++ m ∷ []) → ⊥
not_misfit ms a number rest v g fits m k none =
    let (n, more, p, l) = first_of a number rest v g in
    let q : m ≡ n = next_same a m n k l in
    let c : CanGoOn true (ms ++ n ∷ []) = goes_on_with true ms n more (subst (λ x. CanGoOn true (ms ++ x)) p fits) in
    none true (subst (λ x. CanGoOn true (ms ++ x ∷ [])) (sym q) c)

not_too_open : (ms : List Mark) (a : List ℕ) (number : List Mark) (rest : List ℕ) → Shown number → Begins a number rest → ¬ CanGoOn false (ms ++ number) → (m : Mark) → IsNext a m → CanGoOn false (ms ++ m ∷ []) → most_open_items < open_at m (after_marks ms at_start) → ⊥
not_too_open ms a number rest (inl (n, p)) g wide m k sound many =
    let l = next_of a (atom (unsigned n)) [] rest (subst (λ x. Begins a x rest) p g) in
    let q : m ≡ atom (unsigned n) = next_same a m (atom (unsigned n)) k l in
    wide (subst (λ x. CanGoOn false (ms ++ x)) (ap (λ x. x ∷ []) q ∙ sym p) sound)
not_too_open ms a number rest (inr (t, bs, p)) g wide m k sound many =
    let l = next_of a (tag t) (atom (octets bs) ∷ []) rest (subst (λ x. Begins a x rest) p g) in
    let q : m ≡ tag t = next_same a m (tag t) k l in
    let z : most_open_items < open_at (tag t) (after_marks ms at_start) = subst (λ x. most_open_items < open_at x (after_marks ms at_start)) q many in
    omega arith

number_head : (a : List ℕ) (number : List Mark) (rest : List ℕ) (h : HeadFault) → Shown number → Begins a number rest → mark_at a ≡ Err h → ⊥
number_head a number rest h v g p = let (m, more, q, l) = first_of a number rest v g in no_next a m h l p

fault_of : Result Marked HeadFault → HeadFault
fault_of (Ok m) = cut
fault_of (Err f) = f

-- one head has one fault
same_next : (bytes : List ℕ) (ms : List Mark) (a : List ℕ) (f g : DecodeFault) → Next bytes ms a f → Next bytes ms a g → f ≡ g
unfolding fault_of
same_next bytes ms a f g (bad_head h p e) (bad_head k q d) = let c : h ≡ k = ap fault_of (sym p ∙ q) in e ∙ ap (λ x. head_fault x (offset bytes a)) c ∙ sym d
same_next bytes ms a f g (bad_head h p e) (wide_number n rest i b c w d) = absurd (number_head a n rest h (shown n i) b p)
same_next bytes ms a f g (bad_head h p e) (misfit m rest b c d) = absurd (no_next a m h (next_of a m [] rest b) p)
same_next bytes ms a f g (bad_head h p e) (too_open m rest b c w d) = absurd (no_next a m h (next_of a m [] rest b) p)
same_next bytes ms a f g (wide_number n rest i b c w e) (bad_head h p d) = absurd (number_head a n rest h (shown n i) b p)
same_next bytes ms a f g (wide_number n rest i b c w e) (wide_number n' rest' i' b' c' w' d) = e ∙ sym d
same_next bytes ms a f g (wide_number n rest i b c w e) (misfit m r b' c' d) = absurd (not_misfit ms a n rest (shown n i) b c m (next_of a m [] r b') c')
same_next bytes ms a f g (wide_number n rest i b c w e) (too_open m r b' c' w' d) = absurd (not_too_open ms a n rest (shown n i) b w m (next_of a m [] r b') c' w')
same_next bytes ms a f g (misfit m r b c e) (bad_head h p d) = absurd (no_next a m h (next_of a m [] r b) p)
same_next bytes ms a f g (misfit m r b c e) (wide_number n rest i b' c' w d) = absurd (not_misfit ms a n rest (shown n i) b' c' m (next_of a m [] r b) c)
same_next bytes ms a f g (misfit m r b c e) (misfit m' r' b' c' d) = e ∙ sym d
same_next bytes ms a f g (misfit m r b c e) (too_open m' r' b' c' w d) =
    let q = next_same a m' m (next_of a m' [] r' b') (next_of a m [] r b) in
    absurd (c false (subst (λ x. CanGoOn false (ms ++ x ∷ [])) q c'))
same_next bytes ms a f g (too_open m r b c w e) (bad_head h p d) = absurd (no_next a m h (next_of a m [] r b) p)
same_next bytes ms a f g (too_open m r b c w e) (wide_number n rest i b' c' w' d) = absurd (not_too_open ms a n rest (shown n i) b' w' m (next_of a m [] r b) c w)
same_next bytes ms a f g (too_open m r b c w e) (misfit m' r' b' c' d) =
    let q = next_same a m m' (next_of a m [] r b) (next_of a m' [] r' b') in
    absurd (c' false (subst (λ x. CanGoOn false (ms ++ x ∷ [])) q c))
same_next bytes ms a f g (too_open m r b c w e) (too_open m' r' b' c' w' d) = e ∙ sym d

-- ---- nothing stands behind a fault

-- the bytes of a bignum whose tag is the last head
abbrev Pending : List Mark → List ℕ → Type 0
Pending ns b = (bs : List ℕ) → IsNext b (atom (octets bs)) → CanGoOn true (ns ++ atom (octets bs) ∷ []) → ⊥

behind_bignum : (ms : List Mark) (a : List ℕ) (ns : List Mark) (b : List ℕ) (m : Mark) (r : List ℕ) (more : List Mark) → ns ≡ ms ++ m ∷ more → Begins r more b → CanGoOn false ns → Pending ns b
    → (t : ℕ) (bs : List ℕ) → m ≡ tag t → IsNext r (atom (octets bs)) → CanGoOn true (ms ++ tag t ∷ atom (octets bs) ∷ []) → ¬ CanGoOn false (ms ++ tag t ∷ atom (octets bs) ∷ []) → ⊥
behind_bignum ms a ns b m r [] p g sound pending t bs e next fits wide =
    let q : ns ≡ ms ++ tag t ∷ [] = p ∙ ap (λ x. ms ++ x ∷ []) e in
    let c : CanGoOn true (ns ++ atom (octets bs) ∷ []) = subst (CanGoOn true) (sym (append_assoc ms (tag t ∷ []) (atom (octets bs) ∷ [])) ∙ ap (λ x. x ++ atom (octets bs) ∷ []) (sym q)) fits in
    pending bs (subst (λ x. IsNext x (atom (octets bs))) (sym (begins_nil r b g)) next) c
behind_bignum ms a ns b m r (n ∷ more) p g sound pending t bs e next fits wide =
    let d : n ≡ atom (octets bs) = next_same r n (atom (octets bs)) (next_of r n more b g) next in
    let q : ns ≡ ms ++ tag t ∷ atom (octets bs) ∷ more = p ∙ ap (λ x. ms ++ x ∷ n ∷ more) e ∙ ap (λ x. ms ++ tag t ∷ x ∷ more) d in
    wide (goes_on_before false (ms ++ tag t ∷ atom (octets bs) ∷ []) more (subst (CanGoOn false) (q ∙ sym (append_assoc ms (tag t ∷ atom (octets bs) ∷ []) more)) sound))

behind_number : (ms : List Mark) (a : List ℕ) (ns : List Mark) (b : List ℕ) (n : List Mark) (rest : List ℕ) → Shown n → Begins a n rest → CanGoOn true (ms ++ n) → ¬ CanGoOn false (ms ++ n)
    → Longer ms a ns b → CanGoOn false ns → Pending ns b → ⊥
behind_number ms a ns b n rest (inl (k, p)) g fits wide l sound pending =
    let q = next_same a l.mark (atom (unsigned k)) (l.rest, l.next) (next_of a (atom (unsigned k)) [] rest (subst (λ x. Begins a x rest) p g)) in
    wide (subst (λ x. CanGoOn false (ms ++ x)) (ap (λ x. x ∷ []) q ∙ sym p) (goes_on_with false ms l.mark l.more (subst (CanGoOn false) l.longer sound)))
behind_number ms a ns b n rest (inr (t, bs, p)) g fits wide l sound pending =
    let (r, x, g₁) = begins_cons a (tag t) (atom (octets bs) ∷ []) rest (subst (λ y. Begins a y rest) p g) in
    let e : l.mark ≡ tag t = ap mark_in (sym l.next ∙ x) in
    let d : l.rest ≡ r = ap rest_in (sym l.next ∙ x) in
    let next : IsNext l.rest (atom (octets bs)) = subst (λ y. IsNext y (atom (octets bs))) (sym d) (next_of r (atom (octets bs)) [] rest g₁) in
    behind_bignum ms a ns b l.mark l.rest l.more l.longer l.begins sound pending t bs e next
    (subst (λ y. CanGoOn true (ms ++ y)) p fits) (λ c. wide (subst (λ y. CanGoOn false (ms ++ y)) (sym p) c))

behind : (bytes : List ℕ) (ms : List Mark) (a : List ℕ) (f : DecodeFault) (ns : List Mark) (b : List ℕ) → Next bytes ms a f → Longer ms a ns b
    → CanGoOn false ns → IsTrue (opens_at_most most_open_items ns at_start) → Pending ns b → ⊥
behind bytes ms a f ns b (bad_head h p e) l sound within pending = no_next a l.mark h (l.rest, l.next) p
behind bytes ms a f ns b (misfit m r g none e) l sound within pending =
    let q = next_same a l.mark m (l.rest, l.next) (next_of a m [] r g) in
    none false (subst (λ x. CanGoOn false (ms ++ x ∷ [])) q (goes_on_with false ms l.mark l.more (subst (CanGoOn false) l.longer sound)))
behind bytes ms a f ns b (too_open m r g c w e) l sound within pending =
    let q = next_same a m l.mark (next_of a m [] r g) (l.rest, l.next) in
    let o = opens-next most_open_items ms l.mark l.more at_start (subst (λ x. opens_at_most most_open_items x at_start ≡ true) l.longer within) in
    let z : most_open_items < open_at l.mark (after_marks ms at_start) = subst (λ x. most_open_items < open_at x (after_marks ms at_start)) q w in
    omega arith
behind bytes ms a f ns b (wide_number n rest i g c w e) l sound within pending = behind_number ms a ns b n rest (shown n i) g c w l sound pending

-- ---- one answer

-- the reading stops at a head
record Stop (bytes : List ℕ) (f : DecodeFault) : Type 0 where
  ms : List Mark
  a : List ℕ
  reached : Reached bytes ms a
  next : Next bytes ms a f

-- the reading comes to the end of an item
end_of : List ℕ → Term → List ℕ → Result Term DecodeFault
end_of bytes e [] = if nat_le (nesting e) most_nesting then Ok e else Err fault.TooNested
end_of bytes e (b ∷ bs) = Err (fault.Rest (offset bytes (b ∷ bs)))

record End (bytes : List ℕ) (r : Result Term DecodeFault) : Type 0 where
  e : Term
  a : List ℕ
  whole : Whole bytes e a
  answer : r ≡ end_of bytes e a

abbrev Outcome : List ℕ → Result Term DecodeFault → Type 0
Outcome bytes r = ((f : DecodeFault) × Stop bytes f × (r ≡ Err f)) ⊎ End bytes r

head_stop : (bytes : List ℕ) (h : HeadFault) (at : ℕ) → HeadFails bytes h at → Stop bytes (head_fault h at)
head_stop bytes h at d = record { ms = d.ms; a = d.after; reached = d.reached; next = bad_head h d.fails (ap (head_fault h) d.place) }

reads_end : (bytes : List ℕ) (e : Term) → Reads bytes e → End bytes (Ok e)
unfolding end_of
reads_end bytes e (i, h, x, n) =
    let d = expression-depth false i e x in
    let w = opens-whole most_open_items i (omega arith) in
    record { e = e; a = []; whole = record { item = i; begins = h; is_expression = x; within = w }; answer = rw (le-leb (nesting e) most_nesting n) }

left_answer : (bytes : List ℕ) (e : Term) (a : List ℕ) (at : ℕ) → ¬ (a ≡ []) → at ≡ offset bytes a → Err (fault.Rest at) ≡ end_of bytes e a
unfolding end_of
left_answer bytes e [] at n p = absurd (n refl)
left_answer bytes e (b ∷ bs) at n p = ap (λ x. Err (fault.Rest x)) p

deep_answer : (e : Term) (c : Bool) → nat_le (nesting e) most_nesting ≡ c → most_nesting < nesting e → Err fault.TooNested ≡ (if c then Ok e else Err fault.TooNested)
deep_answer e true p h = let q = leb-true (nesting e) most_nesting p in absurd (omega arith)
deep_answer e false p h = refl

deep_end : (bytes : List ℕ) → NestsTooDeep bytes → End bytes (Err fault.TooNested)
unfolding end_of
deep_end bytes d = record { e = d.e; a = []; whole = d.whole; answer = deep_answer d.e (nat_le (nesting d.e) most_nesting) refl d.deep }

outcome_of : (bytes : List ℕ) (r : Result Term DecodeFault) → DecodesTo bytes r → Outcome bytes r
outcome_of bytes (Ok e) d = inr (reads_end bytes e d)
outcome_of bytes (Err (fault.Cut at)) d = inl (fault.Cut at, head_stop bytes cut at d, refl)
outcome_of bytes (Err (fault.Indefinite at)) d = inl (fault.Indefinite at, head_stop bytes indefinite at d, refl)
outcome_of bytes (Err (fault.Float at)) d = inl (fault.Float at, head_stop bytes float at d, refl)
outcome_of bytes (Err (fault.Tag at)) d = inl (fault.Tag at, head_stop bytes foreign_tag at d, refl)
outcome_of bytes (Err (fault.Wide at)) (inl d) = inl (fault.Wide at, head_stop bytes too_wide at d, refl)
outcome_of bytes (Err (fault.Wide at)) (inr d) =
    inl (fault.Wide at, record { ms = d.ms; a = d.after; reached = d.reached; next = wide_number d.number d.rest d.is_number d.next d.fits d.wide (ap fault.Wide d.place) }, refl)
outcome_of bytes (Err (fault.Shape at)) d =
    inl (fault.Shape at, record { ms = d.ms; a = d.after; reached = d.reached; next = misfit d.mark d.rest d.next d.misfit (ap fault.Shape d.place) }, refl)
outcome_of bytes (Err (fault.Rest at)) d = inr (record { e = d.e; a = d.after; whole = d.whole; answer = left_answer bytes d.e d.after at d.left d.place })
outcome_of bytes (Err fault.TooNested) (inl d) =
    inl (fault.TooNested, record { ms = d.ms; a = d.after; reached = d.reached; next = too_open d.mark d.rest d.next d.sound d.too_many refl }, refl)
outcome_of bytes (Err fault.TooNested) (inr d) = inr (deep_end bytes d)
outcome_of bytes (Err fault.Memory) d = absurd d

-- no item goes on behind its end
no_longer : (beyond : Bool) (i : Item) (m : Mark) (more : List Mark) → CanGoOn beyond (item_marks i ++ m ∷ more) → ⊥
no_longer beyond i m more (rest, j, e, h, x) =
    let (p, q) = same_item j i [] (m ∷ more ++ rest) (append-nil (item_marks j) ∙ h ∙ append_assoc (item_marks i) (m ∷ more) rest) in
    cc

pending_next : (bytes : List ℕ) (ms : List Mark) (a : List ℕ) (f : DecodeFault) → Next bytes ms a f → Pending ms a
pending_next bytes ms a f (bad_head h p e) bs k c = no_next a (atom (octets bs)) h k p
pending_next bytes ms a f (misfit m r g none e) bs k c =
    let q = next_same a (atom (octets bs)) m k (next_of a m [] r g) in
    none true (subst (λ x. CanGoOn true (ms ++ x ∷ [])) q c)
pending_next bytes ms a f (too_open m r g s w e) bs k c =
    let q = next_same a m (atom (octets bs)) (next_of a m [] r g) k in
    let z : most_open_items < open_at (atom (octets bs)) (after_marks ms at_start) = subst (λ x. most_open_items < open_at x (after_marks ms at_start)) q w in
    omega arith
pending_next bytes ms a f (wide_number n r i g c' w e) bs k c = by_shown (shown n i)
  where
    by_shown : Shown n → ⊥
    by_shown (inl (j, p)) = let q = next_same a (atom (unsigned j)) (atom (octets bs)) (next_of a (atom (unsigned j)) [] r (subst (λ x. Begins a x r) p g)) k in cc
    by_shown (inr (t, cs, p)) = let q = next_same a (tag t) (atom (octets bs)) (next_of a (tag t) (atom (octets cs) ∷ []) r (subst (λ x. Begins a x r) p g)) k in cc

stop_behind_stop : (bytes : List ℕ) (f g : DecodeFault) (s : Stop bytes f) (t : Stop bytes g) → Longer s.ms s.a t.ms t.a → ⊥
stop_behind_stop bytes f g s t l = behind bytes s.ms s.a f t.ms t.a s.next l t.reached.sound t.reached.within (pending_next bytes t.ms t.a g t.next)

compared_stops : (bytes : List ℕ) (f g : DecodeFault) (s : Stop bytes f) (t : Stop bytes g) → Compared s.ms s.a t.ms t.a → f ≡ g
compared_stops bytes f g s t (inl (p, q)) =
    same_next bytes t.ms t.a f g (subst (λ x. Next bytes t.ms x f) q (subst (λ x. Next bytes x s.a f) p s.next)) t.next
compared_stops bytes f g s t (inr (inl l)) = absurd (stop_behind_stop bytes f g s t l)
compared_stops bytes f g s t (inr (inr l)) = absurd (stop_behind_stop bytes g f t s l)

two_stops : (bytes : List ℕ) (f g : DecodeFault) → Stop bytes f → Stop bytes g → f ≡ g
two_stops bytes f g s t = compared_stops bytes f g s t (compare bytes s.ms s.a t.ms t.a s.reached.begins t.reached.begins)

-- a whole item can go on by itself
whole_goes_on : (bytes : List ℕ) (e : Term) (a : List ℕ) (w : Whole bytes e a) → CanGoOn false (item_marks w.item)
whole_goes_on bytes e a w = ([], w.item, e, sym (append-nil (item_marks w.item)), w.is_expression)

compared_stop_end : (bytes : List ℕ) (f : DecodeFault) (r : Result Term DecodeFault) (s : Stop bytes f) (t : End bytes r) → Compared s.ms s.a (item_marks t.whole.item) t.a → ⊥
compared_stop_end bytes f r s t (inl (p, q)) =
    let u : has_some (after_marks (item_marks t.whole.item) at_start) ≡ true = subst (λ x. has_some (after_marks x at_start) ≡ true) p s.reached.unfinished in
    let v : has_some (after_marks (item_marks t.whole.item) at_start) ≡ false = ap has_some (after-whole t.whole.item) in
    cc
compared_stop_end bytes f r s t (inr (inl l)) =
    behind bytes s.ms s.a f (item_marks t.whole.item) t.a s.next l (whole_goes_on bytes t.e t.a t.whole) t.whole.within (λ bs k c. no_longer true t.whole.item (atom (octets bs)) [] c)
compared_stop_end bytes f r s t (inr (inr l)) = no_longer false t.whole.item l.mark l.more (subst (CanGoOn false) l.longer s.reached.sound)

stop_and_end : (bytes : List ℕ) (f : DecodeFault) (r : Result Term DecodeFault) → Stop bytes f → End bytes r → ⊥
stop_and_end bytes f r s t = compared_stop_end bytes f r s t (compare bytes s.ms s.a (item_marks t.whole.item) t.a s.reached.begins t.whole.begins)

compared_ends : (bytes : List ℕ) (r s : Result Term DecodeFault) (d : End bytes r) (e : End bytes s) → Compared (item_marks d.whole.item) d.a (item_marks e.whole.item) e.a → r ≡ s
compared_ends bytes r s d e (inl (p, q)) =
    let i : d.whole.item ≡ e.whole.item = item_marks-one_to_one d.whole.item e.whole.item p in
    let x : expression false e.whole.item ≡ Some d.e = subst (λ j. expression false j ≡ Some d.e) i d.whole.is_expression in
    let y : expression false e.whole.item ≡ Some e.e = e.whole.is_expression in
    let z : d.e ≡ e.e = cc in
    d.answer ∙ ap (λ k. end_of bytes k d.a) z ∙ ap (end_of bytes e.e) q ∙ sym e.answer
compared_ends bytes r s d e (inr (inl l)) = absurd (no_longer false d.whole.item l.mark l.more (subst (CanGoOn false) l.longer (whole_goes_on bytes e.e e.a e.whole)))
compared_ends bytes r s d e (inr (inr l)) = absurd (no_longer false e.whole.item l.mark l.more (subst (CanGoOn false) l.longer (whole_goes_on bytes d.e d.a d.whole)))

two_ends : (bytes : List ℕ) (r s : Result Term DecodeFault) → End bytes r → End bytes s → r ≡ s
two_ends bytes r s d e = compared_ends bytes r s d e (compare bytes (item_marks d.whole.item) d.a (item_marks e.whole.item) e.a d.whole.begins e.whole.begins)

two_outcomes : (bytes : List ℕ) (r s : Result Term DecodeFault) → Outcome bytes r → Outcome bytes s → r ≡ s
two_outcomes bytes r s (inl (f, d, p)) (inl (g, e, q)) = p ∙ ap Err (two_stops bytes f g d e) ∙ sym q
two_outcomes bytes r s (inl (f, d, p)) (inr e) = absurd (stop_and_end bytes f s d e)
two_outcomes bytes r s (inr d) (inl (g, e, q)) = absurd (stop_and_end bytes g r e d)
two_outcomes bytes r s (inr d) (inr e) = two_ends bytes r s d e

-- Reading any bytes answers one thing.
pub decodes-unique : (bytes : List ℕ) (r s : Result Term DecodeFault) → DecodesTo bytes r → DecodesTo bytes s → r ≡ s
decodes-unique bytes r s d e = two_outcomes bytes r s (outcome_of bytes r d) (outcome_of bytes s e)
