-- Heads that stand one after another.
use Rattle.std.specs.Prelude.{◌≡◌, ℕ, zero, suc, ◌==◌, ◌<◌, ◌≤◌, ◌&&◌, nat_lt, nat_le, Bool, true, false, if◌then◌else◌, List, [], ◌∷◌, ◌++◌, length, take, drop, not, ◌/◌, ◌%◌, Result, Ok, Err, refl}
use Rattle.std.proofs.Common.{◌∙◌, ap, subst, arith}
use Rattle.dh_syntax.specs.Bytes.BinaryHeads.{HeadFault, Head, head_at, head_by, big_endian, long_head, known, is_known_tag, Mark, Marked, marked, mark_of, mark_at, mark_by, string_at, Atom, octets, characters, Begun, begun, begun_by, before_begun}
use Rattle.dh_syntax.specs.Bytes.BinaryItems.{Open, after_mark, after_marks, open_at, opens_at_most}
use Rattle.dh_syntax.specs.Bytes.BinaryRead.{Begins}
use Rattle.dh_syntax.proofs.BinaryReadLaws.{marks_in, after_in}

-- ---- one more head

split_begun : (k : Marked) (r : Result Begun HeadFault) (m : Mark) (ms : List Mark) (after : List ℕ) → before_begun k.mark r ≡ Ok (record { marks = m ∷ ms; after = after })
    → (k.mark ≡ m) × (r ≡ Ok (record { marks = ms; after = after }))
split_begun k (Ok b) m ms after h =
    let e : k.mark ∷ b.marks ≡ m ∷ ms = ap marks_in h in
    let p : b.marks ≡ ms = cc in
    let q : b.after ≡ after = ap after_in h in
    (cc, ap (λ x. Ok (record { marks = x; after = b.after })) p ∙ ap (λ x. Ok (record { marks = ms; after = x })) q)
split_begun k (Err f) m ms after h = cc

join_begun : (k : Mark) (r : Result Begun HeadFault) (m : Mark) (ms : List Mark) (after : List ℕ) → k ≡ m → r ≡ Ok (record { marks = ms; after = after }) → before_begun k r ≡ Ok (record { marks = m ∷ ms; after = after })
join_begun k r m ms after p q = ap (before_begun k) q ∙ ap (λ x. Ok (record { marks = x ∷ ms; after = after })) p

pub begins_one : (a : List ℕ) (k : Marked) → mark_at a ≡ Ok k → Begins a (k.mark ∷ []) k.after
begins_one a k h = ap (λ r. begun_by r (λ x. begun 0 x)) h

more_by : (r : Result Marked HeadFault) (m : Mark) (ms ns : List Mark) (a c : List ℕ) → ((bytes : List ℕ) → Begins bytes ms a → Begins bytes ns c)
    → begun_by r (λ x. begun (length ms) x) ≡ Ok (record { marks = m ∷ ms; after = a }) → begun_by r (λ x. begun (length ns) x) ≡ Ok (record { marks = m ∷ ns; after = c })
more_by (Ok k) m ms ns a c h e =
    let (p, q) = split_begun k (begun (length ms) k.after) m ms a e in
    join_begun k.mark (begun (length ns) k.after) m ns c p (h k.after q)
more_by (Err f) m ms ns a c h e = cc

pub begins_more : (bytes : List ℕ) (ms : List Mark) (a : List ℕ) (k : Marked) → Begins bytes ms a → mark_at a ≡ Ok k → Begins bytes (ms ++ k.mark ∷ []) k.after
begins_more bytes [] a k h e = begins_one bytes k (ap mark_at (ap after_in h) ∙ e)
begins_more bytes (m ∷ ms) a k h e = more_by (mark_at bytes) m ms (ms ++ k.mark ∷ []) a k.after (λ x g. begins_more x ms a k g e) h

pub after_marks-append : (ms ns : List Mark) (os : Open) → after_marks (ms ++ ns) os ≡ after_marks ns (after_marks ms os)
after_marks-append [] ns os = refl
after_marks-append (m ∷ ms) ns os = after_marks-append ms ns (after_mark m os)

both : (a c : Bool) → a ≡ true → c ≡ true → (a && c) ≡ true
both true c h k = k
both false c h k = h

left_of : (a c : Bool) → (a && c) ≡ true → a ≡ true
left_of true c h = refl
left_of false c h = h

right_of : (a c : Bool) → (a && c) ≡ true → c ≡ true
right_of true c h = h
right_of false c h = cc

pub opens_more : (most : ℕ) (ms : List Mark) (m : Mark) (os : Open) → opens_at_most most ms os ≡ true → nat_le (open_at m (after_marks ms os)) most ≡ true → opens_at_most most (ms ++ m ∷ []) os ≡ true
opens_more most [] m os h g = both (nat_le (open_at m os) most) true g refl
opens_more most (k ∷ ms) m os h g =
    both (nat_le (open_at k os) most) _ (left_of (nat_le (open_at k os) most) _ h) (opens_more most ms m (after_mark k os) (right_of (nat_le (open_at k os) most) _ h) g)

-- ---- each head takes a byte

drop_shorter : (n : ℕ) (bs : List ℕ) → length (drop n bs) ≤ length bs
drop_shorter zero bs = omega arith
drop_shorter (suc n) [] = omega arith
drop_shorter (suc n) (b ∷ bs) = let h = drop_shorter n bs in omega arith

pick : {A E G : Type 0} {x y : Result A E} {a : A} (c : Bool) → (x ≡ Ok a → G) → (y ≡ Ok a → G) → (if c then x else y) ≡ Ok a → G
pick true f g h = f h
pick false f g h = g h

head_after : Result Head HeadFault → List ℕ
head_after (Ok h) = h.after
head_after (Err f) = []

known_shorter : (g h : Head) (n : ℕ) → length g.after ≤ n → known g ≡ Ok h → length h.after ≤ n
unfolding head_after
known_shorter g h n l = pick (g.major == 6 && not (is_known_tag g.value)) (λ e. cc) (λ (e : Ok g ≡ Ok h). let f : g.after ≡ h.after = ap head_after e in subst (λ xs. length xs ≤ n) f l)

long_shorter : (major n : ℕ) (bs : List ℕ) (h : Head) → long_head major n bs ≡ Ok h → length h.after ≤ length bs
long_shorter major n bs h =
    pick (nat_lt (length bs) n) (λ e. cc) (pick (major == 7 && nat_lt 1 n) (λ e. cc) (known_shorter (record { major = major; value = big_endian (take n bs); after = drop n bs }) h (length bs) (drop_shorter n bs)))

by_shorter : (major low : ℕ) (bs : List ℕ) (h : Head) → head_by major low bs ≡ Ok h → length h.after ≤ length bs
by_shorter major low bs h =
    pick (nat_lt low 24) (known_shorter (record { major = major; value = low; after = bs }) h (length bs) (omega arith))
    (pick (low == 24) (long_shorter major 1 bs h) (pick (low == 25) (long_shorter major 2 bs h) (pick (low == 26) (long_shorter major 4 bs h) (pick (low == 27) (long_shorter major 8 bs h) (pick (low == 31) (λ e. cc) (λ e. cc))))))

mark_after : Result Marked HeadFault → List ℕ
mark_after (Ok h) = h.after
mark_after (Err f) = []

marked_shorter : (k : Mark) (xs : List ℕ) (m : Marked) (n : ℕ) → length xs ≤ n → marked k xs ≡ Ok m → length m.after ≤ n
unfolding mark_after
marked_shorter k xs m n l e = let f : xs ≡ m.after = ap mark_after e in subst (λ xs. length xs ≤ n) f l

string_shorter : (kind : List ℕ → Atom) (h : Head) (m : Marked) → string_at kind h ≡ Ok m → length m.after ≤ length h.after
string_shorter kind h m = pick (nat_lt (length h.after) h.value) (λ e. cc) (marked_shorter _ (drop h.value h.after) m (length h.after) (drop_shorter h.value h.after))

of_shorter : (h : Head) (m : Marked) → mark_of h ≡ Ok m → length m.after ≤ length h.after
of_shorter h m =
    let same : length h.after ≤ length h.after = omega arith in
    pick (h.major == 0) (marked_shorter _ h.after m _ same) (pick (h.major == 1) (marked_shorter _ h.after m _ same) (pick (h.major == 2) (string_shorter octets h m) (pick (h.major == 3) (string_shorter characters h m)
    (pick (h.major == 4) (marked_shorter _ h.after m _ same) (pick (h.major == 5) (marked_shorter _ h.after m _ same) (pick (h.major == 6) (marked_shorter _ h.after m _ same) (marked_shorter _ h.after m _ same)))))))

pub mark_shorter : (a : List ℕ) (m : Marked) → mark_at a ≡ Ok m → length m.after < length a
mark_shorter [] m h = cc
mark_shorter (b ∷ bs) m h = by (head_at (b ∷ bs)) refl h
  where
    by : (r : Result Head HeadFault) → head_at (b ∷ bs) ≡ r → mark_by r ≡ Ok m → length m.after < length (b ∷ bs)
    by (Ok g) e h = let x = by_shorter (b / 32) (b % 32) bs g e in let y = of_shorter g m h in omega arith
    by (Err f) e h = cc
