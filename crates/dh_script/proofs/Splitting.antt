-- Stretches of a text: its first line, and what stands before and behind its last blank.
use Rattle.std.proofs.Common.{Bor, ◌≡◌, ◌∙◌, ℕ, suc, ◌+◌, ◌-◌, ◌<◌, Bool, true, false, ◌||◌, List, [], ◌∷◌, ◌++◌, length, take, drop, slice_index, Option, Some, None, refl, sym, ap, arith, nat_eq, true≢false}
use Rattle.std.proofs.Math.Seq.{take-append_seam}
use Rattle.std.specs.Prelude.{MatchOption}
use Rattle.std.specs.Cmp.Lexicographic.{pointwise, same_text, other_text}
use Rattle.std.proofs.lemmas.Bool.{eq-eqb, eqb-true}
use Rattle.std.proofs.lemmas.List.{drop_all, drop_more, get_or-drop, get_or-take, length-drop, length-take, take_all, take-append-drop}
use Rattle.dh_syntax.proofs.Numbers.{eq-true}
use Rattle.dh_syntax.specs.Expressions.Numbers.{eq}
use Rattle.dh_watch_laws.specs.ScriptLines.{lines_of, with_byte, has_blank}
use Rattle.memchr.specs.Find.{Nowhere, NoneBefore, NoneAfter, Passes, is_byte}

-- whether a byte stands in a text
abbrev pub has : ℕ → List ℕ → Bool
has v [] = false
has v (b ∷ bs) = eq b v || has v bs

pub has_blank-has : (xs : List ℕ) → has_blank xs ≡ has 32 xs
has_blank-has [] = refl
has_blank-has (x ∷ xs) = ap (λ r. eq x 32 || r) (has_blank-has xs)

not-true : (b : Bool) → ¬ (b ≡ true) → b ≡ false
not-true true h = absurd (h refl)
not-true false h = refl

or-false : (a b : Bool) → (a || b) ≡ false → (a ≡ false) × (b ≡ false)
or-false true b h = absurd (true≢false h)
or-false false b h = (refl, h)

or-true : (a b : Bool) → b ≡ true → (a || b) ≡ true
or-true true b h = refl
or-true false b h = h

-- a byte that stands at no place does not stand in the text
pub has-nowhere : (v : ℕ) (xs : List ℕ) → ((k : ℕ) → k < length xs → ¬ (slice_index xs k ≡ v)) → has v xs ≡ false
has-nowhere v [] h = refl
has-nowhere v (b ∷ bs) h =
    let e : eq b v ≡ false = not-true (eq b v) (λ q. h 0 (omega arith) (eq-true b v q)) in
    let r : has v bs ≡ false = has-nowhere v bs (λ k lt. h (suc k) (omega arith)) in
    rw (e, r) refl

-- a text, cut around a place
cut_around : (xs : List ℕ) (k : ℕ) → k < length xs → xs ≡ take k xs ++ slice_index xs k ∷ drop (k + 1) xs
cut_around xs k h = sym (take-append-drop k xs) ∙ ap (λ t. take k xs ++ t) (drop_more xs k 0 h)

-- the stretch from a place to the end
pub to_end : (xs : List ℕ) (k : ℕ) → take (length xs - k) (drop k xs) ≡ drop k xs
to_end xs k = take_all (length xs - k) (drop k xs) (omega (arith, length-drop k xs))

-- ---- the first line

pub lines-front : (front back : List ℕ) → has 10 front ≡ false → lines_of (front ++ 10 ∷ back) ≡ front ∷ lines_of back
lines-front [] back h = refl
lines-front (b ∷ front) back h =
    let parts = or-false (eq b 10) (has 10 front) h in
    rw (parts.0, lines-front front back parts.1) refl

pub lines-whole : (xs : List ℕ) → has 10 xs ≡ false → 0 < length xs → lines_of xs ≡ xs ∷ []
lines-whole [] h some = absurd (omega arith)
lines-whole (b ∷ []) h some = let parts = or-false (eq b 10) false h in rw parts.0 refl
lines-whole (b ∷ c ∷ cs) h some =
    let parts = or-false (eq b 10) (has 10 (c ∷ cs)) h in
    let rest : lines_of (c ∷ cs) ≡ (c ∷ cs) ∷ [] = lines-whole (c ∷ cs) parts.1 (omega arith) in
    rw parts.0 (ap (with_byte b) rest)

-- what the search for a line feed says
pub feed-at : (xs : List ℕ) (k : ℕ) → NoneBefore (Passes (is_byte 10) xs) 0 (length xs) k → Passes (is_byte 10) xs k → lines_of xs ≡ take k xs ∷ lines_of (drop (k + 1) xs)
feed-at xs k none here =
    let cut = cut_around xs k none.high in
    let is : slice_index xs k ≡ 10 = eqb-true (slice_index xs k) 10 here in
    let clear : has 10 (take k xs) ≡ false = has-nowhere 10 (take k xs) (λ j lt q.
    none.before j (omega arith) (omega (arith, length-take k xs)) (eq-eqb (slice_index xs j) 10 (sym (get_or-take k xs j 0 (omega (arith, length-take k xs))) ∙ q))) in
    ap lines_of cut ∙ ap (λ b. lines_of (take k xs ++ b ∷ drop (k + 1) xs)) is ∙ lines-front (take k xs) (drop (k + 1) xs) clear

pub feed-nowhere : (xs : List ℕ) → Nowhere (Passes (is_byte 10) xs) 0 (length xs) → 0 < length xs → lines_of xs ≡ xs ∷ []
feed-nowhere xs none some = lines-whole xs (has-nowhere 10 xs (λ k lt q. none k (omega arith) lt (eq-eqb (slice_index xs k) 10 q))) some

-- ---- the last blank

pub blank-nowhere : (xs : List ℕ) → Nowhere (Passes (is_byte 32) xs) 0 (length xs) → has_blank xs ≡ false
blank-nowhere xs none = has_blank-has xs ∙ has-nowhere 32 xs (λ k lt q. none k (omega arith) lt (eq-eqb (slice_index xs k) 32 q))

pub blank-at : (xs : List ℕ) (k : ℕ) → NoneAfter (Passes (is_byte 32) xs) 0 (length xs) k → Passes (is_byte 32) xs k
    → (xs ≡ take k xs ++ 32 ∷ drop (k + 1) xs) × (has_blank (drop (k + 1) xs) ≡ false)
blank-at xs k none here =
    let cut = cut_around xs k none.high in
    let is : slice_index xs k ≡ 32 = eqb-true (slice_index xs k) 32 here in (
      cut ∙ ap (λ b. take k xs ++ b ∷ drop (k + 1) xs) is,
      has_blank-has (drop (k + 1) xs) ∙ has-nowhere 32 (drop (k + 1) xs) (λ j lt q.
          none.after (k + 1 + j) (omega arith) (omega (arith, length-drop (k + 1) xs)) (eq-eqb (slice_index xs (k + 1 + j)) 32 (sym (get_or-drop (k + 1) xs j 0) ∙ q))),
    )

-- a text with a blank has one
pub blank-within : (a h : List ℕ) → has_blank (a ++ 32 ∷ h) ≡ true
blank-within [] h = refl
blank-within (x ∷ a) h = or-true (eq x 32) (has_blank (a ++ 32 ∷ h)) (blank-within a h)

-- the last blank is one place
pub blank-once : (a h b k : List ℕ) → a ++ 32 ∷ h ≡ b ++ 32 ∷ k → has_blank h ≡ false → has_blank k ≡ false → (a ≡ b) × (h ≡ k)
blank-once [] h [] k e p q = (refl, ap (drop 1) e)
blank-once [] h (y ∷ b) k e p q =
    let rest : h ≡ b ++ 32 ∷ k = ap (drop 1) e in absurd (true≢false (sym (blank-within b k) ∙ ap has_blank (sym rest) ∙ p))
blank-once (x ∷ a) h [] k e p q =
    let rest : a ++ 32 ∷ h ≡ k = ap (drop 1) e in absurd (true≢false (sym (blank-within a h) ∙ ap has_blank rest ∙ q))
blank-once (x ∷ a) h (y ∷ b) k e p q =
    let rest : a ++ 32 ∷ h ≡ b ++ 32 ∷ k = ap (drop 1) e in
    let heads : x ≡ y = ap (λ l. slice_index l 0) e in
    let tails = blank-once a h b k rest p q in (ap (λ z. z ∷ a) heads ∙ ap (λ t. y ∷ t) tails.0, tails.1)

-- ---- what stands behind the first bytes

pub behind_of : (text first : List ℕ) (o : Option (Bor (List ℕ)))
    → MatchOption o (pointwise nat_eq (take (length first) text) first ≡ false) (λ x. (pointwise nat_eq (take (length first) text) first ≡ true) × (x.now ≡ drop (length first) text) × (length x.now + length first ≡ length text))
    → MatchOption o ((rest : List ℕ) → ¬ (text ≡ first ++ rest)) (λ x. text ≡ first ++ x.now)
behind_of text first None h = λ rest e.
    other_text (take (length first) text) first (sym h) (ap (take (length first)) e ∙ take-append_seam first rest)
behind_of text first (Some x) h =
    let front : take (length first) text ≡ first = same_text (take (length first) text) first (sym h.0) in
    sym (take-append-drop (length first) text) ∙ ap (λ t. t ++ drop (length first) text) front ∙ ap (λ t. first ++ t) (sym h.1)

-- nothing stands behind the end
pub lines_end : (xs : List ℕ) → lines_of (take (length xs - length xs) (drop (length xs) xs)) ≡ []
lines_end xs = ap lines_of (to_end xs (length xs) ∙ drop_all (length xs) xs (omega arith))
