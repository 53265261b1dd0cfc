-- The front of a list that passes a test, and where a text may be cut.
use Rattle.std.proofs.Common.{◌≡◌, ℕ, zero, suc, ◌+◌, ◌<◌, ◌≤◌, min, Bool, true, false, cond, eqb, leb, List, [], ◌∷◌, ◌++◌, length, get_or, ◌==◌, ◌&&◌, take, length-take-le, add-one, refl, ap, sym, subst, ◌∙◌, arith}
use Rattle.std.proofs.lemmas.Bool.{false≢true}
use Rattle.std.proofs.lemmas.Bool.Decides.{nat_tests}
use Rattle.std.proofs.lemmas.List.Sums.{prefix_len_passes, prefix_len-le-length}
use Rattle.std.proofs.lemmas.Str.{encode_ascii, IsUtf8-past_char, IsCharBoundary-start, IsCharBoundary-after_ascii}
use Rattle.std.specs.List.{prefix_len, list_all}
use Rattle.std.specs.Str.{IsUtf8, IsCharBoundary}

-- the front of a list that passes a test is not shorter than any part of it
taken-by : (passes : Bool) (m n k : ℕ) → suc n ≤ cond passes (1 + k) 0 → (n ≤ k → m ≡ n) → cond passes (1 + m) 0 ≡ suc n
taken-by true m n k h more = let e = more (omega (arith, h)) in omega arith
taken-by false m n k h more = absurd (omega (arith, h))

pub taken : (p : ℕ → Bool) (n : ℕ) (bs : List ℕ) → n ≤ prefix_len p bs → prefix_len p (take n bs) ≡ n
taken p zero bs h = refl
taken p (suc n) [] h = absurd (omega (arith, h))
taken p (suc n) (b ∷ bs) h = taken-by (p b) (prefix_len p (take n bs)) n (prefix_len p bs) h (taken p n bs)

pub length-taken : (p : ℕ → Bool) (n : ℕ) (bs : List ℕ) → n ≤ prefix_len p bs → length (take n bs) ≡ n
length-taken p n bs h = let e = prefix_len-le-length p bs in length-take-le n bs (omega (arith, e, h))

-- so many elements at the front pass where the longest front that passes is not shorter
front_passes-by : (passes rest : Bool) (m n k : ℕ) → (eqb m n && rest) ≡ leb n k → (eqb (suc m) (suc n) && (passes && rest)) ≡ leb (suc n) (cond passes (1 + k) 0)
front_passes-by true true m n k h = grind (arith, nat_tests)
front_passes-by true false m n k h = grind (arith, nat_tests)
front_passes-by false true m n k h = grind (arith, nat_tests)
front_passes-by false false m n k h = grind (arith, nat_tests)

zero_le : (n : ℕ) → true ≡ leb 0 n
zero_le n = grind (arith, nat_tests)

none_passes : (n : ℕ) → (eqb 0 (suc n) && true) ≡ leb (suc n) 0
none_passes n = grind (arith, nat_tests)

pub front_passes : (p : ℕ → Bool) (n : ℕ) (bs : List ℕ) → (length (take n bs) == n && list_all p (take n bs)) ≡ leb n (prefix_len p bs)
front_passes p zero bs = zero_le (prefix_len p bs)
front_passes p (suc n) [] = none_passes n
front_passes p (suc n) (b ∷ bs) = front_passes-by (p b) (list_all p (take n bs)) (length (take n bs)) n (prefix_len p bs) (front_passes p n bs)

-- what follows an ASCII character is a text
pub text_after : (c : ℕ) (bs ds : List ℕ) → c < 128 → IsUtf8 bs → bs ≡ c ∷ ds → IsUtf8 ds
text_after c bs ds ascii u e = IsUtf8-past_char bs ds c u (e ∙ ap (λ l. l ++ ds) (sym (encode_ascii c ascii)))

-- after characters that pass a test of ASCII characters a text may be cut
pub passing_boundary : (p : ℕ → Bool) → ((c : ℕ) → p c ≡ true → c < 128) → (n : ℕ) (bs : List ℕ) → IsUtf8 bs → n ≤ prefix_len p bs → IsCharBoundary bs n
passing_boundary p ascii zero bs u h = IsCharBoundary-start bs u
passing_boundary p ascii (suc n) bs u h =
    let passes : p (get_or bs n 0) ≡ true = prefix_len_passes p bs n 0 (omega (arith, h)) in
    let le = prefix_len-le-length p bs in
    let P : ℕ → Type 0 = λ k. IsCharBoundary bs k in
    subst P (add-one n) (IsCharBoundary-after_ascii bs n u (omega (arith, le, h)) (ascii (get_or bs n 0) passes))

-- where all of so many elements at the front pass
all_front-by : (passes rest : Bool) (n k m : ℕ) → (passes && rest) ≡ true → (rest ≡ true → min n m ≤ k) → min (suc n) (suc m) ≤ cond passes (1 + k) 0
all_front-by true rest n k m h more = let le = more h in omega (arith, le)
all_front-by false rest n k m h more = absurd (false≢true h)

pub all_front : (p : ℕ → Bool) (n : ℕ) (bs : List ℕ) → list_all p (take n bs) ≡ true → min n (length bs) ≤ prefix_len p bs
all_front p zero bs h = omega arith
all_front p (suc n) [] h = omega arith
all_front p (suc n) (b ∷ bs) h = all_front-by (p b) (list_all p (take n bs)) n (prefix_len p bs) (length bs) h (all_front p n bs)
