-- Bignums that are written are read.
use Rattle.std.specs.Prelude.{◌≡◌, ℕ, suc, ◌+◌, ◌*◌, ◌/◌, ◌%◌, ◌^◌, ◌==◌, ◌<◌, ◌≤◌, fold, Bool, true, false, if◌then◌else◌, List, [], ◌∷◌, ◌++◌, length, refl}
use Rattle.std.specs.Int.{w64, w128, to_be_bytes}
use Rattle.std.proofs.Common.{◌∙◌, ap, arith}
use Rattle.std.proofs.lemmas.Bool.{eqb-true}
use Rattle.dh_syntax.specs.Bytes.BinaryHeads.{big_endian}
use Rattle.dh_syntax.specs.Bytes.Cbor.{without_zeros, fewest_bytes}
use Rattle.dh_binary.proofs.HeadBytes.{big_eight}

zeros_by : (b : ℕ) (bs : List ℕ) (c : Bool) → (b == 0) ≡ c → big_endian (without_zeros bs) ≡ big_endian bs → big_endian (if c then without_zeros bs else b ∷ bs) ≡ big_endian (b ∷ bs)
zeros_by b bs true e h = h ∙ ap (λ k. fold (λ n b. 256 * n + b) k bs) (let f = eqb-true b 0 e in omega arith)
zeros_by b bs false e h = refl

same_number : (bs : List ℕ) → big_endian (without_zeros bs) ≡ big_endian bs
same_number [] = refl
same_number (b ∷ bs) = zeros_by b bs (b == 0) refl (same_number bs)

fewer_by : (b : ℕ) (bs : List ℕ) (c : Bool) → length (without_zeros bs) ≤ length bs → length (if c then without_zeros bs else b ∷ bs) ≤ suc (length bs)
fewer_by b bs true h = omega arith
fewer_by b bs false h = omega arith

fewer : (bs : List ℕ) → length (without_zeros bs) ≤ length bs
fewer [] = omega arith
fewer (b ∷ bs) = fewer_by b bs (b == 0) (fewer bs)

pub few_bytes : (n : ℕ) → length (fewest_bytes n) ≤ 16
few_bytes n = fewer (to_be_bytes w128 n)

-- ---- sixteen bytes are eight and eight

on_from : (n a b c d e f g h : ℕ) → fold (λ n b. 256 * n + b) n (a ∷ b ∷ c ∷ d ∷ e ∷ f ∷ g ∷ h ∷ []) ≡ n * 2 ^ 64 + big_endian (a ∷ b ∷ c ∷ d ∷ e ∷ f ∷ g ∷ h ∷ [])
on_from n a b c d e f g h = omega arith

fold-append : (n : ℕ) (xs ys : List ℕ) → fold (λ n b. 256 * n + b) n (xs ++ ys) ≡ fold (λ n b. 256 * n + b) (fold (λ n b. 256 * n + b) n xs) ys
fold-append n [] ys = refl
fold-append n (x ∷ xs) ys = fold-append (256 * n + x) xs ys

cons : (a b : ℕ) (xs ys : List ℕ) → a ≡ b → xs ≡ ys → a ∷ xs ≡ b ∷ ys
cons a b xs ys p q = ap (λ c. c ∷ xs) p ∙ ap (λ zs. b ∷ zs) q

halves : (n : ℕ) → to_be_bytes w128 n ≡ to_be_bytes w64 (n / 2 ^ 64) ++ to_be_bytes w64 (n % 2 ^ 64)
halves n =
    cons _ _ _ _ (omega arith) (cons _ _ _ _ (omega arith) (cons _ _ _ _ (omega arith) (cons _ _ _ _ (omega arith) (cons _ _ _ _ (omega arith) (cons _ _ _ _ (omega arith) (cons _ _ _ _ (omega arith) (cons _ _ _ _ (omega arith)
    (cons _ _ _ _ (omega arith) (cons _ _ _ _ (omega arith) (cons _ _ _ _ (omega arith) (cons _ _ _ _ (omega arith) (cons _ _ _ _ (omega arith) (cons _ _ _ _ (omega arith) (cons _ _ _ _ (omega arith) (cons _ _ _ _ (omega arith) refl)))))))))))))))

big_sixteen : (n : ℕ) → n < 2 ^ 128 → big_endian (to_be_bytes w128 n) ≡ n
big_sixteen n h =
    let hi : ℕ = n / 2 ^ 64 in
    let lo : ℕ = n % 2 ^ 64 in
    let p = big_eight (n / 2 ^ 64) (omega arith) in
    let q = big_eight (n % 2 ^ 64) (omega arith) in
    ap big_endian (halves n) ∙ fold-append 0 (to_be_bytes w64 (n / 2 ^ 64)) (to_be_bytes w64 (n % 2 ^ 64))
    ∙ ap (λ k. fold (λ n b. 256 * n + b) k (to_be_bytes w64 (n % 2 ^ 64))) p ∙ on_from (n / 2 ^ 64) _ _ _ _ _ _ _ _ ∙ ap (λ k. (n / 2 ^ 64) * 2 ^ 64 + k) q ∙ omega arith

-- The fewest bytes of a number say it.
pub big_fewest : (n : ℕ) → n < 2 ^ 128 → big_endian (fewest_bytes n) ≡ n
big_fewest n h = same_number (to_be_bytes w128 n) ∙ big_sixteen n h
