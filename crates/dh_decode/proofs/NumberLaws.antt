-- Numbers of many bytes.
use Rattle.std.proofs.Common.{◌≡◌, ℕ, ◌+◌, ◌*◌, ◌<◌, ◌≤◌, ◌^◌, List, [], ◌∷◌, length, drop, get_or, fold, refl, sym, ◌∙◌, ap, arith}
use Rattle.std.proofs.lemmas.List.{drop_more}

grows : (v : ℕ) (bs : List ℕ) → v ≤ fold (λ n b. 256 * n + b) v bs
grows v [] = omega arith
grows v (b ∷ bs) = let h = grows (256 * v + b) bs in omega arith

-- one more byte behind a number of 120 bits
pub too_many : (v i : ℕ) (bs : List ℕ) (n : ℕ) → i < length bs → 2 ^ 120 ≤ v → fold (λ n b. 256 * n + b) v (drop i bs) ≡ n → 2 ^ 128 ≤ n
too_many v i bs n h k e =
    let d = ap (fold (λ n b. 256 * n + b) v) (drop_more bs i 0 h) in
    let g = grows (256 * v + get_or bs i 0) (drop (i + 1) bs) in
    omega arith
