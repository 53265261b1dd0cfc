-- How large a number of a few bytes is.
use Rattle.std.proofs.Common.{◌≡◌, ◌≤◌, ◌<◌, ◌+◌, ◌*◌, ◌^◌, ℕ, List, length, take, get_or, add-one, arith, lit<, sym, ap, ◌∙◌}
use Rattle.std.proofs.lemmas.List.Sums.{fold_more}
use Rattle.std.proofs.Math.Nat.{pow-le-pow_right, pow-suc}
use Rattle.dh_syntax.specs.Bytes.BinaryHeads.{big_endian}

next_power : (i : ℕ) → 256 ^ (i + 1) ≡ 256 * 256 ^ i
next_power i = rw (add-one, pow-suc) (omega arith)

pub one_more : (i v b : ℕ) → v < 256 ^ i → b < 256 → 256 * v + b < 256 ^ (i + 1)
one_more i v b h k = let p = next_power i in omega arith

pub in_range : (i v b n : ℕ) → i < n → n ≤ 8 → v < 256 ^ i → b < 256 → 256 * v + b < 18446744073709551616
in_range i v b n h k few small =
    let p : 256 ^ (i + 1) ≤ 18446744073709551616 = pow-le-pow_right {n = 256} (lit< tt) {i = i + 1} {j = 8} (omega arith) in
    let q = one_more i v b few small in
    omega arith

-- one byte more
pub more_bytes : (bs : List ℕ) (i v b : ℕ) → i < length bs → v ≡ big_endian (take i bs) → b ≡ get_or bs i 0 → 256 * v + b ≡ big_endian (take (i + 1) bs)
more_bytes bs i v b h e f = ap (λ n. 256 * n + b) e ∙ ap (λ k. 256 * big_endian (take i bs) + k) f ∙ sym (fold_more (λ n k. 256 * n + k) 0 bs i 0 h)
