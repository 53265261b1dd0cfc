-- The rows of arrays by tests that the program makes are those of the machine.
use Rattle.std.proofs.Common.{◌≡◌, ℕ, zero, suc, ◌%◌, ◌==◌, ◌&&◌, nat_le, Bool, true, false, Option, Some, None, refl, sym, ◌∙◌, ap, arith, le-leb, leb-true}
use Rattle.std.proofs.lemmas.Bool.Decides.{same_from_decides}
use Rattle.dh_syntax.proofs.NativeTests.{eq-native, Decides-le}
use Rattle.dh_syntax.specs.Expressions.Numbers.{eq, le}
use Rattle.dh_binary.specs.Machine as machine
use Rattle.dh_binary.specs.Machine.{Place, is_odd, or_first, is_some}
use Rattle.dh_decode.specs.Inside.Rows.{row_at, scheme_fits, lets_fit}

le-native : (m n : ℕ) → le m n ≡ nat_le m n
le-native m n = same_from_decides (le m n) (nat_le m n) (Decides-le m n) (leb-true m n, le-leb m n)

odd_native : (m : ℕ) → (m % 2 == 1) ≡ is_odd m
odd_native zero = refl
odd_native (suc zero) = refl
odd_native (suc (suc m)) = ap (λ k. k == 1) (by m) ∙ odd_native m
  where
    by : (m : ℕ) → suc (suc m) % 2 ≡ m % 2
    by m = omega arith

lets_next : (m : ℕ) → lets_fit (suc (suc (suc (suc (suc (suc (suc m))))))) ≡ lets_fit (suc (suc (suc (suc m))))
lets_next m =
    let more = suc (suc (suc (suc (suc (suc (suc m)))))) in
    let some = suc (suc (suc (suc m))) in
    ap (λ (b : Bool). b && (more % 3 == 1)) (le-leb 4 more (omega arith)) ∙ ap (λ (k : ℕ). k == 1) (by m) ∙ sym (ap (λ (b : Bool). b && (some % 3 == 1)) (le-leb 4 some (omega arith)))
  where
    by : (m : ℕ) → suc (suc (suc (suc (suc (suc (suc m)))))) % 3 ≡ suc (suc (suc (suc m))) % 3
    by m = omega arith

lets_native : (m : ℕ) → lets_fit m ≡ machine.lets_fit m
lets_native zero = refl
lets_native (suc zero) = refl
lets_native (suc (suc zero)) = refl
lets_native (suc (suc (suc zero))) = refl
lets_native (suc (suc (suc (suc zero)))) = refl
lets_native (suc (suc (suc (suc (suc zero))))) = refl
lets_native (suc (suc (suc (suc (suc (suc zero)))))) = refl
lets_native (suc (suc (suc (suc (suc (suc (suc m))))))) = lets_next m ∙ lets_native (suc (suc (suc (suc m))))

pub row_same : {T : Type 0} (n m : ℕ) → row_at {T = T} n m ≡ machine.row_at n m
row_same n m = simp (eq-native, le-native, odd_native, lets_native)

pub scheme_same : (n m : ℕ) → scheme_fits n m ≡ machine.scheme_fits n m
scheme_same n m = simp (eq-native, le-native)
