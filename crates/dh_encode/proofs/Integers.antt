-- Integers and bignums.
use Rattle.std.specs.Prelude.{◌≡◌, ◌<◌, ◌^◌, ℕ, ◌-◌, ℤ, pos, negsuc, true, nat_lt, if◌then◌else◌, List, ◌∷◌, refl}
use Rattle.std.specs.Int.{w128, to_be_bytes}
use Rattle.std.specs.Int.RustNames.{unsigned_abs}
use Rattle.std.proofs.Common.{ap, sym, ◌∙◌, arith, lt-ltb}
use Rattle.std.proofs.lemmas.Int.{to_z-of_z, ints}
use lib.Signed.{lt_z}
use mir.Syntax as syntax
use mir.Val.{SFits, of_z, to_z}
use Rattle.dh_syntax.specs.declared.locations.Mode.{Mode}
use Rattle.dh_syntax.specs.declared.locations.Mode.TheVariants as mode
use Rattle.dh_syntax.specs.declared.operators.BinOp.{BinOp}
use Rattle.dh_syntax.specs.declared.operators.BinOp.TheVariants as op
use Rattle.dh_syntax.specs.Bytes.Binary.{integer, mode_code}
use Rattle.dh_syntax.specs.Expressions.Operators.{op_code}
use Rattle.dh_syntax.specs.Bytes.Cbor.{head, natural, below_zero, bytes, fewest_bytes, without_zeros}

not_below : (k : ℕ) → lt_z (pos k) (pos 0) ≡ true → ⊥
not_below k h = grind (arith, ints)

below : (z : ℤ) (n : ℕ) → lt_z z (pos 0) ≡ true → n ≡ unsigned_abs z → below_zero (n - 1) ≡ integer z
below (pos k) n h e = absurd (not_below k h)
below (negsuc k) n h e = let p : n - 1 ≡ k = omega arith in ap below_zero p

-- an integer below zero, by its absolute value
pub integer_below : (z : ℤ) (n : ℕ) → lt_z (to_z syntax.w128 (of_z syntax.w128 z)) (pos 0) ≡ true → SFits syntax.w128 z → n ≡ unsigned_abs (to_z syntax.w128 (of_z syntax.w128 z))
    → below_zero (n - 1) ≡ integer z
integer_below z n h f e =
    let same = to_z-of_z syntax.w128 z f in
    below z n (sym (ap (λ y. lt_z y (pos 0)) same) ∙ h) (e ∙ ap unsigned_abs same)

-- a number in its fewest bytes
pub fewest : (n : ℕ) (digits seen : List ℕ) → digits ≡ to_be_bytes w128 n → seen ≡ without_zeros digits → bytes seen ≡ bytes (fewest_bytes n)
fewest n digits seen d e = ap bytes (e ∙ ap without_zeros d)

-- a small number is a head alone
pub small : (n : ℕ) → n < 2 ^ 64 → head 0 n ≡ natural n
small n h = let test : nat_lt n (2 ^ 64) ≡ true = lt-ltb n (2 ^ 64) h in sym (ap (λ b. if b then head 0 n else 194 ∷ bytes (fewest_bytes n)) test)

pub small_code : (o : BinOp) → head 0 (op_code o) ≡ natural (op_code o)
small_code op.Or = refl
small_code op.And = refl
small_code op.Equal = refl
small_code op.NotEqual = refl
small_code op.Plus = refl
small_code op.Times = refl
small_code op.TextAppend = refl
small_code op.ListAppend = refl
small_code op.Combine = refl
small_code op.Prefer = refl
small_code op.CombineTypes = refl
small_code op.Fallback = refl
small_code op.Equivalent = refl
small_code op.Complete = refl

pub small_mode : (m : Mode) → head 0 (mode_code m) ≡ natural (mode_code m)
small_mode mode.Code = refl
small_mode mode.Text = refl
small_mode mode.Location = refl
