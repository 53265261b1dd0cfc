-- What the program does with items is what the machine does.
use Rattle.std.specs.Prelude.{◌≡◌, ℕ, zero, suc, ◌+◌, ◌-◌, ◌<◌, Bool, true, false, not, List, [], ◌∷◌, length, Option, Some, None, IfSome, refl}
use Rattle.std.proofs.Common.{sym, ◌∙◌, ap, arith}
use Rattle.dh_syntax.specs.declared.expressions.Op.TheVariants as ops
use Rattle.dh_syntax.specs.declared.operators.Builtin.{Builtin}
use Rattle.dh_syntax.specs.Bytes.BinaryHeads.{characters}
use Rattle.dh_syntax.specs.Bytes.BinaryLeaves.{◌>>=◌}
use Rattle.dh_syntax.specs.Expressions.Builtins.{builtin_of}
use Rattle.dh_syntax.specs.Expressions.Numbers.{eq}
use Rattle.dh_syntax.proofs.Numbers.{eq-true}
use Rattle.dh_binary.specs.Machine as machine
use Rattle.dh_binary.specs.Machine.{Value, holds, called_by, Place, State, reading, stopped, fill, want, settle, deliver, opening_atom, is_named}
use Rattle.dh_binary.specs.Stubs.{Kept, stubs}
use Rattle.dh_decode.specs.declared.places.Frame.{Frame}
use Rattle.dh_decode.specs.declared.places.Value as program
use Rattle.dh_decode.specs.Inside.Takings.{builtin_value}
use Rattle.dh_decode.specs.Inside.Views.{place_of, frames_of}

-- ---- atoms

pub builtin_some : (x : List ℕ) (b : Builtin) (k : Kept) → Some b ≡ builtin_of x → k ≡ stubs.node (ops.Builtin b) [] → builtin_value x ≡ Some (holds k)
builtin_some x b k h e = ap (λ (o : Option Builtin). o >>= λ b. Some (holds (stubs.node (ops.Builtin b) []))) (sym h) ∙ ap (λ (k : Kept). Some (holds k)) (sym e)

pub builtin_none : (x : List ℕ) → None ≡ builtin_of x → builtin_value x ≡ None
builtin_none x h = ap (λ (o : Option Builtin). o >>= λ b. Some (holds (stubs.node (ops.Builtin b) []))) (sym h)

pub opening_none : (k : ℕ) (t : List ℕ) → (k ≡ 1 → ⊥) → opening_atom stubs k (characters t) ≡ None
opening_none k t h = by (eq k 1) refl
  where
    by : (c : Bool) → eq k 1 ≡ c → opening_atom stubs k (characters t) ≡ None
    by true e = absurd (h (eq-true k 1 e))
    by false e = rw e refl

-- ---- places

pub settle_more : (p : Place Kept) (n : ℕ) (st : List (machine.Frame Kept)) → 0 < n → settle stubs p n st ≡ reading (want p (n - 1)) (record { place = p; left = n - 1 } ∷ st)
settle_more p zero st h = absurd (omega arith)
settle_more p (suc n) st h = let e : suc n - 1 ≡ n = omega arith in sym (ap (λ (k : ℕ). reading (want p k) (record { place = p; left = k } ∷ st)) e)

pub deliver_more : (gs fs : List Frame) (f : Frame) (v : Value Kept) (p : Place Kept) → gs ≡ f ∷ fs → p ≡ fill stubs (place_of f.place) v → deliver stubs v (frames_of gs) ≡ settle stubs p f.left (frames_of fs)
deliver_more gs fs f v p e h = ap (λ (gs : List Frame). deliver stubs v (frames_of gs)) e ∙ ap (λ (p : Place Kept). settle stubs p f.left (frames_of fs)) (sym h)

pub deliver_last : (gs : List Frame) (v : Value Kept) → gs ≡ [] → deliver stubs v (frames_of gs) ≡ machine.done v
deliver_last gs v e = ap (λ (gs : List Frame). deliver stubs v (frames_of gs)) e

pub fewer : (gs fs hs : List Frame) (f : Frame) (o : Option program.Value) (v : program.Value) → gs ≡ f ∷ fs → IfSome o (λ v. hs ≡ fs) → o ≡ Some v → length hs < length gs
fewer gs fs hs f (Some u) v e h i = let a = ap (λ (gs : List Frame). length gs) e in let b = ap (λ (gs : List Frame). length gs) h in omega arith
fewer gs fs hs f None v e h i = cc
