-- Offsets of the tokens of a list.
use Rattle.std.proofs.Common.{◌≡◌, ℕ, zero, suc, ◌<◌, ◌≤◌, List, [], ◌∷◌, length, get_or, refl, ap, arith}
use Rattle.dh_syntax.specs.declared.tokens.Token.{Token}
use Rattle.dh_syntax.specs.Text.Noting.{begins_at, ends_before}

pub begins_there : (ts : List Token) (i : ℕ) (t : Token) → i < length ts → t ≡ get_or ts i t → t.from ≡ begins_at ts i
begins_there [] i t h e = absurd (omega arith)
begins_there (s ∷ ts) zero t h e = ap (λ u. u.from) e
begins_there (s ∷ ts) (suc i) t h e = let k : i < length ts = omega arith in begins_there ts i t k e

pub begins_nowhere : (ts : List Token) (i : ℕ) → length ts ≤ i → 0 ≡ begins_at ts i
begins_nowhere [] i h = refl
begins_nowhere (s ∷ ts) zero h = absurd (omega arith)
begins_nowhere (s ∷ ts) (suc i) h = let k : length ts ≤ i = omega arith in begins_nowhere ts i k

pub ends_there : (ts : List Token) (i : ℕ) (t : Token) → i < length ts → t ≡ get_or ts i t → t.to ≡ ends_before ts (suc i)
ends_there [] i t h e = absurd (omega arith)
ends_there (s ∷ ts) zero t h e = ap (λ u. u.to) e
ends_there (s ∷ ts) (suc i) t h e = let k : i < length ts = omega arith in ends_there ts i t k e

pub ends_nowhere : (ts : List Token) (i : ℕ) → length ts ≤ i → 0 ≡ ends_before ts (suc i)
ends_nowhere [] i h = refl
ends_nowhere (s ∷ ts) zero h = absurd (omega arith)
ends_nowhere (s ∷ ts) (suc i) h = let k : length ts ≤ i = omega arith in ends_nowhere ts i k

-- no token stands before the first one
pub ends_first : (ts : List Token) (i : ℕ) → (1 ≤ i → ⊥) → 0 ≡ ends_before ts i
ends_first [] i h = refl
ends_first (s ∷ ts) zero h = refl
ends_first (s ∷ ts) (suc i) h = absurd (h (omega arith))
