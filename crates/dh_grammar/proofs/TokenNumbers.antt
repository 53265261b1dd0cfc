-- Numbers of tokens, counted forwards and back.
use Rattle.std.proofs.Common.{◌≡◌, ℕ, zero, suc, refl, ◌∙◌, arith}
use Rattle.std.specs.Prelude.{◌+◌, ◌-◌}
use Rattle.dh_syntax.specs.Text.Noting.{skip}
use Rattle.dh_grammar.specs.Placing.{back}

pub back-skip : (n i : ℕ) → back n (skip n i) ≡ i
back-skip zero i = refl
back-skip (suc n) i = back-skip n i

-- as numbers are added and taken away
pub skip-plus : (n i : ℕ) → skip n i ≡ i + n
skip-plus zero i = omega arith
skip-plus (suc n) i = let h = skip-plus n i in omega arith

pub back-minus : (n i : ℕ) → back n i ≡ i - n
back-minus zero i = omega arith
back-minus (suc n) zero = omega arith
back-minus (suc n) (suc i) = let h = back-minus n i in h ∙ omega arith
