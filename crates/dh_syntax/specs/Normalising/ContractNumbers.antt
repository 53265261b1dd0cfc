-- Contraction of the operators on Natural (the standard's "β-normalization", "Natural").
use Rattle.std.specs.Prelude.{ℕ, ◌+◌, ◌*◌}
use Rattle.dh_syntax.specs.Normalising.Contraction.{Contraction, Gives, ◌or◌, when, from, on, within}
use Rattle.dh_syntax.specs.Expressions.Forms as form
use Rattle.dh_syntax.specs.Limits.{natural_fits}
use Rattle.dh_syntax.specs.Expressions.Tree.{Tree}
use Rattle.dh_syntax.specs.Expressions.Views.{as_natural, is_literal}

module _ {A B : Type 0} where
  -- the literal n, where it is not too wide
  abbrev pub natural_literal : ℕ → Contraction (Tree A B)
  natural_literal n = within (natural_fits n) (form.natural n)

  -- `l + r`
  abbrev pub sum : ℕ → Tree A B → Tree A B → Contraction (Tree A B)
  sum stage l r =
      from 1 stage (
      when (is_literal 0 l) (Gives r)
      or from 2 stage (
      when (is_literal 0 r) (Gives l)
      or on (as_natural l) (λ m. on (as_natural r) (λ n. natural_literal (m + n)))))

  -- `l * r`
  abbrev pub product : ℕ → Tree A B → Tree A B → Contraction (Tree A B)
  product stage l r =
      from 1 stage (
      when (is_literal 0 l) (Gives (form.natural 0))
      or when (is_literal 1 l) (Gives r)
      or from 2 stage (
      when (is_literal 0 r) (Gives (form.natural 0))
      or when (is_literal 1 r) (Gives l)
      or on (as_natural l) (λ m. on (as_natural r) (λ n. natural_literal (m * n)))))
