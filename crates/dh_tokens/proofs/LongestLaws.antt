-- The longest form, opened.
use Rattle.std.proofs.Common.{◌≡◌, ℕ, List, refl}
use Rattle.dh_syntax.specs.Text.Lexing.{code_form}
use Rattle.dh_tokens.specs.Inside.LongestForms.{longest_form}

pub longest_form-is : (bs : List ℕ) → longest_form bs ≡ code_form bs
unfolding longest_form
longest_form-is bs = refl
