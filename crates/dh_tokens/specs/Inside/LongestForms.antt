-- The longest form at one place, as one word that a proof does not look into.
use Rattle.std.specs.Prelude.{ℕ, List, Option, ◌==◌, if◌then◌else◌}
use Rattle.std.specs.Str.{byte}
use Rattle.dh_syntax.specs.declared.tokens.TokenKind.TheVariants as kinds
use Rattle.dh_syntax.specs.Text.Characters.{first}
use Rattle.dh_syntax.specs.Text.LexForms.{Form, Is}
use Rattle.dh_syntax.specs.Text.Lexing.{code_form, form_or, no_form}

-- the longest form outside the characters of texts
unfoldable pub longest_form : List ℕ → Option Form
longest_form bs = code_form bs

-- the same, or what stands where no form fits
unfoldable pub front_form : List ℕ → Form
front_form bs = form_or (code_form bs) (no_form bs)

-- the form in an interpolation in which no brace is open
abbrev pub interpolated_form : List ℕ → Form
interpolated_form bs = if first bs == byte "}" then record { found = Is kinds.InterpolationClose; len = 1 } else front_form bs
