-- Small forms of the program as forms of the definition, and where they are read.
use Rattle.std.specs.Prelude.{◌≡◌, ◌≢◌, ◌⊎◌, ℕ, Bool, ◌||◌, ◌==◌}
use Rattle.std.specs.Str.{byte}
use Rattle.dh_syntax.specs.declared.tokens.TokenKind.{TokenKind}
use Rattle.dh_syntax.specs.declared.tokens.TokenKind.TheVariants as kinds
use Rattle.dh_syntax.specs.Text.Characters.{tab, line_feed}
use Rattle.dh_syntax.specs.Text.LexForms.{Form, Is}
use Rattle.dh_syntax.specs.Text.Lexing as lexing
use Rattle.dh_syntax.specs.Text.Lexing.{Before, Start, AName, NameAt, Other, Place, Outside, Interpolated, Among, form_at}
use Rattle.dh_tokens.specs.declared.small_forms.Small.{Small}
use Rattle.dh_tokens.specs.declared.small_forms.Small.TheVariants as smalls

-- what the token of a small form is
abbrev pub small_kind : Small → TokenKind
small_kind (smalls.Name name) = kinds.Name name.now
small_kind (smalls.Keyword keyword) = kinds.Keyword keyword
small_kind (smalls.Bool truth) = kinds.Bool truth
small_kind (smalls.Builtin builtin) = kinds.Builtin builtin
small_kind (smalls.Natural n) = kinds.Natural n
small_kind (smalls.Mark mark) = kinds.Mark mark

-- a small form of so many bytes
abbrev pub small : Small × ℕ → Form
small m = record { found = Is (small_kind m.0); len = m.1 }

-- two bytes with which no path begins
abbrev pub BeginsNoPath : ℕ → ℕ → Type 0
BeginsNoPath a b =
    ((a ≡ byte ".") × (b ≢ byte ".") × (b ≢ byte "/")) ⊎ ((a ≡ byte "/") × ((b ≡ byte "/") ⊎ (b ≡ byte "\\")))

-- neither the start of a text nor a place behind a name and `@`
abbrev pub IsOrdinary : Before → Type 0
IsOrdinary Start = ⊥
IsOrdinary AName = Unit {0}
IsOrdinary NameAt = ⊥
IsOrdinary Other = Unit {0}

-- small forms may be read: the place is outside every text
pub record TakesSmall (s : lexing.State) : Type 0 where
  pub outside : s.place ≡ Outside
  pub ordinary : IsOrdinary s.before

-- a space, a tab or a line feed
abbrev pub is_blank : ℕ → Bool
is_blank b = b == byte " " || b == tab || b == line_feed
