-- What the first byte of a form tells of it.
use Rattle.std.specs.Prelude.{ℕ, Bool, not, ◌&&◌, ◌||◌, ◌==◌}
use Rattle.std.specs.Char.{is_ascii_digit}
use Rattle.std.specs.Str.{byte}
use Rattle.dh_syntax.specs.Text.Characters.{is_name_start, tab, line_feed, carriage_return}
use Rattle.dh_tokens.specs.declared.fronts.First.{First}
use Rattle.dh_tokens.specs.declared.fronts.First.TheVariants as firsts

-- a byte of white space
abbrev pub is_white : ℕ → Bool
is_white b = b == byte " " || b == tab || b == line_feed || b == carriage_return

-- a byte before a component of a path, or the slash itself
abbrev pub is_path_start : ℕ → Bool
is_path_start b = b == byte "." || b == byte "/" || b == byte "~"

-- a byte with which gaps, quoted names, texts, paths and numbers with a sign begin, and the brace
abbrev pub is_symbol : ℕ → Bool
is_symbol b =
    is_white b || is_path_start b || b == byte "\"" || b == byte "'" || b == byte "`" || b == byte "{" || b == byte "-" || b == byte "+"

-- whether a byte is a first one of this kind
abbrev pub is_first : First → ℕ → Bool
is_first firsts.White b = is_white b
is_first firsts.Word b = is_name_start b
is_first firsts.Digit b = is_ascii_digit b
is_first firsts.Quote b = b == byte "\""
is_first firsts.Apostrophe b = b == byte "'"
is_first firsts.Backtick b = b == byte "`"
is_first firsts.Brace b = b == byte "{"
is_first firsts.Minus b = b == byte "-"
is_first firsts.Plus b = b == byte "+"
is_first firsts.Path b = is_path_start b
is_first firsts.Other b = not (is_name_start b) && not (is_ascii_digit b) && not (is_symbol b)
