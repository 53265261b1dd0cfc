-- The classes of bytes of which a token has a run.
use Rattle.std.specs.Prelude.{ℕ, Bool}
use Rattle.std.specs.Char.{is_ascii_digit, is_ascii_hexdigit}
use Rattle.dh_syntax.specs.Text.Characters.{is_name_byte, is_quoted_label_byte, is_quoted_path_byte, is_host_byte, is_environment_byte, is_quoted_environment_byte}
use Rattle.dh_syntax.specs.Imports.Locations.{is_path_character}
use Rattle.dh_tokens.specs.declared.classes.Class.{Class}
use Rattle.dh_tokens.specs.declared.classes.Class.TheVariants as classes

-- whether a byte is in a class
abbrev pub has : Class → ℕ → Bool
has classes.Name = is_name_byte
has classes.QuotedLabel = is_quoted_label_byte
has classes.Digit = is_ascii_digit
has classes.HexDigit = is_ascii_hexdigit
has classes.Path = is_path_character
has classes.QuotedPath = is_quoted_path_byte
has classes.Host = is_host_byte
has classes.Environment = is_environment_byte
has classes.QuotedEnvironment = is_quoted_environment_byte
