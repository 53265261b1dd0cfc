-- Text literals: "double-quote-literal" and "single-quote-literal" of `dhall.abnf`.
use Rattle.std.specs.Prelude.{ℕ, ◌+◌, not, ◌&&◌, ◌||◌, List, [], ◌∷◌, Option, None, nat_lt, ◌==◌, if◌then◌else◌, drop, codes}
use Rattle.dh_syntax.specs.declared.tokens.TextForm.{TextForm}
use Rattle.dh_syntax.specs.declared.tokens.TextForm.TheVariants.{DoubleQuoted, MultiLine}
use Rattle.dh_syntax.specs.declared.tokens.TokenKind.TheVariants as kinds
use Rattle.dh_syntax.specs.Text.Characters.{first, begins, tab, line_feed, line_end_len}
use Rattle.dh_syntax.specs.Text.Literals.{escaped}
use Rattle.dh_syntax.specs.Text.Stretches.{Character, Reads, Ends, stretch, itself, good_character}
use Rattle.dh_syntax.specs.Text.LexForms.{Is, Form, form, stretching}

-- `"`
abbrev pub double_quoted_opening : List ℕ → Option Form
double_quoted_opening bs = if begins "\"" bs then form (Is (kinds.TextOpen DoubleQuoted)) 1 else None

-- `''` and an end-of-line
abbrev pub multi_line_opening : List ℕ → Option Form
multi_line_opening bs =
    let n = line_end_len (drop 2 bs) in
    if begins "''" bs && nat_lt 0 n then form (Is (kinds.TextOpen MultiLine)) (2 + n) else None

-- how many bytes the closing of a text at the front takes, 0 where there is none: `"`, or `''` that begins neither
-- escaped-quote-pair nor escaped-interpolation
abbrev pub closing_len : TextForm → List ℕ → ℕ
closing_len DoubleQuoted bs = if begins "\"" bs then 1 else 0
closing_len MultiLine bs = if begins "''" bs && not (begins "'''" bs) && not (begins "''${" bs) then 2 else 0

-- double-quote-chunk, but for interpolation
abbrev pub double_quoted_character : List ℕ → Character
double_quoted_character bs = if begins "\\" bs then escaped (drop 1 bs) else good_character bs

-- single-quote-continue, but for interpolation: a character, escaped-quote-pair, escaped-interpolation
abbrev pub multi_line_character : List ℕ → Character
multi_line_character bs =
    if begins "'''" bs then Reads (codes "''") 3
    else if begins "''${" bs then Reads (codes "${") 4
    else if nat_lt 0 (line_end_len bs) then Reads (line_feed ∷ []) (line_end_len bs)
    else if first bs == tab then itself bs
    else good_character bs

-- a character of a text by its form
abbrev pub character_of : TextForm → List ℕ → Character
character_of DoubleQuoted bs = double_quoted_character bs
character_of MultiLine bs = multi_line_character bs

-- a character of a text's piece, which ends at the closing and at `${`
abbrev pub piece_character : TextForm → List ℕ → Character
piece_character f bs = if nat_lt 0 (closing_len f bs) || begins "${" bs then Ends else character_of f bs

-- what stands among the characters of a text: its closing, `${`, or the piece up to the next of these
abbrev pub text_part : TextForm → List ℕ → Option Form
text_part f bs =
    if nat_lt 0 (closing_len f bs) then form (Is kinds.TextClose) (closing_len f bs)
    else if begins "${" bs then form (Is kinds.InterpolationOpen) 2
    else stretching (λ text. Is (kinds.TextPiece text)) 0 (stretch (piece_character f) 0 bs)
