-- What the lexer reads of text literals, with interpolations to any depth.
use Rattle.std.specs.Prelude.{◌≡◌, refl, [], ◌∷◌, Ok}
use Rattle.std.specs.Char.{encode_utf8}
use Prim.Native.String.{String}
use Rattle.dh_syntax.specs.declared.operators.BinOp.TheVariants as binary
use Rattle.dh_syntax.specs.declared.operators.Builtin.TheVariants as builtins
use Rattle.dh_syntax.specs.declared.tokens.Keyword.TheVariants as keywords
use Rattle.dh_syntax.specs.declared.tokens.Mark.TheVariants as marks
use Rattle.dh_syntax.specs.declared.tokens.TextForm.TheVariants.{DoubleQuoted, MultiLine}
use Rattle.dh_syntax.specs.declared.tokens.TokenKind.{TokenKind}
use Rattle.dh_syntax.specs.declared.tokens.TokenKind.TheVariants as kinds
use Rattle.dh_syntax.specs.declared.tokens.TokenKind.TheVariants.{Natural, TextOpen, TextPiece, InterpolationOpen, InterpolationClose, TextClose, Mark, End}
use Rattle.dh_examples.specs.Text.LexExamples.{utf8, spaced, joined, named, Reads}
use Rattle.dh_syntax.specs.Text.Lexing.{lex}

-- the token of a piece of a text literal
abbrev piece : String → TokenKind
piece text = TextPiece (utf8 text)

no_characters :
    lex (utf8 "\"\"") ≡ Ok (spaced (TextOpen DoubleQuoted) 0 1 ∷ joined TextClose 1 2 ∷ joined End 2 2 ∷ [])
unfolding lex encode_utf8
no_characters = refl

one_piece :
    lex (utf8 " \"a b\" ") ≡ Ok (spaced (TextOpen DoubleQuoted) 1 2 ∷ joined (piece "a b") 2 5 ∷ joined TextClose 5 6
    ∷ spaced End 7 7 ∷ [])
unfolding lex encode_utf8
one_piece = refl

interpolation :
    lex (utf8 "\"a ${ x} b\"") ≡ Ok (spaced (TextOpen DoubleQuoted) 0 1 ∷ joined (piece "a ") 1 3
    ∷ joined InterpolationOpen 3 5 ∷ spaced (named "x") 6 7 ∷ joined InterpolationClose 7 8
    ∷ joined (piece " b") 8 10 ∷ joined TextClose 10 11 ∷ joined End 11 11 ∷ [])
unfolding lex encode_utf8
interpolation = refl

interpolations_without_pieces :
    Reads "\"${x}${y}\""
    (TextOpen DoubleQuoted ∷ InterpolationOpen ∷ named "x" ∷ InterpolationClose ∷ InterpolationOpen ∷ named "y"
    ∷ InterpolationClose ∷ TextClose ∷ [])
unfolding lex encode_utf8
interpolations_without_pieces = refl

gap_before_the_end_of_an_interpolation :
    lex (utf8 "\"${x }\"") ≡ Ok (spaced (TextOpen DoubleQuoted) 0 1 ∷ joined InterpolationOpen 1 3
    ∷ joined (named "x") 3 4 ∷ spaced InterpolationClose 5 6 ∷ joined TextClose 6 7 ∷ joined End 7 7 ∷ [])
unfolding lex encode_utf8
gap_before_the_end_of_an_interpolation = refl

braces_in_interpolations :
    Reads "\"${ { a = {=} } }}\""
    (TextOpen DoubleQuoted ∷ InterpolationOpen ∷ Mark marks.BraceOpen ∷ named "a" ∷ Mark marks.Equals
    ∷ Mark marks.BraceOpen ∷ Mark marks.Equals ∷ Mark marks.BraceClose ∷ Mark marks.BraceClose
    ∷ InterpolationClose ∷ piece "}" ∷ TextClose ∷ [])
unfolding lex encode_utf8
braces_in_interpolations = refl

texts_in_interpolations :
    Reads "\"a${\"b${\"c${1}\"}d\" ++ x}e\""
    (TextOpen DoubleQuoted ∷ piece "a" ∷ InterpolationOpen ∷ TextOpen DoubleQuoted ∷ piece "b" ∷ InterpolationOpen
    ∷ TextOpen DoubleQuoted ∷ piece "c" ∷ InterpolationOpen ∷ Natural 1 ∷ InterpolationClose ∷ TextClose
    ∷ InterpolationClose ∷ piece "d" ∷ TextClose ∷ Mark (marks.Operator binary.TextAppend) ∷ named "x"
    ∷ InterpolationClose ∷ piece "e" ∷ TextClose ∷ [])
unfolding lex encode_utf8
texts_in_interpolations = refl

-- the braces of an inner text do not count for the outer one
braces_between_texts :
    Reads "\"${{ a = \"}${ {} }{\" }}\""
    (TextOpen DoubleQuoted ∷ InterpolationOpen ∷ Mark marks.BraceOpen ∷ named "a" ∷ Mark marks.Equals
    ∷ TextOpen DoubleQuoted ∷ piece "}" ∷ InterpolationOpen ∷ Mark marks.BraceOpen ∷ Mark marks.BraceClose
    ∷ InterpolationClose ∷ piece "{" ∷ TextClose ∷ Mark marks.BraceClose ∷ InterpolationClose ∷ TextClose ∷ [])
unfolding lex encode_utf8
braces_between_texts = refl

brackets_do_not_close :
    Reads "\"${(}\""
    (TextOpen DoubleQuoted ∷ InterpolationOpen ∷ Mark marks.ParenOpen ∷ InterpolationClose ∷ TextClose ∷ [])
unfolding lex encode_utf8
brackets_do_not_close = refl

closing_brace_outside :
    Reads "} \"${1}\" }"
    (Mark marks.BraceClose ∷ TextOpen DoubleQuoted ∷ InterpolationOpen ∷ Natural 1 ∷ InterpolationClose
    ∷ TextClose ∷ Mark marks.BraceClose ∷ [])
unfolding lex encode_utf8
closing_brace_outside = refl

comment_in_interpolation :
    Reads "\"${x -- }\"\n {- } -} }\""
    (TextOpen DoubleQuoted ∷ InterpolationOpen ∷ named "x" ∷ InterpolationClose ∷ TextClose ∷ [])
unfolding lex encode_utf8
comment_in_interpolation = refl

dollars :
    Reads "\"$ $$ $$${x}\""
    (TextOpen DoubleQuoted ∷ piece "$ $$ $$" ∷ InterpolationOpen ∷ named "x" ∷ InterpolationClose ∷ TextClose
    ∷ [])
unfolding lex encode_utf8
dollars = refl

comments_are_text : Reads "\"-- {- -}\"" (TextOpen DoubleQuoted ∷ piece "-- {- -}" ∷ TextClose ∷ [])
unfolding lex encode_utf8
comments_are_text = refl

-- two, three and four bytes
past_ascii :
    lex (utf8 "\"é→😀\"") ≡ Ok (spaced (TextOpen DoubleQuoted) 0 1 ∷ joined (piece "é→😀") 1 10 ∷ joined TextClose 10 11
    ∷ joined End 11 11 ∷ [])
unfolding lex encode_utf8
past_ascii = refl

delete_is_text : Reads "\"\u{7f}\"" (TextOpen DoubleQuoted ∷ piece "\u{7f}" ∷ TextClose ∷ [])
unfolding lex encode_utf8
delete_is_text = refl

single_quotes_are_text :
    Reads "\"'' ''' ''${1}\""
    (TextOpen DoubleQuoted ∷ piece "'' ''' ''" ∷ InterpolationOpen ∷ Natural 1 ∷ InterpolationClose ∷ TextClose
    ∷ [])
unfolding lex encode_utf8
single_quotes_are_text = refl

escapes :
    lex (utf8 "\"\\\"\\$\\\\\\/\\b\\f\\n\\r\\t\"") ≡ Ok (spaced (TextOpen DoubleQuoted) 0 1
    ∷ joined (piece "\"$\\/\u{8}\u{c}\n\r\t") 1 19 ∷ joined TextClose 19 20 ∷ joined End 20 20 ∷ [])
unfolding lex encode_utf8
escapes = refl

escaped_interpolation : Reads "\"\\${x}\"" (TextOpen DoubleQuoted ∷ piece "${x}" ∷ TextClose ∷ [])
unfolding lex encode_utf8
escaped_interpolation = refl

numbered_escapes :
    Reads "\"\\u0041\\u00e9\\u2200\\uFFFD\\u{41}\\u{1F600}\\u{0000010FFFD}x\""
    (TextOpen DoubleQuoted ∷ piece "Aé∀�A😀\u{10fffd}x" ∷ TextClose ∷ [])
unfolding lex encode_utf8
numbered_escapes = refl

-- the last character before the surrogates and the first one after them
beside_surrogates : Reads "\"\\ud7ff\\uE000\"" (TextOpen DoubleQuoted ∷ piece "\u{d7ff}\u{e000}" ∷ TextClose ∷ [])
unfolding lex encode_utf8
beside_surrogates = refl

four_digits_and_a_fifth : Reads "\"\\u00411\"" (TextOpen DoubleQuoted ∷ piece "A1" ∷ TextClose ∷ [])
unfolding lex encode_utf8
four_digits_and_a_fifth = refl

-- the indentation stays
multi_line :
    lex (utf8 "''\n  a\n    b\n  ''") ≡ Ok (spaced (TextOpen MultiLine) 0 3 ∷ joined (piece "  a\n    b\n  ") 3 15
    ∷ joined TextClose 15 17 ∷ joined End 17 17 ∷ [])
unfolding lex encode_utf8
multi_line = refl

multi_line_crlf :
    lex (utf8 "''\r\na\r\n\t''") ≡ Ok (spaced (TextOpen MultiLine) 0 4 ∷ joined (piece "a\n\t") 4 8
    ∷ joined TextClose 8 10 ∷ joined End 10 10 ∷ [])
unfolding lex encode_utf8
multi_line_crlf = refl

multi_line_empty : Reads "''\n''" (TextOpen MultiLine ∷ TextClose ∷ [])
unfolding lex encode_utf8
multi_line_empty = refl

multi_line_escapes :
    lex (utf8 "''\n'''\\n''${\"'${x}''") ≡ Ok (spaced (TextOpen MultiLine) 0 3 ∷ joined (piece "''\\n${\"'") 3 14
    ∷ joined InterpolationOpen 14 16 ∷ joined (named "x") 16 17 ∷ joined InterpolationClose 17 18
    ∷ joined TextClose 18 20 ∷ joined End 20 20 ∷ [])
unfolding lex encode_utf8
multi_line_escapes = refl

multi_line_quotes : Reads "''\na'b''''''c''" (TextOpen MultiLine ∷ piece "a'b''''c" ∷ TextClose ∷ [])
unfolding lex encode_utf8
multi_line_quotes = refl

-- two quotes and the closing
five_quotes : Reads "''\n'''''" (TextOpen MultiLine ∷ piece "''" ∷ TextClose ∷ [])
unfolding lex encode_utf8
five_quotes = refl

multi_line_in_interpolation :
    Reads "\"${''\n${\"}\"}}''}\""
    (TextOpen DoubleQuoted ∷ InterpolationOpen ∷ TextOpen MultiLine ∷ InterpolationOpen ∷ TextOpen DoubleQuoted
    ∷ piece "}" ∷ TextClose ∷ InterpolationClose ∷ piece "}" ∷ TextClose ∷ InterpolationClose ∷ TextClose ∷ [])
unfolding lex encode_utf8
multi_line_in_interpolation = refl

ordinary_use :
    Reads "in  λ(p : T.Person) →\n  let tail = merge { Admin = \"admin\", User = λ(n : Natural) → \"user ${Natural/show n}\" } p.role\n  in  \"${p.name}: ${tail}\""
    (kinds.Keyword keywords.In ∷ Mark marks.Lambda ∷ Mark marks.ParenOpen ∷ named "p" ∷ Mark marks.Colon
    ∷ named "T" ∷ Mark marks.Dot ∷ named "Person" ∷ Mark marks.ParenClose ∷ Mark marks.Arrow
    ∷ kinds.Keyword keywords.Let ∷ named "tail" ∷ Mark marks.Equals ∷ kinds.Keyword keywords.Merge
    ∷ Mark marks.BraceOpen ∷ named "Admin" ∷ Mark marks.Equals ∷ TextOpen DoubleQuoted ∷ piece "admin"
    ∷ TextClose ∷ Mark marks.Comma ∷ named "User" ∷ Mark marks.Equals ∷ Mark marks.Lambda
    ∷ Mark marks.ParenOpen ∷ named "n" ∷ Mark marks.Colon ∷ kinds.Builtin builtins.Natural
    ∷ Mark marks.ParenClose ∷ Mark marks.Arrow ∷ TextOpen DoubleQuoted ∷ piece "user " ∷ InterpolationOpen
    ∷ kinds.Builtin builtins.NaturalShow ∷ named "n" ∷ InterpolationClose ∷ TextClose ∷ Mark marks.BraceClose
    ∷ named "p" ∷ Mark marks.Dot ∷ named "role" ∷ kinds.Keyword keywords.In ∷ TextOpen DoubleQuoted
    ∷ InterpolationOpen ∷ named "p" ∷ Mark marks.Dot ∷ named "name" ∷ InterpolationClose ∷ piece ": "
    ∷ InterpolationOpen ∷ named "tail" ∷ InterpolationClose ∷ TextClose ∷ [])
unfolding lex encode_utf8
ordinary_use = refl
