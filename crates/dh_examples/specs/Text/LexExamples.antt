-- What the lexer reads: names, numbers, marks and what stands between tokens. The expected tokens are worked out by hand.
use Rattle.std.specs.Prelude.{◌≡◌, refl, ℕ, ◌-◌, ◌^◌, true, false, List, [], ◌∷◌, ◌++◌, Result, Ok, Err, codes, pos, negsuc, encode_utf8_all}
use Rattle.std.specs.Char.{encode_utf8}
use Prim.Native.String.{String}
use Rattle.dh_syntax.specs.declared.operators.BinOp.TheVariants as binary
use Rattle.dh_syntax.specs.declared.operators.Builtin.TheVariants as builtins
use Rattle.dh_syntax.specs.declared.tokens.Keyword.TheVariants as keywords
use Rattle.dh_syntax.specs.declared.tokens.Mark.TheVariants as marks
use Rattle.dh_syntax.specs.declared.tokens.Token.{Token}
use Rattle.dh_syntax.specs.declared.tokens.TokenKind.{TokenKind}
use Rattle.dh_syntax.specs.declared.tokens.TokenKind.TheVariants as kinds
use Rattle.dh_syntax.specs.declared.tokens.TokenKind.TheVariants.{Name, Quoted, Natural, Integer, Mark, End}
use Rattle.dh_syntax.specs.Text.Lexing.{LexFault, lex}

-- the UTF-8 bytes of a text
abbrev pub utf8 : String → List ℕ
utf8 text = encode_utf8_all (codes text)

-- a token from one offset to another, after white space and directly after the last one
abbrev pub spaced : TokenKind → ℕ → ℕ → Token
spaced kind from to = record { kind = kind; from = from; to = to; gap = true }

-- a token that follows the one before it without a gap, with where it starts and ends
abbrev pub joined : TokenKind → ℕ → ℕ → Token
joined kind from to = record { kind = kind; from = from; to = to; gap = false }

-- what tokens are, without their places
abbrev pub kinds_of : List Token → List TokenKind
kinds_of [] = []
kinds_of (t ∷ ts) = t.kind ∷ kinds_of ts

-- what the lexer's tokens are without their places, or its fault
abbrev pub kinds_in : Result (List Token) LexFault → Result (List TokenKind) LexFault
kinds_in (Ok ts) = Ok (kinds_of ts)
kinds_in (Err fault) = Err fault

-- what the tokens of a text are, the end aside
abbrev pub Reads : String → List TokenKind → Type 0
Reads text tokens = kinds_in (lex (utf8 text)) ≡ Ok (tokens ++ End ∷ [])

-- the fault of a text
abbrev pub Faults : String → LexFault → Type 0
Faults text fault = lex (utf8 text) ≡ Err fault

-- the token of a name
abbrev pub named : String → TokenKind
named x = Name (codes x)

-- the token of a name in back quotes
abbrev pub quoted : String → TokenKind
quoted x = Quoted (codes x)

places_and_gaps :
    lex (utf8 "x  (y)") ≡ Ok (spaced (named "x") 0 1 ∷ spaced (Mark marks.ParenOpen) 3 4 ∷ joined (named "y") 4 5
    ∷ joined (Mark marks.ParenClose) 5 6 ∷ joined End 6 6 ∷ [])
unfolding lex encode_utf8
places_and_gaps = refl

no_text : lex [] ≡ Ok (spaced End 0 0 ∷ [])
unfolding lex encode_utf8
no_text = refl

only_white_space : lex (utf8 " \t\n\r\n") ≡ Ok (spaced End 5 5 ∷ [])
unfolding lex encode_utf8
only_white_space = refl

all_keywords :
    Reads "if then else let in missing assert as merge Some toMap with forall"
    (kinds.Keyword keywords.If ∷ kinds.Keyword keywords.Then ∷ kinds.Keyword keywords.Else
    ∷ kinds.Keyword keywords.Let ∷ kinds.Keyword keywords.In ∷ kinds.Keyword keywords.Missing
    ∷ kinds.Keyword keywords.Assert ∷ kinds.Keyword keywords.As ∷ kinds.Keyword keywords.Merge
    ∷ kinds.Keyword keywords.Some ∷ kinds.Keyword keywords.ToMap ∷ kinds.Keyword keywords.With ∷ Mark marks.Forall
    ∷ [])
unfolding lex encode_utf8
all_keywords = refl

built_in_names :
    Reads "True False Type Kind Sort Bool Natural Integer Text List Optional None"
    (kinds.Bool true ∷ kinds.Bool false ∷ kinds.Builtin builtins.TypeConst ∷ kinds.Builtin builtins.Kind
    ∷ kinds.Builtin builtins.Sort ∷ kinds.Builtin builtins.Bool ∷ kinds.Builtin builtins.Natural
    ∷ kinds.Builtin builtins.Integer ∷ kinds.Builtin builtins.Text ∷ kinds.Builtin builtins.List
    ∷ kinds.Builtin builtins.Optional ∷ kinds.Builtin builtins.None ∷ [])
unfolding lex encode_utf8
built_in_names = refl

built_in_functions_on_numbers :
    Reads "Natural/fold Natural/build Natural/isZero Natural/even Natural/odd Natural/toInteger Natural/show Natural/subtract Integer/show Integer/negate Integer/clamp"
    (kinds.Builtin builtins.NaturalFold ∷ kinds.Builtin builtins.NaturalBuild
    ∷ kinds.Builtin builtins.NaturalIsZero ∷ kinds.Builtin builtins.NaturalEven
    ∷ kinds.Builtin builtins.NaturalOdd ∷ kinds.Builtin builtins.NaturalToInteger
    ∷ kinds.Builtin builtins.NaturalShow ∷ kinds.Builtin builtins.NaturalSubtract
    ∷ kinds.Builtin builtins.IntegerShow ∷ kinds.Builtin builtins.IntegerNegate
    ∷ kinds.Builtin builtins.IntegerClamp ∷ [])
unfolding lex encode_utf8
built_in_functions_on_numbers = refl

built_in_functions_on_lists_and_texts :
    Reads "List/build List/fold List/length List/head List/last List/indexed List/reverse Text/show Text/replace"
    (kinds.Builtin builtins.ListBuild ∷ kinds.Builtin builtins.ListFold
    ∷ kinds.Builtin builtins.ListLength ∷ kinds.Builtin builtins.ListHead
    ∷ kinds.Builtin builtins.ListLast ∷ kinds.Builtin builtins.ListIndexed
    ∷ kinds.Builtin builtins.ListReverse ∷ kinds.Builtin builtins.TextShow
    ∷ kinds.Builtin builtins.TextReplace ∷ [])
unfolding lex encode_utf8
built_in_functions_on_lists_and_texts = refl

-- a longer name is no keyword, no built-in name and no name that is left out
whole_names :
    Reads "x _ _x1 a-b a/b iff if- Some/ True_ Natural/ Natural/folds Doubles Infinity_ foralls"
    (named "x" ∷ named "_" ∷ named "_x1" ∷ named "a-b" ∷ named "a/b" ∷ named "iff" ∷ named "if-" ∷ named "Some/"
    ∷ named "True_" ∷ named "Natural/" ∷ named "Natural/folds" ∷ named "Doubles" ∷ named "Infinity_"
    ∷ named "foralls" ∷ [])
unfolding lex encode_utf8
whole_names = refl

names_and_marks : Reads "x.y@1" (named "x" ∷ Mark marks.Dot ∷ named "y" ∷ Mark marks.At ∷ Natural 1 ∷ [])
unfolding lex encode_utf8
names_and_marks = refl

quoted_names :
    Reads "`` `if` `a b` `\"${\\` `Double` `!}~`"
    (quoted "" ∷ quoted "if" ∷ quoted "a b" ∷ quoted "\"${\\" ∷ quoted "Double" ∷ quoted "!}~" ∷ [])
unfolding lex encode_utf8
quoted_names = refl

quoted_beside_plain :
    lex (utf8 "a`b`c") ≡ Ok (spaced (named "a") 0 1 ∷ joined (quoted "b") 1 4 ∷ joined (named "c") 4 5
    ∷ joined End 5 5 ∷ [])
unfolding lex encode_utf8
quoted_beside_plain = refl

naturals :
    Reads "0 7 10 0x0 0xfF 0x00aB"
    (Natural 0 ∷ Natural 7 ∷ Natural 10 ∷ Natural 0 ∷ Natural 255 ∷ Natural 171 ∷ [])
unfolding lex encode_utf8
naturals = refl

-- -7 is `negsuc 6`, -31 is `negsuc 30`
integers :
    Reads "+0 -0 -7 +12 -0x1F"
    (Integer (pos 0) ∷ Integer (pos 0) ∷ Integer (negsuc 6) ∷ Integer (pos 12) ∷ Integer (negsuc 30) ∷ [])
unfolding lex encode_utf8
integers = refl

zero_then_digits :
    lex (utf8 "007") ≡ Ok (spaced (Natural 0) 0 1 ∷ joined (Natural 0) 1 2 ∷ joined (Natural 7) 2 3 ∷ joined End 3 3
    ∷ [])
unfolding lex encode_utf8
zero_then_digits = refl

sign_after_gap : lex (utf8 "1 +2") ≡ Ok (spaced (Natural 1) 0 1 ∷ spaced (Integer (pos 2)) 2 4 ∷ joined End 4 4 ∷ [])
unfolding lex encode_utf8
sign_after_gap = refl

sign_without_gap : lex (utf8 "1+2") ≡ Ok (spaced (Natural 1) 0 1 ∷ joined (Integer (pos 2)) 1 3 ∷ joined End 3 3 ∷ [])
unfolding lex encode_utf8
sign_without_gap = refl

sign_apart : Reads "1 + 2" (Natural 1 ∷ Mark (marks.Operator binary.Plus) ∷ Natural 2 ∷ [])
unfolding lex encode_utf8
sign_apart = refl

no_exponent :
    Reads "1e 1ex 1e+ 0x1E+5"
    (Natural 1 ∷ named "e" ∷ Natural 1 ∷ named "ex" ∷ Natural 1 ∷ named "e" ∷ Mark (marks.Operator binary.Plus)
    ∷ Natural 30 ∷ Integer (pos 5) ∷ [])
unfolding lex encode_utf8
no_exponent = refl

no_fraction : Reads "1. 1.x" (Natural 1 ∷ Mark marks.Dot ∷ Natural 1 ∷ Mark marks.Dot ∷ named "x" ∷ [])
unfolding lex encode_utf8
no_fraction = refl

-- no number stands before the point or the `e`
no_number_before : Reads ".5 e5" (Mark marks.Dot ∷ Natural 5 ∷ named "e5" ∷ [])
unfolding lex encode_utf8
no_number_before = refl

-- in `-02` the integer is `-0`, and a 2 follows
no_date_and_no_time :
    Reads "2020-1-02 2020-01-2 123:45 12:3"
    (Natural 2020 ∷ Integer (negsuc 0) ∷ Integer (pos 0) ∷ Natural 2 ∷ Natural 2020 ∷ Integer (pos 0) ∷ Natural 1 ∷ Integer (negsuc 1) ∷ Natural 123 ∷ Mark marks.Colon ∷ Natural 45
    ∷ Natural 12 ∷ Mark marks.Colon ∷ Natural 3 ∷ [])
unfolding lex encode_utf8
no_date_and_no_time = refl

zero_then_name :
    Reads "0x 0xg 0b 0b2 +0b1"
    (Natural 0 ∷ named "x" ∷ Natural 0 ∷ named "xg" ∷ Natural 0 ∷ named "b" ∷ Natural 0 ∷ named "b2"
    ∷ Integer (pos 0) ∷ named "b1" ∷ [])
unfolding lex encode_utf8
zero_then_name = refl

widest_natural : Reads "340282366920938463463374607431768211455" (Natural (2 ^ 128 - 1) ∷ [])
unfolding lex encode_utf8
widest_natural = refl

widest_hexadecimal : Reads "0x0ffffffffffffffffffffffffffffffff" (Natural (2 ^ 128 - 1) ∷ [])
unfolding lex encode_utf8
widest_hexadecimal = refl

widest_integers :
    Reads "+170141183460469231731687303715884105727 -170141183460469231731687303715884105728"
    (Integer (pos (2 ^ 127 - 1)) ∷ Integer (negsuc (2 ^ 127 - 1)) ∷ [])
unfolding lex encode_utf8
widest_integers = refl

widest_index : Reads "x@2147483647" (named "x" ∷ Mark marks.At ∷ Natural 2147483647 ∷ [])
unfolding lex encode_utf8
widest_index = refl

all_marks :
    Reads "( ) [ ] { } < > , . : = @ |"
    (Mark marks.ParenOpen ∷ Mark marks.ParenClose ∷ Mark marks.BracketOpen ∷ Mark marks.BracketClose
    ∷ Mark marks.BraceOpen ∷ Mark marks.BraceClose ∷ Mark marks.AngleOpen ∷ Mark marks.AngleClose
    ∷ Mark marks.Comma ∷ Mark marks.Dot ∷ Mark marks.Colon ∷ Mark marks.Equals ∷ Mark marks.At ∷ Mark marks.Bar
    ∷ [])
unfolding lex encode_utf8
all_marks = refl

all_operators :
    Reads ":: || && + ++ # * == != ?"
    (Mark (marks.Operator binary.Complete) ∷ Mark (marks.Operator binary.Or) ∷ Mark (marks.Operator binary.And)
    ∷ Mark (marks.Operator binary.Plus) ∷ Mark (marks.Operator binary.TextAppend)
    ∷ Mark (marks.Operator binary.ListAppend) ∷ Mark (marks.Operator binary.Times)
    ∷ Mark (marks.Operator binary.Equal) ∷ Mark (marks.Operator binary.NotEqual)
    ∷ Mark (marks.Operator binary.Fallback) ∷ [])
unfolding lex encode_utf8
all_operators = refl

both_spellings :
    Reads "\\ -> /\\ // //\\\\ === λ→∧⫽⩓≡∀"
    (Mark marks.Lambda ∷ Mark marks.Arrow ∷ Mark (marks.Operator binary.Combine)
    ∷ Mark (marks.Operator binary.Prefer) ∷ Mark (marks.Operator binary.CombineTypes)
    ∷ Mark (marks.Operator binary.Equivalent) ∷ Mark marks.Lambda ∷ Mark marks.Arrow
    ∷ Mark (marks.Operator binary.Combine) ∷ Mark (marks.Operator binary.Prefer)
    ∷ Mark (marks.Operator binary.CombineTypes) ∷ Mark (marks.Operator binary.Equivalent) ∷ Mark marks.Forall
    ∷ [])
unfolding lex encode_utf8
both_spellings = refl

places_past_ascii :
    lex (utf8 "λ→x") ≡ Ok (spaced (Mark marks.Lambda) 0 2 ∷ joined (Mark marks.Arrow) 2 5 ∷ joined (named "x") 5 6
    ∷ joined End 6 6 ∷ [])
unfolding lex encode_utf8
places_past_ascii = refl

longest_marks :
    Reads "::: ==== ||| +++ ++1 +++1 /\\\\ //\\ ->>"
    (Mark (marks.Operator binary.Complete) ∷ Mark marks.Colon ∷ Mark (marks.Operator binary.Equivalent)
    ∷ Mark marks.Equals ∷ Mark (marks.Operator binary.Or) ∷ Mark marks.Bar
    ∷ Mark (marks.Operator binary.TextAppend) ∷ Mark (marks.Operator binary.Plus)
    ∷ Mark (marks.Operator binary.TextAppend) ∷ Natural 1 ∷ Mark (marks.Operator binary.TextAppend)
    ∷ Integer (pos 1) ∷ Mark (marks.Operator binary.Combine) ∷ Mark marks.Lambda
    ∷ Mark (marks.Operator binary.Prefer) ∷ Mark marks.Lambda ∷ Mark marks.Arrow ∷ Mark marks.AngleClose ∷ [])
unfolding lex encode_utf8
longest_marks = refl

-- `é` takes two bytes
line_comments :
    lex (utf8 "1--é \t-\n2 -- x") ≡ Ok (spaced (Natural 1) 0 1 ∷ spaced (Natural 2) 9 10 ∷ spaced End 15 15 ∷ [])
unfolding lex encode_utf8
line_comments = refl

line_comment_before_crlf :
    lex (utf8 "1 --\r\n2") ≡ Ok (spaced (Natural 1) 0 1 ∷ spaced (Natural 2) 6 7 ∷ joined End 7 7 ∷ [])
unfolding lex encode_utf8
line_comment_before_crlf = refl

dashes_in_a_name : Reads "x--y" (named "x--y" ∷ [])
unfolding lex encode_utf8
dashes_in_a_name = refl

block_comments :
    lex (utf8 "1{- a {- é\r\n -} - } \t-}2{--}") ≡ Ok (spaced (Natural 1) 0 1 ∷ spaced (Natural 2) 24 25
    ∷ spaced End 29 29 ∷ [])
unfolding lex encode_utf8
block_comments = refl

-- in `{-}` the comment is still open
braces_in_comments : lex (utf8 "{-}-}{-{-}-}-}1") ≡ Ok (spaced (Natural 1) 14 15 ∷ joined End 15 15 ∷ [])
unfolding lex encode_utf8
braces_in_comments = refl

skipped_lines : lex (utf8 "#!/bin/é\n#!\r\n1") ≡ Ok (spaced (Natural 1) 14 15 ∷ joined End 15 15 ∷ [])
unfolding lex encode_utf8
skipped_lines = refl

-- `#` alone skips no line
no_skipped_line : Reads "#x\n#" (Mark (marks.Operator binary.ListAppend) ∷ named "x" ∷ Mark (marks.Operator binary.ListAppend) ∷ [])
unfolding lex encode_utf8
no_skipped_line = refl

skipped_line_alone : lex (utf8 "#! x") ≡ Ok (spaced End 4 4 ∷ [])
unfolding lex encode_utf8
skipped_line_alone = refl
