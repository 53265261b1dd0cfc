-- Numbers and texts read and written, by hand.
use Rattle.std.specs.Prelude.{◌≡◌, refl, ℕ, ◌-◌, ◌^◌, true, false, List, [], ◌∷◌, map, Some, None, Ok, Err, codes, pos, negsuc}
use Rattle.std.specs.Char.{encode_utf8}
use Rattle.std.specs.Fmt.{digits}
use Prim.Native.String.{String}
use Rattle.dh_examples.specs.Text.LexExamples.{utf8}
use Rattle.dh_syntax.specs.Text.Literals.{unescape, unindent, escape}
use Rattle.dh_syntax.specs.Text.Numerals.{is_natural, is_integer, read_natural, read_integer, write_natural, write_integer}

-- which texts are one natural, one integer
are_naturals :
    map (λ t. is_natural (codes t)) ("0" ∷ "12" ∷ "0xfF" ∷ "" ∷ "00" ∷ "0x" ∷ "1a" ∷ "+1" ∷ []) ≡ (true ∷ true ∷ true
    ∷ false ∷ false ∷ false ∷ false ∷ false ∷ [])
are_naturals = refl

are_integers :
    map (λ t. is_integer (codes t)) ("+0" ∷ "-12" ∷ "-0xfF" ∷ "" ∷ "1" ∷ "+" ∷ "+00" ∷ "--1" ∷ []) ≡ (true ∷ true ∷ true
    ∷ false ∷ false ∷ false ∷ false ∷ false ∷ [])
are_integers = refl

naturals_read :
    map (λ t. read_natural (codes t)) ("0" ∷ "1024" ∷ "0x10" ∷ "0xABCdef" ∷ []) ≡ (Some 0 ∷ Some 1024 ∷ Some 16
    ∷ Some 11259375 ∷ [])
naturals_read = refl

widest_naturals :
    map (λ t. read_natural (codes t)) ("340282366920938463463374607431768211455"
    ∷ "340282366920938463463374607431768211456" ∷ "0x00ffffffffffffffffffffffffffffffff"
    ∷ "0x100000000000000000000000000000000" ∷ []) ≡ (Some (2 ^ 128 - 1) ∷ None ∷ Some (2 ^ 128 - 1) ∷ None ∷ [])
widest_naturals = refl

-- -7 is `negsuc 6`
integers_read :
    map (λ t. read_integer (codes t)) ("+0" ∷ "-0" ∷ "-7" ∷ "+0x10" ∷ []) ≡ (Some (pos 0) ∷ Some (pos 0)
    ∷ Some (negsuc 6) ∷ Some (pos 16) ∷ [])
integers_read = refl

widest_integers :
    map (λ t. read_integer (codes t)) ("+170141183460469231731687303715884105727"
    ∷ "+170141183460469231731687303715884105728" ∷ "-170141183460469231731687303715884105728"
    ∷ "-170141183460469231731687303715884105729" ∷ []) ≡ (Some (pos (2 ^ 127 - 1)) ∷ None
    ∷ Some (negsuc (2 ^ 127 - 1)) ∷ None ∷ [])
widest_integers = refl

naturals_written :
    map write_natural (0 ∷ 1024 ∷ (2 ^ 128 - 1) ∷ []) ≡ (codes "0" ∷ codes "1024"
    ∷ codes "340282366920938463463374607431768211455" ∷ [])
unfolding digits
naturals_written = refl

integers_written :
    map write_integer (pos 0 ∷ pos 5 ∷ negsuc 0 ∷ negsuc (2 ^ 127 - 1) ∷ []) ≡ (codes "+0" ∷ codes "+5" ∷ codes "-1"
    ∷ codes "-170141183460469231731687303715884105728" ∷ [])
unfolding digits
integers_written = refl

escapes_read :
    unescape (utf8 "é\\\"\\$\\\\\\/\\b\\f\\n\\r\\t\\u0041\\u{1f600}\\u{0000E9}$")
    ≡ Ok (utf8 "é\"$\\/\u{8}\u{c}\n\r\tA😀é$")
unfolding encode_utf8
escapes_read = refl

bad_escapes :
    map (λ t. unescape (codes t)) ("\\q" ∷ "a\\" ∷ "\\\\\\u12" ∷ "ab\\ud800" ∷ "\\u{110000}" ∷ "\\ufffe" ∷ "\\u{}"
    ∷ "\\n\\x" ∷ []) ≡ (Err 0 ∷ Err 1 ∷ Err 2 ∷ Err 2 ∷ Err 0 ∷ Err 0 ∷ Err 0 ∷ Err 2 ∷ [])
unfolding encode_utf8
bad_escapes = refl

written_with_escapes :
    escape (utf8 "a\"\\$/\u{8}\u{c}\n\r\t\0\u{1f}\u{7f}é")
    ≡ utf8 "a\\\"\\\\\\$/\\b\\f\\n\\r\\t\\u0000\\u001F\u{7f}é"
unfolding encode_utf8
written_with_escapes = refl

-- the text of the pieces between the interpolations of a multi-line text
abbrev unindented : List String → List (List ℕ)
unindented pieces = unindent (map codes pieces)

one_indentation : unindented ("  a\n    b\n  " ∷ []) ≡ map codes ("a\n  b\n" ∷ [])
one_indentation = refl

last_line_counts : unindented ("  a\n    b\n" ∷ []) ≡ map codes ("  a\n    b\n" ∷ [])
last_line_counts = refl

-- the empty line does not count, the line of one space does
empty_lines :
    map (λ t. unindented (t ∷ [])) ("  a\n\n  b\n  " ∷ "  a\n \n  b\n  " ∷ []) ≡ (map codes ("a\n\nb\n" ∷ [])
    ∷ map codes (" a\n\n b\n " ∷ []) ∷ [])
empty_lines = refl

-- a tab is no space
tabs :
    map (λ t. unindented (t ∷ [])) ("\t a\n\t b\n\t " ∷ "\t a\n \tb\n\t" ∷ []) ≡ (map codes ("a\nb\n" ∷ [])
    ∷ map codes ("\t a\n \tb\n\t" ∷ []) ∷ [])
tabs = refl

-- in `  ${x}` the indentation is two, in ` ${x}` one; what follows an interpolation on its line begins no line
interpolations : unindented ("  a\n  " ∷ "  b\n   c " ∷ " d" ∷ []) ≡ map codes ("a\n" ∷ "  b\n c " ∷ " d" ∷ [])
interpolations = refl

-- the lines behind an interpolation count for those before it
interpolation_less_indented : unindented ("    a\n    " ∷ "\n  b\n   " ∷ []) ≡ map codes ("  a\n  " ∷ "\nb\n " ∷ [])
interpolation_less_indented = refl

interpolation_first : unindented ("" ∷ "\n  a\n  " ∷ []) ≡ map codes ("" ∷ "\n  a\n  " ∷ [])
interpolation_first = refl

-- the last line begins before the interpolation
interpolation_last : unindented ("  a\n   " ∷ "" ∷ []) ≡ map codes ("a\n " ∷ "" ∷ [])
interpolation_last = refl

one_line :
    map unindented ((" a " ∷ []) ∷ ("" ∷ []) ∷ ("  " ∷ []) ∷ []) ≡ (map codes ("a " ∷ []) ∷ map codes ("" ∷ [])
    ∷ map codes ("" ∷ []) ∷ [])
one_line = refl
