-- Where a text has no tokens: the offset of the first place at which no form fits, a number is too wide, or a form is left
-- out. The expected offsets are counted by hand.
use Rattle.std.specs.Prelude.{◌≡◌, refl, true, List, [], ◌∷◌, Err, map}
use Rattle.std.specs.Char.{encode_utf8}
use Prim.Native.String.{String}
use Rattle.dh_syntax.specs.declared.tokens.Keyword.TheVariants as keywords
use Rattle.dh_syntax.specs.declared.tokens.Mark.TheVariants as marks
use Rattle.dh_syntax.specs.declared.tokens.TokenKind.TheVariants as kinds
use Rattle.dh_examples.specs.Text.LexExamples.{utf8, Reads, named}
use Rattle.dh_syntax.specs.Text.Lexing.{LexFault, Bad, Wide, Out, lex}

-- each of these texts has this fault
abbrev AllFault : List (String × LexFault) → Type 0
AllFault cases = map (λ c. lex (utf8 c.0)) cases ≡ map (λ c. Err c.1) cases

no_form_fits :
    AllFault (("&", Bad 0) ∷ ("!", Bad 0) ∷ ("-", Bad 0) ∷ ("/", Bad 0) ∷ ("~", Bad 0) ∷ ("$", Bad 0) ∷ (";", Bad 0)
    ∷ ("%", Bad 0) ∷ ("'", Bad 0) ∷ ("^", Bad 0) ∷ ("x & y", Bad 2) ∷ ("''", Bad 0) ∷ ("''x", Bad 0)
    ∷ ("''\r", Bad 0) ∷ ("-x", Bad 0) ∷ ("-Infinityx", Bad 0) ∷ [])
unfolding lex encode_utf8
no_form_fits = refl

control_characters :
    AllFault (("\0", Bad 0) ∷ ("x\u{b}", Bad 1) ∷ ("x\u{7f}", Bad 1) ∷ ("-- \u{1}", Bad 3) ∷ ("{- \u{1} -}", Bad 3)
    ∷ ("#!\u{1f}", Bad 2) ∷ ("\"\u{1}\"", Bad 1) ∷ ("''\n\u{1}''", Bad 3) ∷ [])
unfolding lex encode_utf8
control_characters = refl

-- inside backticks no form fits at the first of them
lone_carriage_returns :
    AllFault (("x\ry", Bad 1) ∷ ("\r", Bad 0) ∷ ("--\rx", Bad 2) ∷ ("{-\r-}", Bad 2) ∷ ("#!x\r1", Bad 3)
    ∷ ("\"\r\"", Bad 1) ∷ ("''\n\r''", Bad 3) ∷ ("`\r`", Bad 0) ∷ [])
unfolding lex encode_utf8
lone_carriage_returns = refl

noncharacters :
    AllFault (("\u{fffe}", Bad 0) ∷ ("x\u{ffff}", Bad 1) ∷ ("--\u{fffe}", Bad 2) ∷ ("{- \u{1fffe}", Bad 3)
    ∷ ("#!\u{10ffff}", Bad 2) ∷ ("\"\u{ffff}\"", Bad 1) ∷ ("''\na\u{2ffff}''", Bad 4) ∷ ("`\u{ffff}`", Bad 0) ∷ [])
unfolding lex encode_utf8
noncharacters = refl

line_ends_and_tabs_between_double_quotes :
    AllFault (("\"\t\"", Bad 1) ∷ ("\"a\n\"", Bad 2) ∷ ("\"\r\n\"", Bad 1) ∷ [])
unfolding lex encode_utf8
line_ends_and_tabs_between_double_quotes = refl

comments_that_are_not_closed :
    AllFault (("{- x", Bad 0) ∷ ("1 {-", Bad 2) ∷ ("{-}", Bad 0) ∷ (" {- a {- b -}", Bad 1) ∷ ("{- -- -", Bad 0) ∷ [])
unfolding lex encode_utf8
comments_that_are_not_closed = refl

-- the outermost one is the fault
texts_that_are_not_closed :
    AllFault (("\"abc", Bad 0) ∷ ("1 \"", Bad 2) ∷ ("\"a$", Bad 0) ∷ ("\"${", Bad 0) ∷ ("\"${ x }", Bad 0)
    ∷ ("''\na", Bad 0) ∷ ("''\na'", Bad 0) ∷ ("''\n'''", Bad 0) ∷ ("\"a\" \"${''\nb", Bad 4)
    ∷ ("\"${ \"${ {- x", Bad 0) ∷ ("\"${ {} -- \"", Bad 0) ∷ [])
unfolding lex encode_utf8
texts_that_are_not_closed = refl

bad_escapes :
    AllFault (("\"\\q\"", Bad 1) ∷ ("\"ab\\x41\"", Bad 3) ∷ ("\"\\u12\"", Bad 1) ∷ ("\"\\u12g4\"", Bad 1)
    ∷ ("\"\\u{}\"", Bad 1) ∷ ("\"\\u{12\"", Bad 1) ∷ ("\"\\U0041\"", Bad 1) ∷ ("\"\\\n\"", Bad 1)
    ∷ ("\"\\\\\\e\"", Bad 3) ∷ [])
unfolding lex encode_utf8
bad_escapes = refl

escapes_that_name_no_character :
    AllFault (("\"\\ud800\"", Bad 1) ∷ ("\"\\uDFFF\"", Bad 1) ∷ ("\"\\u{110000}\"", Bad 1) ∷ ("\"\\ufffe\"", Bad 1)
    ∷ ("\"\\u{1FFFF}\"", Bad 1) ∷ ("\"\\u{0000dead}\"", Bad 1) ∷ [])
unfolding lex encode_utf8
escapes_that_name_no_character = refl

-- reading goes from left to right, so the end of the text is not reached
faults_within_what_is_not_closed :
    AllFault (("\"\\q", Bad 1) ∷ ("\"a\\", Bad 2) ∷ ("\"${ 1.5", Out 4) ∷ ("\"${\"\\q", Bad 4) ∷ ("{- \u{1}", Bad 3)
    ∷ ("\"${ x@2147483648", Wide 6) ∷ ("\"é\t", Bad 3) ∷ ("\"${é", Out 3) ∷ [])
unfolding lex encode_utf8
faults_within_what_is_not_closed = refl

quoted_names_that_are_not_closed :
    AllFault (("`a", Bad 0) ∷ ("`é`", Bad 0) ∷ ("`\u{7f}`", Bad 0) ∷ ("`\n`", Bad 0) ∷ ("`\u{1f}`", Bad 0) ∷ ("x.`a", Bad 2) ∷ [])
unfolding lex encode_utf8
quoted_names_that_are_not_closed = refl

paths_without_component :
    AllFault (("./", Bad 1) ∷ ("../", Bad 2) ∷ ("/ ", Bad 0) ∷ ("./é", Bad 1) ∷ ("./\"\"", Bad 1) ∷ ("./\"a", Bad 1)
    ∷ ("./a/", Bad 3) ∷ ("./a/\"é\"", Bad 3) ∷ [])
unfolding lex encode_utf8
paths_without_component = refl

digests_that_are_too_short :
    AllFault (("sha256:a", Bad 0) ∷ ("x sha256:000000000000000000000000000000000000000000000000000000000000000", Bad 2)
    ∷ ("sha256:000000000000000000000000000000000000000000000000000000000000000g", Bad 0) ∷ [])
unfolding lex encode_utf8
digests_that_are_too_short = refl

-- `env`, `:` and a text
environment_name_that_is_not_closed :
    AllFault (("env:\"a", Bad 4) ∷ ("env:\"", Bad 4) ∷ [])
unfolding lex encode_utf8
environment_name_that_is_not_closed = refl

skipped_lines_only_at_the_start :
    AllFault ((" #!x", Bad 2) ∷ ("#!a\n #!", Bad 6) ∷ ("1\n#!", Bad 3) ∷ [])
unfolding lex encode_utf8
skipped_lines_only_at_the_start = refl

-- one more than the widest of each kind
numbers_that_are_too_wide :
    AllFault (("340282366920938463463374607431768211456", Wide 0) ∷ ("x 0x100000000000000000000000000000000", Wide 2)
    ∷ ("+170141183460469231731687303715884105728", Wide 0)
    ∷ ("-170141183460469231731687303715884105729", Wide 0)
    ∷ ("-340282366920938463463374607431768211456", Wide 0) ∷ [])
unfolding lex encode_utf8
numbers_that_are_too_wide = refl

indices_that_are_too_wide :
    AllFault (("x@2147483648", Wide 2) ∷ ("x @ 2147483648", Wide 4) ∷ ("`if`@0x80000000", Wide 5)
    ∷ ("x {- y -} @ -- z\n2147483648", Wide 17) ∷ ("x.y@2147483648", Wide 4)
    ∷ ("x@340282366920938463463374607431768211456", Wide 2) ∷ ("\"${x@2147483648}\"", Wide 5) ∷ [])
unfolding lex encode_utf8
indices_that_are_too_wide = refl

-- only behind a name and `@`
no_indices : Reads "1@2147483648 if@2147483648 True@2147483648 x@1@2147483648 x 2147483648" (kinds.Natural 1 ∷ kinds.Mark marks.At ∷ kinds.Natural 2147483648 ∷ kinds.Keyword keywords.If ∷ kinds.Mark marks.At ∷ kinds.Natural 2147483648 ∷ kinds.Bool true ∷ kinds.Mark marks.At ∷ kinds.Natural 2147483648 ∷ named "x" ∷ kinds.Mark marks.At ∷ kinds.Natural 1 ∷ kinds.Mark marks.At ∷ kinds.Natural 2147483648 ∷ named "x" ∷ kinds.Natural 2147483648 ∷ [])
unfolding lex encode_utf8
no_indices = refl

names_left_out :
    AllFault (("Double", Out 0) ∷ ("Double/show", Out 0) ∷ ("Integer/toDouble", Out 0) ∷ ("Date", Out 0)
    ∷ ("Date/show", Out 0) ∷ ("Time", Out 0) ∷ ("Time/show", Out 0) ∷ ("TimeZone", Out 0)
    ∷ ("TimeZone/show", Out 0) ∷ ("Bytes", Out 0) ∷ ("showConstructor", Out 0) ∷ ("using", Out 0)
    ∷ ("Infinity", Out 0) ∷ ("NaN", Out 0) ∷ ("-Infinity", Out 0) ∷ ("x as Bytes", Out 5) ∷ ("x.Date", Out 2) ∷ [])
unfolding lex encode_utf8
names_left_out = refl

fractions_and_exponents :
    AllFault (("1.5", Out 0) ∷ ("+1.5", Out 0) ∷ ("-0.5", Out 0) ∷ ("1e5", Out 0) ∷ ("1E-5", Out 0) ∷ ("-1e+5", Out 0)
    ∷ ("0x1.5", Out 0) ∷ ("00.5", Out 1) ∷ ("x 1.5", Out 2) ∷ ("0e0", Out 0) ∷ [])
unfolding lex encode_utf8
fractions_and_exponents = refl

dates_times_and_other_literals :
    AllFault (("2020-01-02", Out 0) ∷ ("0000-00-000", Out 0) ∷ ("12:30", Out 0) ∷ ("+12:30", Out 0) ∷ ("-00:00", Out 0)
    ∷ ("12:30:45", Out 0) ∷ ("0b1", Out 0) ∷ ("0b01", Out 0) ∷ ("0x\"00\"", Out 0) ∷ [])
unfolding lex encode_utf8
dates_times_and_other_literals = refl

-- at one place
left_out_before_too_wide :
    AllFault (("340282366920938463463374607431768211456.5", Out 0) ∷ ("x@2147483648e5", Out 2) ∷ [])
unfolding lex encode_utf8
left_out_before_too_wide = refl

users_and_bracketed_hosts :
    AllFault (("http://u@", Out 0) ∷ ("http://u@h", Out 0) ∷ ("https://u:80@h/a", Out 0) ∷ ("http://a.b.@", Out 0)
    ∷ ("http://[", Out 0) ∷ ("https://[::1]/a", Out 0) ∷ [])
unfolding lex encode_utf8
users_and_bracketed_hosts = refl

-- the URL or the name before the fault is read
after_hosts :
    AllFault (("http://a-/b", Bad 8) ∷ ("http://a.-", Bad 9) ∷ ("http://-a", Bad 7) ∷ ("http://h/%4", Bad 9)
    ∷ ("http://h/%zz", Bad 9) ∷ ("http://h/%4z", Bad 9) ∷ ("http://h/%z4", Bad 9) ∷ ("http://h?%", Bad 9) ∷ [])
unfolding lex encode_utf8
after_hosts = refl

backslashes_in_environment_names :
    AllFault (("env:\"a\\", Out 0) ∷ ("env:\"\\\"", Out 0) ∷ ("x env:\"a\\n\"", Out 2) ∷ [])
unfolding lex encode_utf8
backslashes_in_environment_names = refl

past_ascii :
    AllFault (("é", Out 0) ∷ ("xé", Out 1) ∷ ("1 é", Out 2) ∷ ("./aé", Out 3) ∷ ("http://hé", Out 8)
    ∷ ("http://é", Out 7) ∷ ("sha256:é", Out 7) ∷ ("env:é", Out 4) ∷ ("😀", Out 0) ∷ [])
unfolding lex encode_utf8
past_ascii = refl

the_first_fault :
    AllFault (("é \u{1}", Out 0) ∷ ("\u{1} é", Bad 0) ∷ ("1.5 \"\\q\"", Out 0) ∷ ("x@2147483648 é", Wide 2)
    ∷ ("\"a\" {- b -} é", Out 12) ∷ [])
unfolding lex encode_utf8
the_first_fault = refl
