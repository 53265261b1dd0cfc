-- What the lexer reads of import locations and digests.
use Rattle.std.specs.Prelude.{◌≡◌, refl, ℕ, List, [], ◌∷◌, ◌++◌, Option, Some, None, Ok, codes}
use Rattle.std.specs.Char.{encode_utf8}
use Prim.Native.String.{String}
use Rattle.dh_syntax.specs.declared.locations.Digest.{Digest}
use Rattle.dh_syntax.specs.declared.locations.Loc.TheVariants as locs
use Rattle.dh_syntax.specs.declared.locations.Url.{Url}
use Rattle.dh_syntax.specs.declared.operators.BinOp.TheVariants as binary
use Rattle.dh_syntax.specs.declared.tokens.Keyword.TheVariants as keywords
use Rattle.dh_syntax.specs.declared.tokens.Mark.TheVariants as marks
use Rattle.dh_syntax.specs.declared.tokens.TextForm.TheVariants as texts
use Rattle.dh_syntax.specs.declared.tokens.TokenKind.{TokenKind}
use Rattle.dh_syntax.specs.declared.tokens.TokenKind.TheVariants as kinds
use Rattle.dh_examples.specs.Text.LexExamples.{utf8, Reads, spaced, joined, named}
use Rattle.dh_syntax.specs.Text.Lexing.{lex}

-- the components of a path, as bytes
abbrev comps : List String → List (List ℕ)
comps [] = []
comps (c ∷ cs) = codes c ∷ comps cs

-- the token of a path that starts with `./`
abbrev here : List String → TokenKind
here cs = kinds.Path (locs.Here (comps cs))

-- the token of a path that starts with `../`
abbrev parent : List String → TokenKind
parent cs = kinds.Path (locs.Parent (comps cs))

-- the token of a path that starts with `~/`
abbrev home : List String → TokenKind
home cs = kinds.Path (locs.Home (comps cs))

-- the token of a path that starts with `/`
abbrev root : List String → TokenKind
root cs = kinds.Path (locs.Abs (comps cs))

-- an address with this host, these components and a query, if there is one
abbrev address : String → List String → Option (List ℕ) → Url
address host cs query = record { host = codes host; comps = comps cs; query = query }

-- the token of an address with http
abbrev http : String → List String → Option (List ℕ) → TokenKind
http host cs query = kinds.Url (locs.Http (address host cs query))

-- the token of an address with https
abbrev https : String → List String → Option (List ℕ) → TokenKind
https host cs query = kinds.Url (locs.Https (address host cs query))

-- the token of an environment variable
abbrev environment : String → TokenKind
environment x = kinds.Environment (codes x)

-- the token of a mark
abbrev mark : marks.the_data → TokenKind
mark m = kinds.Mark m

path_places :
    lex (utf8 "f ./a/b.dhall ") ≡ Ok (spaced (named "f") 0 1 ∷ spaced (here ("a" ∷ "b.dhall" ∷ [])) 2 13
    ∷ spaced kinds.End 14 14 ∷ [])
unfolding lex encode_utf8
path_places = refl

paths :
    Reads "./a ../a ~/a /a /a/b/c"
    (here ("a" ∷ []) ∷ parent ("a" ∷ []) ∷ home ("a" ∷ []) ∷ root ("a" ∷ []) ∷ root ("a" ∷ "b" ∷ "c" ∷ []) ∷ [])
unfolding lex encode_utf8
paths = refl

paths_as_written :
    Reads "./../.. ../../a ././a ~/.."
    (here (".." ∷ ".." ∷ []) ∷ parent (".." ∷ "a" ∷ []) ∷ here ("." ∷ "a" ∷ []) ∷ home (".." ∷ []) ∷ [])
unfolding lex encode_utf8
paths_as_written = refl

path_characters : Reads "/!$%&'*+-.0189:;=@AZ^_`az|~" (root ("!$%&'*+-.0189:;=@AZ^_`az|~" ∷ []) ∷ [])
unfolding lex encode_utf8
path_characters = refl

path_ends :
    Reads "./a,./b)./c{}/d#/e"
    (here ("a" ∷ []) ∷ kinds.Mark marks.Comma ∷ here ("b" ∷ []) ∷ kinds.Mark marks.ParenClose ∷ here ("c" ∷ [])
    ∷ kinds.Mark marks.BraceOpen ∷ kinds.Mark marks.BraceClose ∷ root ("d" ∷ [])
    ∷ kinds.Mark (marks.Operator binary.ListAppend) ∷ root ("e" ∷ []) ∷ [])
unfolding lex encode_utf8
path_ends = refl

quoted_components :
    lex (utf8 "./\"a b\"/c/\" <>\\(){}`\"") ≡ Ok (spaced (here ("a b" ∷ "c" ∷ " <>\\(){}`" ∷ [])) 0 21
    ∷ joined kinds.End 21 21 ∷ [])
unfolding lex encode_utf8
quoted_components = refl

components_do_not_mix :
    Reads "./a\"b\" ./\"a\"b"
    (here ("a" ∷ []) ∷ kinds.TextOpen texts.DoubleQuoted ∷ kinds.TextPiece (codes "b") ∷ kinds.TextClose
    ∷ here ("a" ∷ []) ∷ named "b" ∷ [])
unfolding lex encode_utf8
components_do_not_mix = refl

paths_and_marks :
    Reads "//a /\\ a /a\\b . .. ..."
    (kinds.Mark (marks.Operator binary.Prefer) ∷ named "a" ∷ kinds.Mark (marks.Operator binary.Combine)
    ∷ named "a" ∷ root ("a" ∷ []) ∷ kinds.Mark marks.Lambda ∷ named "b" ∷ kinds.Mark marks.Dot
    ∷ kinds.Mark marks.Dot ∷ kinds.Mark marks.Dot ∷ kinds.Mark marks.Dot ∷ kinds.Mark marks.Dot
    ∷ kinds.Mark marks.Dot ∷ [])
unfolding lex encode_utf8
paths_and_marks = refl

names_and_paths :
    Reads "a/b a./b a~/b 1./b"
    (named "a/b" ∷ named "a" ∷ here ("b" ∷ []) ∷ named "a" ∷ home ("b" ∷ []) ∷ kinds.Natural 1 ∷ here ("b" ∷ [])
    ∷ [])
unfolding lex encode_utf8
names_and_paths = refl

url_places :
    lex (utf8 "https://a.b/c as") ≡ Ok (spaced (https "a.b" ("c" ∷ []) None) 0 13
    ∷ spaced (kinds.Keyword keywords.As) 14 16 ∷ joined kinds.End 16 16 ∷ [])
unfolding lex encode_utf8
url_places = refl

-- a URL without a path has one empty component
urls :
    Reads "http://h http://h/ http://h/a/b http://h/a/ http://h//b"
    (http "h" ("" ∷ []) None ∷ http "h" ("" ∷ []) None ∷ http "h" ("a" ∷ "b" ∷ []) None ∷ http "h" ("a" ∷ ""
    ∷ []) None ∷ http "h" ("" ∷ "b" ∷ []) None ∷ [])
unfolding lex encode_utf8
urls = refl

hosts :
    Reads "http://1.2.3.4:80 http://a-b.c--d./ http://h: http://h.:0042/x https://A9"
    (http "1.2.3.4:80" ("" ∷ []) None ∷ http "a-b.c--d." ("" ∷ []) None ∷ http "h:" ("" ∷ []) None
    ∷ http "h.:0042" ("x" ∷ []) None ∷ https "A9" ("" ∷ []) None ∷ [])
unfolding lex encode_utf8
hosts = refl

host_ends :
    Reads "http://a..b/c http://h:x http://a_b"
    (http "a." ("" ∷ []) None ∷ kinds.Mark marks.Dot ∷ named "b/c" ∷ http "h:" ("" ∷ []) None ∷ named "x"
    ∷ http "a" ("" ∷ []) None ∷ named "_b" ∷ [])
unfolding lex encode_utf8
host_ends = refl

url_components :
    Reads "http://h/az09-._~!$&'*+;=:@%4a%FF/x,y"
    (http "h" ("az09-._~!$&'*+;=:@%4a%FF" ∷ "x" ∷ []) None ∷ kinds.Mark marks.Comma ∷ named "y" ∷ [])
unfolding lex encode_utf8
url_components = refl

queries :
    Reads "http://h? http://h?a=b/?%20 http://h/a?b http://h/?,"
    (http "h" ("" ∷ []) (Some (codes "")) ∷ http "h" ("" ∷ []) (Some (codes "a=b/?%20")) ∷ http "h" ("a"
    ∷ []) (Some (codes "b")) ∷ http "h" ("" ∷ []) (Some (codes "")) ∷ kinds.Mark marks.Comma ∷ [])
unfolding lex encode_utf8
queries = refl

no_urls :
    Reads "http: http:/a https://(x) xhttp://h"
    (named "http" ∷ kinds.Mark marks.Colon ∷ named "http" ∷ kinds.Mark marks.Colon ∷ root ("a" ∷ [])
    ∷ named "https" ∷ kinds.Mark marks.Colon ∷ kinds.Mark (marks.Operator binary.Prefer)
    ∷ kinds.Mark marks.ParenOpen ∷ named "x" ∷ kinds.Mark marks.ParenClose ∷ named "xhttp"
    ∷ kinds.Mark marks.Colon ∷ kinds.Mark (marks.Operator binary.Prefer) ∷ named "h" ∷ [])
unfolding lex encode_utf8
no_urls = refl

environment_places :
    lex (utf8 "env:X env:\"a b\"") ≡ Ok (spaced (environment "X") 0 5 ∷ spaced (environment "a b") 6 15
    ∷ joined kinds.End 15 15 ∷ [])
unfolding lex encode_utf8
environment_places = refl

environment_names :
    Reads "env:_x9 env:X.y env:\"9<>'{}/\" env:A="
    (environment "_x9" ∷ environment "X" ∷ kinds.Mark marks.Dot ∷ named "y" ∷ environment "9<>'{}/"
    ∷ environment "A" ∷ kinds.Mark marks.Equals ∷ [])
unfolding lex encode_utf8
environment_names = refl

no_environment_names :
    Reads "env: env:1 env:\"\" env:\"a=b\" env :x"
    (named "env" ∷ kinds.Mark marks.Colon ∷ named "env" ∷ kinds.Mark marks.Colon ∷ kinds.Natural 1 ∷ named "env"
    ∷ kinds.Mark marks.Colon ∷ kinds.TextOpen texts.DoubleQuoted ∷ kinds.TextClose ∷ named "env"
    ∷ kinds.Mark marks.Colon ∷ kinds.TextOpen texts.DoubleQuoted ∷ kinds.TextPiece (codes "a=b") ∷ kinds.TextClose
    ∷ named "env" ∷ kinds.Mark marks.Colon ∷ named "x" ∷ [])
unfolding lex encode_utf8
no_environment_names = refl

-- sixteen bytes, half a digest
abbrev digest_bytes : List ℕ
digest_bytes =
    0x00 ∷ 0x11 ∷ 0x22 ∷ 0x33 ∷ 0x44 ∷ 0x55 ∷ 0x66 ∷ 0x77 ∷ 0x88 ∷ 0x99 ∷ 0xAA ∷ 0xBB ∷ 0xCC ∷ 0xDD ∷ 0xEE ∷ 0xFF ∷ []

-- a digest of the same sixteen bytes twice
abbrev digest : Digest
digest = record { 0 = digest_bytes ++ digest_bytes }

a_digest :
    lex (utf8 "./a sha256:00112233445566778899aabbccddeeff00112233445566778899AABBCCDDEEFF") ≡ Ok (spaced (here ("a"
    ∷ [])) 0 3 ∷ spaced (kinds.Digest digest) 4 75 ∷ joined kinds.End 75 75 ∷ [])
unfolding lex encode_utf8
a_digest = refl

a_digest_and_more :
    Reads "sha256:00112233445566778899aabbccddeeff00112233445566778899AABBCCDDEEFFa"
    (kinds.Digest digest ∷ named "a" ∷ [])
unfolding lex encode_utf8
a_digest_and_more = refl

-- eight bytes whose digits count from 0 to F
abbrev counting : List ℕ
counting = 0x01 ∷ 0x23 ∷ 0x45 ∷ 0x67 ∷ 0x89 ∷ 0xAB ∷ 0xCD ∷ 0xEF ∷ []

-- the high half of a byte comes first
digest_halves :
    Reads "sha256:0123456789abcdef0123456789abcdef0123456789abcdef0123456789abcdef"
    (kinds.Digest (record { 0 = counting ++ counting ++ counting ++ counting }) ∷ [])
unfolding lex encode_utf8
digest_halves = refl

no_digest :
    Reads "sha256: sha256:g sha256 :"
    (named "sha256" ∷ kinds.Mark marks.Colon ∷ named "sha256" ∷ kinds.Mark marks.Colon ∷ named "g"
    ∷ named "sha256" ∷ kinds.Mark marks.Colon ∷ [])
unfolding lex encode_utf8
no_digest = refl
