-- Imports: environment names, digests, modes.
use Rattle.std.proofs.Common.{◌≡◌, ℕ, suc, ◌+◌, ◌*◌, ◌/◌, ◌%◌, ◌<◌, Bool, true, false, not, ◌&&◌, ◌==◌, if◌then◌else◌, nat_lt, List, [], ◌∷◌, ◌++◌, length, take, get_or, slice_index, codes, Option, Some, None, append_assoc, append-nil, length-append, one-add, refl, sym, ap, subst, ◌∙◌, arith}
use Rattle.std.specs.Prelude.{flat_map}
use Rattle.std.specs.Fmt.{digit_glyph}
use Rattle.std.proofs.lemmas.Bool.{and_parts, both_ways, lt-ltb, ltb-true}
use Rattle.std.proofs.lemmas.Bool.Decides.{nat_tests}
use Rattle.std.specs.Char.{digit_value, is_ascii_digit, is_ascii_hexdigit}
use Rattle.std.specs.List.{list_all, prefix_len}
use Rattle.dh_syntax.specs.declared.expressions.Op.TheVariants as ops
use Rattle.dh_syntax.specs.declared.locations.Digest.{Digest}
use Rattle.dh_syntax.specs.declared.locations.Import.{Import}
use Rattle.dh_syntax.specs.declared.locations.Loc.{Loc}
use Rattle.dh_syntax.specs.declared.locations.Loc.TheVariants as locs
use Rattle.dh_syntax.specs.declared.locations.Mode.{Mode}
use Rattle.dh_syntax.specs.declared.locations.Mode.TheVariants as modes
use Rattle.dh_syntax.specs.declared.operators.Builtin.TheVariants as builtins
use Rattle.dh_syntax.specs.declared.tokens.Keyword.TheVariants as keywords
use Rattle.dh_syntax.specs.declared.tokens.TokenKind.TheVariants as kinds
use Rattle.dh_syntax.specs.Expressions.Arity.{has_some}
use Rattle.dh_syntax.specs.Text.Characters.{first, is_environment_byte, is_environment_start, is_quoted_environment_byte}
use Rattle.dh_syntax.specs.Text.Derivation as d
use Rattle.dh_syntax.specs.Text.LexForms.{Is, LeftOut, Faulty, Form, form}
use Rattle.dh_syntax.specs.Text.LexLocations.{environment, plain_environment, quoted_environment, digest, digest_digits, digest_of, hex_bytes}
use Rattle.dh_syntax.specs.Text.Lexing.{Place, code_form}
use Rattle.dh_syntax.specs.Imports.Locations.{loc_text, is_plain_variable, quoted}
use Rattle.dh_syntax.specs.Text.Meaning.{location}
use Rattle.dh_syntax.specs.Text.Printed.{digest_text, mode_text}
use Rattle.dh_syntax.specs.Expressions.Spellable.{is_environment}
use Rattle.dh_syntax.specs.Expressions.Tree.{Node, end}
use Rattle.dh_syntax.specs.Text.Yield.{Written, token, digest_yield, mode_yield, import_type_kind}
use Rattle.dh_tokens.proofs.FormLaws.{form-some}
use Rattle.dh_tokens.proofs.FrontClassLaws.{code_form-word}
use Rattle.dh_tokens.proofs.FrontWords.{word-environment, word-digest}
use Rattle.dh_layout.proofs.Reading.Ends.{is_seam}
use Rattle.dh_layout.proofs.Trees.Good.{Good}
use Rattle.dh_layout.proofs.Trees.Trees.{import_of}
use Rattle.dh_layout.proofs.Texts.Values.{IsDigest}
use Rattle.dh_layout.proofs.Reading.Walks.{IsCode, Lexes}
use Rattle.dh_layout.proofs.Reading.Walk.{give, space, regrouped}
use Rattle.dh_layout.proofs.Reading.Seams.{run_len, take_front}
use Rattle.dh_layout.proofs.Reading.Tokens.{word, mid_word, name_ends}

-- a location is read as its token
abbrev pub LocReads : Loc → Type 0
LocReads l = (p : Place) (g : Bool) (rest : List ℕ) (n : ℕ) (ws : List Written) → IsCode p → is_seam 15 rest ≡ true → Lexes p false rest ws → Lexes p g (loc_text l ++ rest) (token n g (import_type_kind (import_of l)) ∷ ws)

pub missing_reads : LocReads locs.Missing
missing_reads p g rest n ws c s h = word p g (codes "missing") rest (kinds.Keyword keywords.Missing) n ws c refl refl (name_ends 15 rest s) (λ b. tt) (λ at. refl) h

-- ---- environment names

seam_environment : (rest : List ℕ) → is_seam 15 rest ≡ true → is_environment_byte (first rest) ≡ false
seam_environment rest h = let c = first rest in grind (arith, nat_tests)

environment_starts : (c : ℕ) → not (is_ascii_digit c) ≡ true → is_environment_byte c ≡ true → is_environment_start c ≡ true
environment_starts c h k = grind (arith, nat_tests)

starts_unquoted : (c : ℕ) → is_environment_byte c ≡ true → (c == 34) ≡ false
starts_unquoted c k = grind (arith, nat_tests)

plain_read : (c : ℕ) (cs rest : List ℕ) → is_plain_variable (c ∷ cs) ≡ true → is_seam 15 rest ≡ true → environment (codes "env:" ++ (c ∷ cs ++ rest)) ≡ Some (record { found = Is (kinds.Environment (c ∷ cs)); len = 4 + suc (length cs) })
plain_read c cs rest h s =
    let parts = and_parts (not (is_ascii_digit c)) (list_all is_environment_byte (c ∷ cs)) h in
    let byte' = (and_parts (is_environment_byte c) (list_all is_environment_byte cs) parts.1).0 in
    let bs = c ∷ cs ++ rest in
    let n = suc (length cs) in
    let run : prefix_len is_environment_byte bs ≡ n = run_len is_environment_byte (c ∷ cs) rest parts.1 (seam_environment rest s) refl in
    ap (λ (t : Bool). if t then quoted_environment bs else plain_environment bs) (starts_unquoted c byte')
    ∙ ap (λ (t : Bool). if t then form (Is (kinds.Environment (take (prefix_len is_environment_byte bs) bs))) (4 + prefix_len is_environment_byte bs) else None) (environment_starts c parts.0 byte')
    ∙ ap (λ k. form (Is (kinds.Environment (take k bs))) (4 + k)) run
    ∙ form-some (Is (kinds.Environment (take n bs))) (4 + n) (omega arith)
    ∙ ap (λ t. Some (record { found = Is (kinds.Environment t); len = 4 + n })) (take_front (c ∷ cs) rest)

quoted_read : (x rest : List ℕ) → 0 < length x → list_all is_quoted_environment_byte x ≡ true → environment (codes "env:" ++ (34 ∷ x ++ 34 ∷ rest)) ≡ Some (record { found = Is (kinds.Environment x); len = 6 + length x })
quoted_read x rest some h =
    let tail = x ++ 34 ∷ rest in
    let bs = 34 ∷ tail in
    let n = length x in
    let run : prefix_len is_quoted_environment_byte tail ≡ n = run_len is_quoted_environment_byte x (34 ∷ rest) h refl refl in
    let by : ℕ → Option Form = λ k. if slice_index bs (1 + k) == 92 then form LeftOut (6 + k) else if nat_lt 0 k && slice_index bs (1 + k) == 34 then form (Is (kinds.Environment (take k tail))) (6 + k) else None in
    let after : slice_index bs (1 + n) ≡ 34 = ap (slice_index bs) (one-add n) ∙ later x in
    ap by run
    ∙ ap (λ b. if b == 92 then form LeftOut (6 + n) else if nat_lt 0 n && b == 34 then form (Is (kinds.Environment (take n tail))) (6 + n) else None) after
    ∙ ap (λ (t : Bool). if t && true then form (Is (kinds.Environment (take n tail))) (6 + n) else None) (lt-ltb 0 n some)
    ∙ form-some (Is (kinds.Environment (take n tail))) (6 + n) (omega arith)
    ∙ ap (λ t. Some (record { found = Is (kinds.Environment t); len = 6 + n })) (take_front x (34 ∷ rest))
  where
    later : (x : List ℕ) → get_or (x ++ 34 ∷ rest) (length x) 0 ≡ 34
    later [] = refl
    later (b ∷ x) = later x

size_plain : (k : ℕ) → 4 + suc k ≡ suc (suc (suc (suc (suc k))))
size_plain k = omega arith

some_of : (x : List ℕ) → has_some x ≡ true → 0 < length x
some_of [] e = absurd (both_ways false refl e)
some_of (b ∷ x) e = omega arith

size_quoted : (x : List ℕ) → 6 + length x ≡ suc (suc (suc (suc (suc (length (x ++ 34 ∷ []))))))
size_quoted x = let e = length-append x (34 ∷ []) in omega (arith, e)

pub environment_reads : (x : List ℕ) → is_environment x ≡ true → LocReads (locs.Env x)
environment_reads x h p g rest n ws c s after = by (is_plain_variable x) refl
  where
    shown : Bool → List ℕ
    shown t = codes "env:" ++ (if t then x else quoted x)

    plain : (x : List ℕ) → is_plain_variable x ≡ true → Lexes p g ((codes "env:" ++ x) ++ rest) (token n g (kinds.Environment x) ∷ ws)
    plain [] e = absurd (both_ways false refl e)
    plain (b ∷ x) e =
        give p g 101 (110 ∷ 118 ∷ 58 ∷ b ∷ x) rest (kinds.Environment (b ∷ x)) n ws c (λ b. tt) refl refl
        (code_form-word (codes "env:" ++ (b ∷ x ++ rest)) refl ∙ word-environment (codes "env:" ++ (b ∷ x ++ rest)) _ (plain_read b x rest e s) ∙ ap (λ l. Some (record { found = Is (kinds.Environment (b ∷ x)); len = l })) (size_plain (length x)))
        (λ at. after)

    closed : (x : List ℕ) → is_environment x ≡ true → Lexes p g ((codes "env:" ++ quoted x) ++ rest) (token n g (kinds.Environment x) ∷ ws)
    closed x e =
        let parts = and_parts (has_some x) (list_all is_quoted_environment_byte x) e in
        let shape : (34 ∷ (x ++ 34 ∷ [])) ++ rest ≡ 34 ∷ x ++ 34 ∷ rest = ap (λ t. 34 ∷ t) (append_assoc x (34 ∷ []) rest) in
        give p g 101 (110 ∷ 118 ∷ 58 ∷ 34 ∷ (x ++ 34 ∷ [])) rest (kinds.Environment x) n ws c (λ b. tt) refl refl
        (ap (λ t. code_form (codes "env:" ++ t)) shape
        ∙ code_form-word (codes "env:" ++ (34 ∷ x ++ 34 ∷ rest)) refl ∙ word-environment (codes "env:" ++ (34 ∷ x ++ 34 ∷ rest)) _ (quoted_read x rest (some_of x parts.0) parts.1)
        ∙ ap (λ l. Some (record { found = Is (kinds.Environment x); len = l })) (size_quoted x))
        (λ at. after)

    by : (t : Bool) → is_plain_variable x ≡ t → Lexes p g (shown (is_plain_variable x) ++ rest) (token n g (kinds.Environment x) ∷ ws)
    by true e = subst (λ t. Lexes p g (shown t ++ rest) (token n g (kinds.Environment x) ∷ ws)) (sym e) (plain x e)
    by false e = subst (λ t. Lexes p g (shown t ++ rest) (token n g (kinds.Environment x) ∷ ws)) (sym e) (closed x h)

-- ---- digests

abbrev hex : List ℕ → List ℕ
hex bs = flat_map (λ b. digit_glyph false (b / 16) ∷ digit_glyph false (b % 16) ∷ []) bs

digit_read : (k : ℕ) → k < 16 → digit_value (digit_glyph false k) ≡ k
digit_read k h = grind (arith, nat_tests)

digit_is_one : (k : ℕ) → k < 16 → is_ascii_hexdigit (digit_glyph false k) ≡ true
digit_is_one k h = grind (arith, nat_tests)

hex_back : (bs : List ℕ) → list_all (λ b. nat_lt b 256) bs ≡ true → hex_bytes (hex bs) ≡ bs
hex_back [] h = refl
hex_back (b ∷ bs) h =
    let parts = and_parts (nat_lt b 256) (list_all (λ b. nat_lt b 256) bs) h in
    let small : b < 256 = ltb-true b 256 parts.0 in
    let high = digit_read (b / 16) (omega (arith, small)) in
    let low = digit_read (b % 16) (omega arith) in
    let value : digit_value (digit_glyph false (b / 16)) * 16 + digit_value (digit_glyph false (b % 16)) ≡ b = omega (arith, high, low) in
    ap (λ v. v ∷ hex_bytes (hex bs)) value ∙ ap (λ t. b ∷ t) (hex_back bs parts.1)

hex_digits : (bs : List ℕ) → list_all (λ b. nat_lt b 256) bs ≡ true → list_all is_ascii_hexdigit (hex bs) ≡ true
hex_digits [] h = refl
hex_digits (b ∷ bs) h =
    let parts = and_parts (nat_lt b 256) (list_all (λ b. nat_lt b 256) bs) h in
    let small : b < 256 = ltb-true b 256 parts.0 in
    ap (λ (t : Bool). t && (is_ascii_hexdigit (digit_glyph false (b % 16)) && list_all is_ascii_hexdigit (hex bs))) (digit_is_one (b / 16) (omega (arith, small)))
    ∙ ap (λ (t : Bool). t && list_all is_ascii_hexdigit (hex bs)) (digit_is_one (b % 16) (omega arith)) ∙ hex_digits bs parts.1

hex_size : (bs : List ℕ) → length (hex bs) ≡ length bs + length bs
hex_size [] = refl
hex_size (b ∷ bs) = let e = hex_size bs in omega (arith, e)

whole_run : (x : List ℕ) → list_all is_ascii_hexdigit x ≡ true → prefix_len is_ascii_hexdigit x ≡ length x
whole_run x h = sym (ap (prefix_len is_ascii_hexdigit) (append-nil x)) ∙ run_len is_ascii_hexdigit x [] h refl refl

digest_read : (bs rest : List ℕ) → length bs ≡ 32 → list_all (λ b. nat_lt b 256) bs ≡ true → digest (codes "sha256:" ++ (hex bs ++ rest)) ≡ Some (record { found = Is (kinds.Digest (record { 0 = bs })); len = 71 })
digest_read bs rest size small =
    let ds = hex bs in
    let size' : length ds ≡ 64 = let e = hex_size bs in omega (arith, e, size) in
    let front : take 64 (ds ++ rest) ≡ ds = ap (λ k. take k (ds ++ rest)) (sym size') ∙ take_front ds rest in
    let count : digest_digits (ds ++ rest) ≡ 64 = ap (prefix_len is_ascii_hexdigit) front ∙ whole_run ds (hex_digits bs small) ∙ size' in
    ap (λ k. if k == 0 then None else if k == 64 then form (Is (kinds.Digest (digest_of (take 64 (ds ++ rest))))) 71 else form (Faulty 0) (7 + k)) count
    ∙ ap (λ t. form (Is (kinds.Digest (digest_of t))) 71) front
    ∙ ap (λ t. form (Is (kinds.Digest (record { 0 = t }))) 71) (hex_back bs small)

digest_reads : (p : Place) (o : Option Digest) (rest : List ℕ) (n : ℕ) (ws : List Written) → IsCode p → IsDigest o → Lexes p false rest ws → Lexes p false (digest_text o ++ rest) (digest_yield n o ++ ws)
digest_reads p None rest n ws c h after = after
digest_reads p (Some d') rest n ws c h after =
    let ds = hex d'.0 in
    let size' : length ds ≡ 64 = let e = hex_size d'.0 in let f = h.0 in omega (arith, e, f) in
    let len : 71 ≡ suc (suc (suc (suc (suc (suc (suc (length ds))))))) = omega (arith, size') in
    space p (codes "sha256:" ++ ds ++ rest) _ c
    (give p true 115 (104 ∷ 97 ∷ 50 ∷ 53 ∷ 54 ∷ 58 ∷ ds) rest (kinds.Digest d') n ws c (λ b. tt) refl refl
    (code_form-word (codes "sha256:" ++ (ds ++ rest)) refl ∙ word-digest (codes "sha256:" ++ (ds ++ rest)) _ (digest_read d'.0 rest h.0 h.1)
    ∙ ap (λ l. Some (record { found = Is (kinds.Digest d'); len = l })) len)
    (λ at. after))

mode_reads : (p : Place) (m : Mode) (rest : List ℕ) (n : ℕ) (ws : List Written) → IsCode p → is_seam 15 rest ≡ true → Lexes p false rest ws → Lexes p false (mode_text m ++ rest) (mode_yield n m ++ ws)
mode_reads p modes.Code rest n ws c s after = after
mode_reads p modes.Text rest n ws c s after =
    mid_word p false (codes "as") _ (kinds.Keyword keywords.As) n _ c refl refl (λ b. tt) (λ at. refl)
    (word p true (codes "Text") rest (kinds.Builtin builtins.Text) n ws c refl refl (name_ends 15 rest s) (λ b. tt) (λ at. refl) after)
mode_reads p modes.Location rest n ws c s after =
    mid_word p false (codes "as") _ (kinds.Keyword keywords.As) n _ c refl refl (λ b. tt) (λ at. refl)
    (word p true (codes "Location") rest (kinds.Name (codes "Location")) n ws c refl refl (name_ends 15 rest s) (λ b. tt) (λ at. refl) after)

mode_seam : (m : Mode) (rest : List ℕ) → is_seam 15 rest ≡ true → is_seam 15 (mode_text m ++ rest) ≡ true
mode_seam modes.Code rest s = s
mode_seam modes.Text rest s = refl
mode_seam modes.Location rest s = refl

digest_seam : (o : Option Digest) (rest : List ℕ) → is_seam 15 rest ≡ true → is_seam 15 (digest_text o ++ rest) ≡ true
digest_seam None rest s = s
digest_seam (Some d') rest s = refl

pub good_import : (i : Import) → LocReads i.loc → location (import_of i.loc) ≡ i.loc → IsDigest i.digest → Good (Node (ops.Import i) end) (d.«import» (import_of i.loc) i.digest i.mode)
good_import i reads' same h = record {
  means = ap (λ l. Node (ops.Import (record { loc = l; mode = i.mode; digest = i.digest })) end) same;
  is_derived = refl;
  levels = refl;
  bares = refl;
  reads = λ n g p rest ws c s after.
      regrouped p g (loc_text i.loc) (digest_text i.digest ∷ mode_text i.mode ∷ []) rest (token n g (import_type_kind (import_of i.loc)) ∷ []) (digest_yield n i.digest ∷ mode_yield n i.mode ∷ []) ws
      (reads' p g _ n _ c (digest_seam i.digest (mode_text i.mode ++ rest) (mode_seam i.mode rest s))
      (digest_reads p i.digest (mode_text i.mode ++ rest) n _ c h (mode_reads p i.mode rest n ws c s after)));
}

pub location_same : (l : Loc) → location (import_of l) ≡ l
location_same (locs.Abs cs) = refl
location_same (locs.Here cs) = refl
location_same (locs.Parent cs) = refl
location_same (locs.Home cs) = refl
location_same (locs.Http u) = refl
location_same (locs.Https u) = refl
location_same (locs.Env x) = refl
location_same locs.Missing = refl
