-- Numbers before what may follow them.
use Rattle.std.proofs.Common.{◌≡◌, ℕ, suc, ◌+◌, ◌^◌, ◌<◌, Bool, true, false, ◌&&◌, ◌||◌, ◌==◌, eqb, if◌then◌else◌, nat_eq, nat_lt, List, [], ◌∷◌, ◌++◌, length, take, drop, slice_index, map, append-nil, Some, None, codes, ℤ, pos, negsuc, refl, sym, ap, subst, ◌∙◌, decimal, lit<, arith}
use Rattle.std.proofs.Math.Nat.{lt_trans}
use Rattle.std.proofs.lemmas.Bool.{and_parts, and_left, both_ways, ne_eqb, eqb-true, lt-ltb, ltb-true}
use Rattle.std.proofs.lemmas.Bool.Decides.{nat_tests}
use Rattle.std.proofs.lemmas.Fmt.{decimal_is_IsNumeral_wide}
use Rattle.std.proofs.lemmas.Str.Parse.{digit_from_value}
use Rattle.std.specs.Char.{digit_value, is_ascii_digit, is_ascii_hexdigit}
use Rattle.std.specs.List.{list_all, prefix_len, starts_with}
use Rattle.std.specs.Str.Parse.{AllDigits}
use Rattle.dh_syntax.specs.declared.operators.BinOp.TheVariants as binary
use Rattle.dh_syntax.specs.declared.tokens.Mark.TheVariants as marks
use Rattle.dh_syntax.specs.declared.tokens.TokenKind.TheVariants as kinds
use Rattle.dh_syntax.specs.Text.Characters.{first, begins, is_sign, is_bit}
use Rattle.dh_syntax.specs.Text.LexForms.{Is, LeftOut, Form, form}
use Rattle.dh_syntax.specs.Text.LexMarks.{mark, mark_form, brackets, separators, binders, operators, operators_twice}
use Rattle.dh_syntax.specs.Text.LexNames.{minus_infinity, name_len}
use Rattle.dh_syntax.specs.Text.LexNumbers.{natural, natural_found, integer, integer_found, double, signed_double, fractional, begins_fraction, begins_exponent, is_shaped, date, time, signed_time, binary, bytes_literal}
use Rattle.dh_syntax.specs.Text.Lexing.{code_form}
use Rattle.dh_syntax.specs.Text.Numerals.{is_natural, natural_len, integer_len, read_natural, read_integer, write_integer}
use Rattle.dh_syntax.specs.Limits.{integer_fits}
use Rattle.dh_literals.proofs.NumbersReadBack.{natural_spelled, natural_read, integer_read}
use Rattle.dh_tokens.specs.Inside.Forms.{joined}
use Rattle.dh_tokens.proofs.FrontBytes.{joined_all, longest-joined_all, longer-first, code_form-plus, code_form-minus, signed_form-joined_all}
use Rattle.dh_tokens.proofs.FrontClassLaws.{code_form-digit}
use Rattle.dh_tokens.specs.Inside.Numbers.{unsigned_form}
use Rattle.dh_layout.proofs.Reading.Ends.{is_ending, is_seam}
use Rattle.dh_layout.proofs.Reading.Seams.{run_len, take_front}

and_false : (t : Bool) → (t && false) ≡ false
and_false true = refl
and_false false = refl

pub drop_front : {A : Type 0} (x rest : List A) → drop (length x) (x ++ rest) ≡ rest
drop_front [] rest = refl
drop_front (b ∷ x) rest = drop_front x rest

-- ---- what may follow a number

seam_digit : (rest : List ℕ) → is_seam 16 rest ≡ true → is_ascii_digit (first rest) ≡ false
seam_digit rest h = let c = first rest in grind (arith, nat_tests)

seam_other : (rest : List ℕ) (k : ℕ) → is_seam 16 rest ≡ true → (is_ending k || k == 46 || k == 58) ≡ false → eqb k (first rest) ≡ false
seam_other rest k h n = let c = first rest in grind (arith, nat_tests)

seam_fraction : (rest : List ℕ) → is_seam 16 rest ≡ true → begins_fraction rest ≡ false
seam_fraction rest h = let c = first rest in let d = slice_index rest 1 in grind (arith, nat_tests)

seam_exponent : (rest : List ℕ) → is_seam 16 rest ≡ true → begins_exponent rest ≡ false
seam_exponent rest h = let c = first rest in grind (arith, nat_tests)

unsigned_form-joined_all : (bs : List ℕ) → unsigned_form bs ≡ joined_all (natural bs ∷ double bs ∷ date bs ∷ time bs ∷ binary bs ∷ bytes_literal bs ∷ [])
unfolding unsigned_form
unsigned_form-joined_all bs = longest-joined_all (natural bs ∷ double bs ∷ date bs ∷ time bs ∷ binary bs ∷ bytes_literal bs ∷ [])

-- ---- the other forms at a number

shaped_not : (zs ds x rest : List ℕ) (c : ℕ) → list_all (λ z. z == 48) zs ≡ true → list_all is_ascii_digit x ≡ true → (c == 48) ≡ false → is_ascii_digit c ≡ false
    → is_ascii_digit (first rest) ≡ false → is_shaped (c ∷ ds) rest ≡ false → is_shaped (zs ++ c ∷ ds) (x ++ rest) ≡ false
shaped_not [] ds [] rest c z h n m e f = f
shaped_not (k ∷ zs) ds [] [] c z h n m e f = refl
shaped_not (k ∷ zs) ds [] (r ∷ rest) c z h n m e f =
    ap (λ (t : Bool). (if t then is_ascii_digit r else eqb r k) && is_shaped (zs ++ c ∷ ds) rest) (and_parts (eqb k 48) (list_all (λ z. z == 48) zs) z).0
    ∙ ap (λ (t : Bool). t && is_shaped (zs ++ c ∷ ds) rest) e
shaped_not [] ds (b ∷ x) rest c z h n m e f =
    let other : eqb b c ≡ false = ne_eqb b c (λ same. both_ways (is_ascii_digit c) m (sym (ap is_ascii_digit same) ∙ (and_parts (is_ascii_digit b) (list_all is_ascii_digit x) h).0)) in
    ap (λ (t : Bool). (if t then is_ascii_digit b else eqb b c) && is_shaped ds (x ++ rest)) n ∙ ap (λ (t : Bool). t && is_shaped ds (x ++ rest)) other
shaped_not (k ∷ zs) ds (b ∷ x) rest c z h n m e f =
    let first' = if eqb k 48 then is_ascii_digit b else eqb b k in
    ap (λ (t : Bool). first' && t) (shaped_not zs ds x rest c (and_parts (eqb k 48) (list_all (λ z. z == 48) zs) z).1 (and_parts (is_ascii_digit b) (list_all is_ascii_digit x) h).1 n m e f) ∙ and_false first'

no_hyphen : (ds rest : List ℕ) → is_seam 16 rest ≡ true → is_shaped (45 ∷ ds) rest ≡ false
no_hyphen ds [] h = refl
no_hyphen ds (r ∷ rest) h = and_left (eqb r 45) (is_shaped ds rest) (ne_eqb r 45 (λ same. both_ways (eqb 45 r) (seam_other (r ∷ rest) 45 h refl) (ap (λ k. eqb 45 k) same)))

no_colon : (ds rest : List ℕ) → is_seam 16 rest ≡ true → is_shaped (58 ∷ 48 ∷ ds) rest ≡ false
no_colon ds [] h = refl
no_colon ds (r ∷ []) h = and_false (eqb r 58)
no_colon ds (r ∷ d ∷ rest) h = by_colon (eqb r 58) refl
  where
    by_colon : (t : Bool) → eqb r 58 ≡ t → (eqb r 58 && (is_ascii_digit d && is_shaped ds rest)) ≡ false
    by_colon false e = ap (λ (t : Bool). t && (is_ascii_digit d && is_shaped ds rest)) e
    by_colon true e = let no_digit : is_ascii_digit d ≡ false = grind (arith, nat_tests) in ap (λ (t : Bool). eqb r 58 && (t && is_shaped ds rest)) no_digit ∙ and_false (eqb r 58)

-- the byte after the first one
next_not : (k : ℕ) (cs x rest : List ℕ) → list_all is_ascii_digit x ≡ true → is_seam 16 rest ≡ true → is_ascii_digit k ≡ false → (is_ending k || k == 46 || k == 58) ≡ false
    → starts_with nat_eq (x ++ rest) (k ∷ cs) ≡ false
next_not k cs [] [] h s d o = refl
next_not k cs [] (r ∷ rest) h s d o = and_left (eqb k r) _ (seam_other (r ∷ rest) k s o)
next_not k cs (b ∷ x) rest h s d o = and_left (eqb k b) _ (ne_eqb k b (λ same. both_ways (is_ascii_digit k) d (ap is_ascii_digit same ∙ (and_parts (is_ascii_digit b) (list_all is_ascii_digit x) h).0)))

not_next : (k b : ℕ) (cs x rest : List ℕ) → list_all is_ascii_digit x ≡ true → is_seam 16 rest ≡ true → is_ascii_digit k ≡ false → (is_ending k || k == 46 || k == 58) ≡ false
    → starts_with nat_eq (b ∷ x ++ rest) (48 ∷ k ∷ cs) ≡ false
not_next k b cs x rest h s d o = ap (λ (t : Bool). eqb 48 b && t) (next_not k cs x rest h s d o) ∙ and_false (eqb 48 b)

-- digits, and no zero before others
record IsDigits (x : List ℕ) : Type 0 where
  some : 0 < length x
  digits : list_all is_ascii_digit x ≡ true
  alone : (first x == 48) ≡ true → 1 ≡ length x

digits_len : (b : ℕ) (x rest : List ℕ) → IsDigits (b ∷ x) → is_seam 16 rest ≡ true → natural_len (b ∷ x ++ rest) ≡ suc (length x)
digits_len b x rest d s =
    let bs = b ∷ x ++ rest in
    let hex = is_ascii_hexdigit (slice_index bs 2) in
    let hex_len = 2 + prefix_len is_ascii_hexdigit (drop 2 bs) in
    let tail = (and_parts (is_ascii_digit b) (list_all is_ascii_digit x) d.digits).1 in
    let no_prefix : begins "0x" bs ≡ false = not_next 120 b [] x rest tail s refl refl in
    let run : prefix_len is_ascii_digit bs ≡ suc (length x) = run_len is_ascii_digit (b ∷ x) rest d.digits (seam_digit rest s) refl in
    ap (λ (t : Bool). if t && hex then hex_len else if eqb b 48 then 1 else prefix_len is_ascii_digit bs) no_prefix
    ∙ by_zero (eqb b 48) refl run
  where
    by_zero : (t : Bool) → eqb b 48 ≡ t → prefix_len is_ascii_digit (b ∷ x ++ rest) ≡ suc (length x) → (if t then 1 else prefix_len is_ascii_digit (b ∷ x ++ rest)) ≡ suc (length x)
    by_zero true e run = d.alone e
    by_zero false e run = run

-- the form of a natural
digits_read : (b : ℕ) (x rest : List ℕ) (m : ℕ) → IsDigits (b ∷ x) → is_seam 16 rest ≡ true → read_natural (b ∷ x) ≡ Some m
    → code_form (b ∷ x ++ rest) ≡ Some (record { found = Is (kinds.Natural m); len = suc (length x) })
digits_read b x rest m d s value =
    let bs = b ∷ x ++ rest in
    let n = suc (length x) in
    let parts = and_parts (is_ascii_digit b) (list_all is_ascii_digit x) d.digits in
    let size = digits_len b x rest d s in
    let f : Form = record { found = Is (kinds.Natural m); len = n } in
    let natural_is : natural bs ≡ Some f =
    ap (λ k. form (natural_found (read_natural (take k bs))) k) size
    ∙ ap (λ t. form (natural_found (read_natural t)) n) (take_front (b ∷ x) rest)
    ∙ ap (λ v. form (natural_found v) n) value in
    let double_is : double bs ≡ None =
    ap (λ k. fractional k bs) size
    ∙ ap (λ (t : Bool). if t && (begins_fraction (drop n bs) || begins_exponent (drop n bs)) then form LeftOut (2 + n) else None) (lt-ltb 0 n (omega arith))
    ∙ ap (λ t. if begins_fraction t || begins_exponent t then form LeftOut (2 + n) else None) (drop_front (b ∷ x) rest)
    ∙ ap (λ (t : Bool). if t || begins_exponent rest then form LeftOut (2 + n) else None) (seam_fraction rest s)
    ∙ ap (λ (t : Bool). if t then form LeftOut (2 + n) else None) (seam_exponent rest s) in
    let date_is : date bs ≡ None = ap (λ (t : Bool). if t then form LeftOut 10 else None) (shaped_not (codes "0000") (codes "00-00") (b ∷ x) rest 45 refl d.digits refl refl (seam_digit rest s) (no_hyphen (codes "00-00") rest s)) in
    let time_is : time bs ≡ None = ap (λ (t : Bool). if t then form LeftOut 5 else None) (shaped_not (codes "00") (codes "00") (b ∷ x) rest 58 refl d.digits refl refl (seam_digit rest s) (no_colon (codes "0") rest s)) in
    let binary_is : binary bs ≡ None = ap (λ (t : Bool). if t && is_bit (slice_index bs 2) then form LeftOut 3 else None) (not_next 98 b [] x rest parts.1 s refl refl) in
    let bytes_is : bytes_literal bs ≡ None = ap (λ (t : Bool). if t then form LeftOut 3 else None) (not_next 120 b (codes "\"") x rest parts.1 s refl refl) in
    code_form-digit bs parts.0 ∙ unsigned_form-joined_all bs
    ∙ ap (λ f. joined_all (f ∷ double bs ∷ date bs ∷ time bs ∷ binary bs ∷ bytes_literal bs ∷ [])) natural_is
    ∙ ap (λ g. joined_all (Some f ∷ g ∷ date bs ∷ time bs ∷ binary bs ∷ bytes_literal bs ∷ [])) double_is
    ∙ ap (λ g. joined_all (Some f ∷ None ∷ g ∷ time bs ∷ binary bs ∷ bytes_literal bs ∷ [])) date_is
    ∙ ap (λ g. joined_all (Some f ∷ None ∷ None ∷ g ∷ binary bs ∷ bytes_literal bs ∷ [])) time_is
    ∙ ap (λ g. joined_all (Some f ∷ None ∷ None ∷ None ∷ g ∷ bytes_literal bs ∷ [])) binary_is
    ∙ ap (λ g. joined_all (Some f ∷ None ∷ None ∷ None ∷ None ∷ g ∷ [])) bytes_is

-- ---- printed naturals

decimal_digit : (c : ℕ) → digit_value c < 10 → is_ascii_digit c ≡ true
decimal_digit c h = let range = digit_from_value c h in grind (arith, nat_tests)

all_digits : (ds : List ℕ) → AllDigits 10 ds → list_all is_ascii_digit ds ≡ true
all_digits [] h = refl
all_digits (c ∷ cs) h = ap (λ (t : Bool). t && list_all is_ascii_digit cs) (decimal_digit c h.0) ∙ all_digits cs h.1

zero_alone : (ds : List ℕ) → list_all is_ascii_digit ds ≡ true → is_natural ds ≡ true → (first ds == 48) ≡ true → 1 ≡ length ds
zero_alone [] d h z = absurd (both_ways false refl h)
zero_alone (b ∷ x) d h z =
    let bs = b ∷ x in
    let parts = and_parts (is_ascii_digit b) (list_all is_ascii_digit x) d in
    let no_prefix : begins "0x" bs ≡ false = subst (λ t. starts_with nat_eq (b ∷ t) (48 ∷ 120 ∷ []) ≡ false) (append-nil x) (not_next 120 b [] x [] parts.1 refl refl refl) in
    let size = eqb-true (natural_len bs) (length bs) (and_parts (nat_lt 0 (length bs)) _ h).1 in
    sym (ap (λ (t : Bool). if t && is_ascii_hexdigit (slice_index bs 2) then 2 + prefix_len is_ascii_hexdigit (drop 2 bs) else if eqb b 48 then 1 else prefix_len is_ascii_digit bs) no_prefix
    ∙ ap (λ (t : Bool). if t then 1 else prefix_len is_ascii_digit bs) z) ∙ size

decimal_is : (n : ℕ) → n < 2 ^ 128 → IsDigits (decimal n)
decimal_is n h =
    let numeral = decimal_is_IsNumeral_wide n (lt_trans h (lit< tt)) in
    let digits = all_digits (decimal n) numeral.0.1 in
    record { some = numeral.0.0; digits = digits; alone = zero_alone (decimal n) digits (natural_spelled n h) }

pub natural_front : (n : ℕ) (rest : List ℕ) → n < 2 ^ 128 → is_seam 16 rest ≡ true
    → (b : ℕ) × (x : List ℕ) × (decimal n ≡ b ∷ x) × (is_ascii_digit b ≡ true) × (code_form (b ∷ x ++ rest) ≡ Some (record { found = Is (kinds.Natural n); len = suc (length x) }))
natural_front n rest h s = by (decimal n) refl
  where
    by : (ds : List ℕ) → decimal n ≡ ds → (b : ℕ) × (x : List ℕ) × (decimal n ≡ b ∷ x) × (is_ascii_digit b ≡ true) × (code_form (b ∷ x ++ rest) ≡ Some (record { found = Is (kinds.Natural n); len = suc (length x) }))
    by [] e = let d = subst IsDigits e (decimal_is n h) in absurd (let some = d.some in omega (arith, some))
    by (b ∷ x) e =
        let d = subst IsDigits e (decimal_is n h) in
        (b, x, e, (and_parts (is_ascii_digit b) (list_all is_ascii_digit x) d.digits).0, digits_read b x rest n d s (sym (ap read_natural e) ∙ natural_read n h))

-- ---- printed integers

no_append : (b : ℕ) (t : List ℕ) → is_ascii_digit b ≡ true → starts_with nat_eq (b ∷ t) (43 ∷ []) ≡ false
no_append b t h = and_left (eqb 43 b) true (ne_eqb 43 b (λ same. both_ways (is_ascii_digit 43) refl (ap is_ascii_digit same ∙ h)))

plus_mark : (t : List ℕ) → starts_with nat_eq t (43 ∷ []) ≡ false → mark (43 ∷ t) ≡ form (Is (kinds.Mark (marks.Operator binary.Plus))) 1
plus_mark t e =
    longest-joined_all (map (mark_form (43 ∷ t)) (brackets ++ separators ++ binders ++ operators ++ operators_twice))
    ∙ ap (λ (c : Bool). joined (form (Is (kinds.Mark (marks.Operator binary.Plus))) 1) (joined (if c then form (Is (kinds.Mark (marks.Operator binary.TextAppend))) 2 else None) None)) e

-- the form of a sign and digits, but for marks
signed_read : (g b : ℕ) (x rest : List ℕ) (z : ℤ) → is_sign g ≡ true → IsDigits (b ∷ x) → is_seam 16 rest ≡ true → read_integer (g ∷ b ∷ x) ≡ Some z
    → joined_all (integer (g ∷ b ∷ x ++ rest) ∷ signed_double (g ∷ b ∷ x ++ rest) ∷ signed_time (g ∷ b ∷ x ++ rest) ∷ []) ≡ Some (record { found = Is (kinds.Integer z); len = suc (suc (length x)) })
signed_read g b x rest z sign d s value =
    let bs = g ∷ b ∷ x ++ rest in
    let n = suc (suc (length x)) in
    let size = digits_len b x rest d s in
    let f : Form = record { found = Is (kinds.Integer z); len = n } in
    let size' : integer_len bs ≡ n =
    ap (λ (t : Bool). if t && nat_lt 0 (natural_len (b ∷ x ++ rest)) then suc (natural_len (b ∷ x ++ rest)) else 0) sign
    ∙ ap (λ k. if nat_lt 0 k then suc k else 0) size
    ∙ ap (λ (t : Bool). if t then n else 0) (lt-ltb 0 (suc (length x)) (omega arith)) in
    let integer_is : integer bs ≡ Some f =
    ap (λ k. form (integer_found (read_integer (take k bs))) k) size'
    ∙ ap (λ t. form (integer_found (read_integer t)) n) (take_front (g ∷ b ∷ x) rest)
    ∙ ap (λ v. form (integer_found v) n) value in
    let double_is : signed_double bs ≡ None =
    ap (λ k. fractional k bs) size'
    ∙ ap (λ (t : Bool). if t && (begins_fraction (drop n bs) || begins_exponent (drop n bs)) then form LeftOut (2 + n) else None) (lt-ltb 0 n (omega arith))
    ∙ ap (λ t. if begins_fraction t || begins_exponent t then form LeftOut (2 + n) else None) (drop_front (g ∷ b ∷ x) rest)
    ∙ ap (λ (t : Bool). if t || begins_exponent rest then form LeftOut (2 + n) else None) (seam_fraction rest s)
    ∙ ap (λ (t : Bool). if t then form LeftOut (2 + n) else None) (seam_exponent rest s) in
    let time_is : signed_time bs ≡ None =
    ap (λ (t : Bool). if t then form LeftOut 6 else None)
    (ap (λ (t : Bool). is_sign g && t) (shaped_not (codes "00") (codes "00") (b ∷ x) rest 58 refl d.digits refl refl (seam_digit rest s) (no_colon (codes "0") rest s)) ∙ and_false (is_sign g)) in
    ap (λ f. joined_all (f ∷ signed_double bs ∷ signed_time bs ∷ [])) integer_is
    ∙ ap (λ g. joined_all (Some f ∷ g ∷ signed_time bs ∷ [])) double_is
    ∙ ap (λ g. joined_all (Some f ∷ None ∷ g ∷ [])) time_is

plus_read : (b : ℕ) (x rest : List ℕ) (z : ℤ) → IsDigits (b ∷ x) → is_seam 16 rest ≡ true → read_integer (43 ∷ b ∷ x) ≡ Some z
    → code_form (43 ∷ b ∷ x ++ rest) ≡ Some (record { found = Is (kinds.Integer z); len = suc (suc (length x)) })
plus_read b x rest z d s value =
    let bs = 43 ∷ b ∷ x ++ rest in
    let parts = and_parts (is_ascii_digit b) (list_all is_ascii_digit x) d.digits in
    code_form-plus bs refl
    ∙ ap (λ m. joined m (mark bs)) (signed_form-joined_all bs ∙ signed_read 43 b x rest z refl d s value)
    ∙ ap (joined (Some (record { found = Is (kinds.Integer z); len = suc (suc (length x)) }))) (plus_mark (b ∷ x ++ rest) (no_append b (x ++ rest) parts.0))
    ∙ longer-first (Is (kinds.Integer z)) (Is (kinds.Mark (marks.Operator binary.Plus))) 1 (suc (suc (length x))) (omega arith) (omega arith)

minus_read : (b : ℕ) (x rest : List ℕ) (z : ℤ) → IsDigits (b ∷ x) → is_seam 16 rest ≡ true → read_integer (45 ∷ b ∷ x) ≡ Some z
    → code_form (45 ∷ b ∷ x ++ rest) ≡ Some (record { found = Is (kinds.Integer z); len = suc (suc (length x)) })
minus_read b x rest z d s value =
    let bs = 45 ∷ b ∷ x ++ rest in
    let parts = and_parts (is_ascii_digit b) (list_all is_ascii_digit x) d.digits in
    let other : (k : ℕ) → is_ascii_digit k ≡ false → eqb k b ≡ false = λ k h. ne_eqb k b (λ same. both_ways (is_ascii_digit k) h (ap is_ascii_digit same ∙ parts.0)) in
    let infinity : minus_infinity bs ≡ None =
    ap (λ (t : Bool). if t && name_len (b ∷ x ++ rest) == 8 then form LeftOut 9 else None) (and_left (eqb 73 b) (starts_with nat_eq (x ++ rest) (codes "nfinity")) (other 73 refl)) in
    code_form-minus bs refl (and_left (eqb 45 b) true (other 45 refl)) (and_left (eqb 62 b) true (other 62 refl)) infinity
    ∙ signed_form-joined_all bs ∙ signed_read 45 b x rest z refl d s value

-- what is found of an integer: its sign, and digits
pub record IsSigned (z : ℤ) (rest : List ℕ) : Type 0 where
  pub sign : ℕ
  pub digits : List ℕ
  pub written : write_integer z ≡ sign ∷ digits
  pub is_sign' : is_sign sign ≡ true
  pub read : code_form (sign ∷ digits ++ rest) ≡ Some (record { found = Is (kinds.Integer z); len = suc (length digits) })

pub integer_front : (z : ℤ) (rest : List ℕ) → integer_fits z ≡ true → is_seam 16 rest ≡ true → IsSigned z rest
integer_front (pos n) rest h s = by (decimal n) refl
  where
    by : (ds : List ℕ) → decimal n ≡ ds → IsSigned (pos n) rest
    by [] e = let d = subst IsDigits e (decimal_is n (lt_trans (ltb-true n (2 ^ 127) h) (lit< tt))) in absurd (let some = d.some in omega (arith, some))
    by (b ∷ x) e =
        let d = subst IsDigits e (decimal_is n (lt_trans (ltb-true n (2 ^ 127) h) (lit< tt))) in
        record { sign = 43; digits = b ∷ x; written = ap (λ t. 43 ∷ t) e; is_sign' = refl; read = plus_read b x rest (pos n) d s (sym (ap (λ t. read_integer (43 ∷ t)) e) ∙ integer_read (pos n) h) }
integer_front (negsuc n) rest h s = by (decimal (suc n)) refl
  where
    wide : suc n < 2 ^ 128
    wide = let l = ltb-true n (2 ^ 127) h in omega (arith, l)

    by : (ds : List ℕ) → decimal (suc n) ≡ ds → IsSigned (negsuc n) rest
    by [] e = let d = subst IsDigits e (decimal_is (suc n) wide) in absurd (let some = d.some in omega (arith, some))
    by (b ∷ x) e =
        let d = subst IsDigits e (decimal_is (suc n) wide) in
        record { sign = 45; digits = b ∷ x; written = ap (λ t. 45 ∷ t) e; is_sign' = refl; read = minus_read b x rest (negsuc n) d s (sym (ap (λ t. read_integer (45 ∷ t)) e) ∙ integer_read (negsuc n) h) }
