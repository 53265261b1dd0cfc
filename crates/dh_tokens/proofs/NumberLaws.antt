-- Laws of numbers at one place.
use Rattle.std.proofs.Common.{◌≡◌, ℕ, zero, suc, ◌+◌, ◌<◌, ◌≤◌, Bool, true, false, ◌&&◌, cond, if◌then◌else◌, ◌==◌, nat_lt, eqb, List, [], ◌∷◌, length, take, drop, get_or, slice_index, inl, inr, refl, sym, ap, subst, ◌∙◌, arith}
use Rattle.std.proofs.lemmas.Bool.{and_right, and_from, ltb-true, both_ways, cases_lt, eqb-true, eq-eqb, lt-ltb, and_parts}
use Rattle.std.proofs.lemmas.Bool.Decides.{nat_tests}
use Rattle.std.proofs.lemmas.List.{get_or-take, length-take-le}
use Rattle.std.proofs.lemmas.List.Sums.{prefix_len-le-length}
use Rattle.std.proofs.lemmas.Str.Ascii.{IsAscii-nil, IsAscii-cons}
use Rattle.std.specs.Char.{is_ascii_digit, is_ascii_hexdigit}
use Rattle.std.specs.List.{prefix_len}
use Rattle.std.specs.Str.{byte, IsAscii}
use Rattle.dh_syntax.specs.Text.Characters.{first, begins, is_sign}
use Rattle.dh_syntax.specs.Text.LexNumbers.{is_shaped}
use Rattle.dh_syntax.specs.Text.Numerals.{natural_len, integer_len, is_natural, is_integer}
use Rattle.dh_tokens.proofs.FormLaws.{prefix_len-some}
use Rattle.dh_tokens.proofs.Runs.{ascii_run}

-- what is too short has no shape
pub is_shaped-short : (cs bs : List ℕ) → length bs < length cs → is_shaped cs bs ≡ false
is_shaped-short [] bs h = absurd (omega (arith, h))
is_shaped-short (c ∷ cs) [] h = refl
is_shaped-short (c ∷ cs) (b ∷ bs) h = and_right (if c == byte "0" then is_ascii_digit b else b == c) (is_shaped cs bs) (is_shaped-short cs bs (omega (arith, h)))

pub shaped_within : (cs bs : List ℕ) → is_shaped cs bs ≡ true → length cs ≤ length bs
shaped_within cs bs yes' = elim (cases_lt (length bs) (length cs)) [ inl short ↦ absurd (both_ways (is_shaped cs bs) (is_shaped-short cs bs short) yes') | inr fits ↦ fits ]

-- the front that passes a test passes it
prefix_len-take-by : (p : ℕ → Bool) (b n : ℕ) (bs : List ℕ) (t : Bool) → p b ≡ t → prefix_len p (take n bs) ≡ n → prefix_len p (take (cond t (1 + n) 0) (b ∷ bs)) ≡ cond t (1 + n) 0
prefix_len-take-by p b n bs true e h =
    let s : 1 + n ≡ suc n = omega arith in
    ap (λ k. prefix_len p (take k (b ∷ bs))) s ∙ ap (λ (c : Bool). cond c (1 + prefix_len p (take n bs)) 0) e ∙ ap (λ k. 1 + k) h
prefix_len-take-by p b n bs false e h = refl

pub prefix_len-take : (p : ℕ → Bool) (bs : List ℕ) → prefix_len p (take (prefix_len p bs) bs) ≡ prefix_len p bs
prefix_len-take p [] = refl
prefix_len-take p (b ∷ bs) = prefix_len-take-by p b (prefix_len p bs) bs (p b) refl (prefix_len-take p bs)

two_same : (a x b y : ℕ) (rest : List ℕ) → a ≡ x → b ≡ y → a ∷ b ∷ rest ≡ x ∷ y ∷ rest
two_same a x b y rest p q = cc

-- a fact on how long the longest natural is, by its three kinds
natural_len-cases-by : (bs : List ℕ) (P : ℕ → Type 0) (hex zero' : Bool) → (begins "0x" bs && is_ascii_hexdigit (slice_index bs 2)) ≡ hex → (first bs == byte "0") ≡ zero'
    → ((cs : List ℕ) → bs ≡ 48 ∷ 120 ∷ cs → is_ascii_hexdigit (get_or cs 0 0) ≡ true → P (2 + prefix_len is_ascii_hexdigit cs))
    → ((cs : List ℕ) → bs ≡ 48 ∷ cs → P 1) → ((first bs == byte "0") ≡ false → P (prefix_len is_ascii_digit bs))
    → P (if hex then 2 + prefix_len is_ascii_hexdigit (drop 2 bs) else if zero' then 1 else prefix_len is_ascii_digit bs)
natural_len-cases-by [] P true zero' e z hexadecimal one decimal = absurd (both_ways false refl e)
natural_len-cases-by (a ∷ []) P true zero' e z hexadecimal one decimal = absurd (both_ways false refl (and_parts (begins "0x" (a ∷ [])) false e).1)
natural_len-cases-by (a ∷ b ∷ cs) P true zero' e z hexadecimal one decimal =
    let parts = and_parts (begins "0x" (a ∷ b ∷ cs)) (is_ascii_hexdigit (get_or cs 0 0)) e in
    let marks = and_parts (eqb 48 a) (eqb 120 b && true) parts.0 in
    let second = and_parts (eqb 120 b) true marks.1 in
    hexadecimal cs (two_same a 48 b 120 cs (sym (eqb-true 48 a marks.0)) (sym (eqb-true 120 b second.0))) parts.1
natural_len-cases-by [] P false true e z hexadecimal one decimal = absurd (both_ways false refl z)
natural_len-cases-by (a ∷ cs) P false true e z hexadecimal one decimal = one cs (ap (λ (x : ℕ). x ∷ cs) (eqb-true a 48 z))
natural_len-cases-by bs P false false e z hexadecimal one decimal = decimal z

natural_len-cases : (bs : List ℕ) (P : ℕ → Type 0)
    → ((cs : List ℕ) → bs ≡ 48 ∷ 120 ∷ cs → is_ascii_hexdigit (get_or cs 0 0) ≡ true → P (2 + prefix_len is_ascii_hexdigit cs))
    → ((cs : List ℕ) → bs ≡ 48 ∷ cs → P 1) → ((first bs == byte "0") ≡ false → P (prefix_len is_ascii_digit bs)) → P (natural_len bs)
natural_len-cases bs P hexadecimal one decimal = natural_len-cases-by bs P (begins "0x" bs && is_ascii_hexdigit (slice_index bs 2)) (first bs == byte "0") refl refl hexadecimal one decimal

pub natural_len-within : (bs : List ℕ) → natural_len bs ≤ length bs
natural_len-within bs =
    natural_len-cases bs (λ n. n ≤ length bs)
    (λ cs e h. omega (arith, ap length e, prefix_len-le-length is_ascii_hexdigit cs))
    (λ cs e. omega (arith, ap length e))
    (λ h. prefix_len-le-length is_ascii_digit bs)

-- the bytes of a natural are ASCII
ascii_digit : (b : ℕ) → is_ascii_digit b ≡ true → b < 128
ascii_digit b h = grind (arith, nat_tests)

ascii_hexdigit : (b : ℕ) → is_ascii_hexdigit b ≡ true → b < 128
ascii_hexdigit b h = grind (arith, nat_tests)

ascii_hexadecimal : (n : ℕ) (cs : List ℕ) → IsAscii (take n cs) → IsAscii (take (2 + n) (48 ∷ 120 ∷ cs))
ascii_hexadecimal n cs h =
    let s : 2 + n ≡ suc (suc n) = omega arith in
    subst (λ k. IsAscii (take k (48 ∷ 120 ∷ cs))) (sym s) (IsAscii-cons 48 (120 ∷ take n cs) (omega arith) (IsAscii-cons 120 (take n cs) (omega arith) h))

pub natural_is_ascii : (bs : List ℕ) → IsAscii (take (natural_len bs) bs)
natural_is_ascii bs =
    let P : ℕ → Type 0 = λ n. IsAscii (take n bs) in
    natural_len-cases bs P
    (λ cs e h. let Q : List ℕ → Type 0 = λ t. IsAscii (take (2 + prefix_len is_ascii_hexdigit cs) t) in subst Q (sym e) (ascii_hexadecimal (prefix_len is_ascii_hexdigit cs) cs (ascii_run is_ascii_hexdigit ascii_hexdigit cs)))
    (λ cs e. let Q : List ℕ → Type 0 = λ t. IsAscii (take 1 t) in subst Q (sym e) (IsAscii-cons 48 [] (omega arith) IsAscii-nil))
    (λ h. ascii_run is_ascii_digit ascii_digit bs)

-- a natural alone is as long
again_hexadecimal : (cs : List ℕ) → is_ascii_hexdigit (get_or cs 0 0) ≡ true → natural_len (take (2 + prefix_len is_ascii_hexdigit cs) (48 ∷ 120 ∷ cs)) ≡ 2 + prefix_len is_ascii_hexdigit cs
again_hexadecimal cs h =
    let n = prefix_len is_ascii_hexdigit cs in
    let some : 0 < n = prefix_len-some is_ascii_hexdigit cs h refl in
    let s : 2 + n ≡ suc (suc n) = omega arith in
    let digit : is_ascii_hexdigit (get_or (take n cs) 0 0) ≡ true = ap is_ascii_hexdigit (get_or-take n cs 0 0 some) ∙ h in
    ap (λ k. natural_len (take k (48 ∷ 120 ∷ cs))) s
    ∙ ap (λ (b : Bool). if b then 2 + prefix_len is_ascii_hexdigit (take n cs) else 1) digit
    ∙ ap (λ k. 2 + k) (prefix_len-take is_ascii_hexdigit cs)

again_decimal-by : (ds : List ℕ) → (first ds == byte "0") ≡ false → natural_len ds ≡ prefix_len is_ascii_digit ds
again_decimal-by ds h =
    let is_zero : List ℕ → Bool = λ t. first t == byte "0" in
    natural_len-cases ds (λ n. n ≡ prefix_len is_ascii_digit ds)
    (λ cs e digit. absurd (both_ways (is_zero ds) h (ap is_zero e)))
    (λ cs e. absurd (both_ways (is_zero ds) h (ap is_zero e)))
    (λ e. refl)

first_of_take : (n : ℕ) (bs : List ℕ) → (first bs == byte "0") ≡ false → (first (take n bs) == byte "0") ≡ false
first_of_take zero bs h = refl
first_of_take (suc n) [] h = refl
first_of_take (suc n) (b ∷ bs) h = h

again_decimal : (bs : List ℕ) → (first bs == byte "0") ≡ false → natural_len (take (prefix_len is_ascii_digit bs) bs) ≡ prefix_len is_ascii_digit bs
again_decimal bs h =
    let n = prefix_len is_ascii_digit bs in
    again_decimal-by (take n bs) (first_of_take n bs h) ∙ prefix_len-take is_ascii_digit bs

pub natural_len-take : (bs : List ℕ) → natural_len (take (natural_len bs) bs) ≡ natural_len bs
natural_len-take bs =
    natural_len-cases bs (λ n. natural_len (take n bs) ≡ n)
    (λ cs e h. let Q : List ℕ → Type 0 = λ t. natural_len (take (2 + prefix_len is_ascii_hexdigit cs) t) ≡ 2 + prefix_len is_ascii_hexdigit cs in subst Q (sym e) (again_hexadecimal cs h))
    (λ cs e. let Q : List ℕ → Type 0 = λ t. natural_len (take 1 t) ≡ 1 in subst Q (sym e) refl)
    (λ h. again_decimal bs h)

whole-by : (n len len' : ℕ) → 0 < n → len ≡ n → len' ≡ n → (nat_lt 0 len && (len' == len)) ≡ true
whole-by n len len' some e e' =
    let has : nat_lt 0 len ≡ true = lt-ltb 0 len (omega (arith, some)) in
    let same : (len' == len) ≡ true = eq-eqb len' len (e' ∙ sym e) in
    and_from (nat_lt 0 len) (len' == len) has same

pub is_natural-take : (bs : List ℕ) (n : ℕ) → 0 < n → n ≡ natural_len bs → is_natural (take n bs) ≡ true
is_natural-take bs n some n_is =
    let P : ℕ → Type 0 = λ k. 0 < k → is_natural (take k bs) ≡ true in
    let at_len : P (natural_len bs) = λ some. whole-by (natural_len bs) (length (take (natural_len bs) bs)) (natural_len (take (natural_len bs) bs)) some (length-take-le (natural_len bs) bs (natural_len-within bs)) (natural_len-take bs) in
    subst P (sym n_is) at_len some

-- an integer is a sign and a natural
pub record IsSigned (bs : List ℕ) (n sign : ℕ) (rest : List ℕ) : Type 0 where
  pub bytes : bs ≡ sign ∷ rest
  pub signs : is_sign sign ≡ true
  pub some : 0 < natural_len rest
  pub len : n ≡ suc (natural_len rest)

integer_len-by : (s : ℕ) (cs : List ℕ) (n : ℕ) (b : Bool) → (is_sign s && nat_lt 0 (natural_len cs)) ≡ b → 0 < n → n ≡ (if b then suc (natural_len cs) else 0) → IsSigned (s ∷ cs) n s cs
integer_len-by s cs n true e some n_is =
    let parts = and_parts (is_sign s) (nat_lt 0 (natural_len cs)) e in
    record { bytes = refl; signs = parts.0; some = ltb-true 0 (natural_len cs) parts.1; len = n_is }
integer_len-by s cs n false e some n_is = absurd (omega (arith, some, n_is))

pub integer_len-some : (bs : List ℕ) (n : ℕ) → 0 < n → n ≡ integer_len bs → (s : ℕ) × (cs : List ℕ) × IsSigned bs n s cs
integer_len-some [] n some n_is = absurd (omega (arith, some, n_is))
integer_len-some (s ∷ cs) n some n_is = (s, cs, integer_len-by s cs n (is_sign s && nat_lt 0 (natural_len cs)) refl some n_is)

pub integer_len-within : (bs : List ℕ) (n : ℕ) → 0 < n → n ≡ integer_len bs → n ≤ length bs
integer_len-within bs n some n_is =
    let h = integer_len-some bs n some n_is in
    omega (arith, h.2.len, ap length h.2.bytes, natural_len-within h.1)

ascii_sign : (b : ℕ) → is_sign b ≡ true → b < 128
ascii_sign b h = grind (arith, nat_tests)

pub integer_is_ascii : (bs : List ℕ) (n : ℕ) → 0 < n → n ≡ integer_len bs → IsAscii (take n bs)
integer_is_ascii bs n some n_is =
    let h = integer_len-some bs n some n_is in
    let s = h.0 in let cs = h.1 in let signed = h.2 in
    let P : ℕ → List ℕ → Type 0 = λ k t. IsAscii (take k t) in
    let Q : ℕ → Type 0 = λ k. P k bs in
    subst Q (sym signed.len) (subst (P (suc (natural_len cs))) (sym signed.bytes) (IsAscii-cons s (take (natural_len cs) cs) (ascii_sign s signed.signs) (natural_is_ascii cs)))

integer_len_of : (s : ℕ) (ds : List ℕ) → is_sign s ≡ true → 0 < natural_len ds → integer_len (s ∷ ds) ≡ suc (natural_len ds)
integer_len_of s ds signs some =
    let both : (is_sign s && nat_lt 0 (natural_len ds)) ≡ true = and_from (is_sign s) (nat_lt 0 (natural_len ds)) signs (lt-ltb 0 (natural_len ds) some) in
    ap (λ (b : Bool). if b then suc (natural_len ds) else 0) both

is_integer-of : (s : ℕ) (cs : List ℕ) → is_sign s ≡ true → 0 < natural_len cs → is_integer (take (suc (natural_len cs)) (s ∷ cs)) ≡ true
is_integer-of s cs signs some =
    let n = natural_len cs in
    let ds = take n cs in
    let again : natural_len ds ≡ n = natural_len-take cs in
    let has : 0 < natural_len ds = omega (arith, again, some) in
    let len_is : length (s ∷ ds) ≡ suc n = ap suc (length-take-le n cs (natural_len-within cs)) in
    let more : 0 < suc n = omega arith in
    whole-by (suc n) (length (s ∷ ds)) (integer_len (s ∷ ds)) more len_is (integer_len_of s ds signs has ∙ ap suc again)

pub is_integer-take : (bs : List ℕ) (n : ℕ) → 0 < n → n ≡ integer_len bs → is_integer (take n bs) ≡ true
is_integer-take bs n some n_is =
    let h = integer_len-some bs n some n_is in
    let s = h.0 in let cs = h.1 in let signed = h.2 in
    let P : ℕ → List ℕ → Type 0 = λ k t. is_integer (take k t) ≡ true in
    let Q : ℕ → Type 0 = λ k. P k bs in
    subst Q (sym signed.len) (subst (P (suc (natural_len cs))) (sym signed.bytes) (is_integer-of s cs signed.signs signed.some))

-- at a digit there is a natural
pub natural_len-some : (bs : List ℕ) (n : ℕ) → is_ascii_digit (first bs) ≡ true → n ≡ natural_len bs → 0 < n
natural_len-some bs n digit n_is =
    let P : ℕ → Type 0 = λ k. 0 < k in
    subst P (sym n_is) (natural_len-cases bs P (λ cs e h. omega arith) (λ cs e. omega arith) (λ h. prefix_len-some is_ascii_digit bs digit refl))
