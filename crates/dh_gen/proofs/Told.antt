-- What the world of the generated texts tells, and how long its texts are.
use Rattle.std.proofs.Common.{◌≡◌, ◌≢◌, ℕ, zero, suc, ◌+◌, ◌^◌, ◌≤◌, ◌<◌, ◌/◌, ◌⊎◌, inl, inr, List, [], ◌∷◌, ◌++◌, length, get_or, Bool, true, false, true≢false, Option, Some, None, if◌then◌else◌, codes, decimal, refl, sym, ap, ◌∙◌, subst, arith, nat_le}
use Rattle.std.specs.Prelude.{◌&&◌, ◌==◌, not, IfOk, Result, Ok, Err}
use Rattle.std.specs.Char.{is_ascii_digit}
use Rattle.std.specs.List.{list_all}
use Rattle.std.specs.Str.Parse.{AllDigits, IsNumeral, digits_value}
use Rattle.std.proofs.lemmas.Bool.{and_parts, eqb-true, leb-true, le-leb, ne_eqb}
use Rattle.std.proofs.lemmas.Bool.Decides.{nat_tests}
use Rattle.std.proofs.lemmas.Fmt.{decimal-digits_value, decimal_is_IsNumeral, decimal_nonempty, first_decimal, length-decimal-le}
use Rattle.std.proofs.lemmas.List.{length-append}
use Rattle.std.proofs.lemmas.Str.Parse.{numerals_by_value, tells_digits}
use Rattle.std.specs.Char.{digit_value}
use Rattle.dh_syntax.specs.declared.locations.Loc.{Loc}
use Rattle.dh_syntax.specs.declared.locations.Loc.TheVariants as locs
use Rattle.dh_gen.specs.Generated.{got_at, import_text, number_at, number_in, text_of, told}
use Rattle.dh_gen.specs.GeneratedLaws.{TellsTexts, TellsNothingElse, location_of}
use Rattle.dh_gen.specs.Numbers.{is_numeral, most_number, number_of}
use Rattle.dh_gen.proofs.Numerals.{numeral}

-- ---- names

-- a name that does not begin with `g` is that of no text
pub no_number : (bs : List ℕ) → ((rest : List ℕ) → bs ≢ 103 ∷ rest) → None ≡ number_in bs
no_number [] h = refl
no_number (b ∷ bs) h = ap (λ t. if t then number_of bs else None) (sym (ne_eqb b 103 (λ e. h bs (ap (λ x. x ∷ bs) e))))

-- ---- lengths

parts_length : (p a q b c : List ℕ) → length ((p ++ a) ++ q ++ (p ++ b) ++ q ++ c) ≡ length p + length a + length q + (length p + length b) + length q + length c
parts_length p a q b c =
    length-append ((p ++ a) ++ q ++ (p ++ b) ++ q) c
    ∙ ap (λ n. n + length c)
    (length-append ((p ++ a) ++ q ++ (p ++ b)) q
    ∙ ap (λ n. n + length q)
    (length-append ((p ++ a) ++ q) (p ++ b)
    ∙ (ap (λ n. n + length (p ++ b)) (length-append (p ++ a) q ∙ ap (λ n. n + length q) (length-append p a)) ∙ ap (λ n. length p + length a + length q + n) (length-append p b))))

short_parts : (a b c : List ℕ) → length a ≤ 10 → length b ≤ 10 → length c ≤ 10
    → length ((codes "./g" ++ a) ++ codes " + " ++ (codes "./g" ++ b) ++ codes " + " ++ c) ≤ 1048577
short_parts a b c ha hb hc = subst (λ k. k ≤ 1048577) (sym (parts_length (codes "./g") a (codes " + ") b c)) (omega (arith, ha, hb, hc))

short_decimal : (k : ℕ) → k < 2 ^ 32 → length (decimal k) ≤ 10
short_decimal k h = length-decimal-le 10 k (omega arith) (omega (arith, h)) (omega (arith, h))

pub short_text : (k : ℕ) → k < 2 ^ 32 → length (text_of k) ≤ 1048577
short_text zero h = omega arith
short_text (suc zero) h = omega arith
short_text (suc (suc k)) h =
    short_parts (decimal (suc (suc k) / 2)) (decimal (suc (suc k) / 3)) (decimal (suc (suc k))) (short_decimal (suc (suc k) / 2) (omega (arith, h)))
    (short_decimal (suc (suc k) / 3) (omega (arith, h))) (short_decimal (suc (suc k)) h)

-- ---- a number in decimal is the number of its text

digit_is : (c : ℕ) → digit_value c < 10 → is_ascii_digit c ≡ true
digit_is c h = grind (arith, nat_tests)

digits_are : (ds : List ℕ) → AllDigits 10 ds → list_all is_ascii_digit ds ≡ true
digits_are [] h = refl
digits_are (c ∷ cs) h = rw (digit_is c h.0) (digits_are cs h.1)

numeral_of : (ds : List ℕ) → AllDigits 10 ds → 0 < length ds → (get_or ds 0 0 ≡ 48 → length ds ≡ 1) → is_numeral ds ≡ true
numeral_of [] h some zeros = absurd (omega (arith, some))
numeral_of (b ∷ []) h some zeros = digits_are (b ∷ []) h
numeral_of (b ∷ c ∷ bs) h some zeros = rw (ne_eqb b 48 (λ e. let one = zeros e in omega (arith, one))) (digits_are (b ∷ c ∷ bs) h)

leading : (k : ℕ) → k ≤ 4000 → get_or (decimal k) 0 0 ≡ 48 → length (decimal k) ≡ 1
leading zero h e = let some = decimal_nonempty 0 (omega arith) in let few = length-decimal-le 1 0 (omega arith) (omega arith) (omega arith) in omega (arith, some, few)
leading (suc k) h e = absurd (let first = first_decimal (suc k) (omega arith) (omega (arith, h)) in omega (arith, first, e))

numbered : (k : ℕ) → k ≤ 4000 → number_of (decimal k) ≡ Some k
numbered k h =
    let read = decimal_is_IsNumeral k (omega (arith, h)) in
    let is : is_numeral (decimal k) ≡ true = numeral_of (decimal k) read.0.1 read.0.0 (leading k h) in
    ap (λ b. if b && nat_le (digits_value 10 (decimal k)) 4000 then Some (digits_value 10 (decimal k)) else None) is
    ∙ (ap (λ v. if nat_le v 4000 then Some v else None) read.1 ∙ ap (λ b. if b then Some k else None) (le-leb k 4000 h))

pub tells_texts : TellsTexts
tells_texts k h = ap (λ n. Some (got_at n)) (numbered k h)

-- ---- and no other location has a text

zeros_by : (ds : List ℕ) → is_numeral ds ≡ true → get_or ds 0 0 ≡ 48 → length ds ≡ 1
zeros_by [] h e = absurd (true≢false (sym h))
zeros_by (b ∷ []) h e = refl
zeros_by (b ∷ c ∷ bs) h e =
    absurd (true≢false (sym (subst (λ x. (not (x == 48) && list_all is_ascii_digit (x ∷ c ∷ bs)) ≡ true) e h)))

-- where a word writes a number it is that number in decimal
written_so : (w : List ℕ) (k : ℕ) (m t : Bool) → is_numeral w ≡ m → nat_le (digits_value 10 w) 4000 ≡ t → (if m && t then Some (digits_value 10 w) else None) ≡ Some k
    → (k ≤ 4000) × (w ≡ decimal k)
written_so w k true true m t e =
    let n = numeral w m in
    let same : digits_value 10 w ≡ k = cc in
    let small = leb-true (digits_value 10 w) 4000 t in (
      omega (arith, same, small),
      sym (ap decimal (sym same) ∙ decimal-digits_value (numerals_by_value (AllDigits 10) tells_digits) w n.1 n.0 (zeros_by w m) (omega (arith, small))),
    )
written_so w k true false m t e = absurd cc
written_so w k false t m u e = absurd cc

named_so : (b : ℕ) (bs : List ℕ) (k : ℕ) (t : Bool) → (b == 103) ≡ t → (if t then number_of bs else None) ≡ Some k → (k ≤ 4000) × (b ∷ bs ≡ 103 ∷ decimal k)
named_so b bs k true t e =
    let (small, same) = written_so bs k (is_numeral bs) (nat_le (digits_value 10 bs) 4000) refl refl e in
    (small, ap (λ x. x ∷ bs) (eqb-true b 103 t) ∙ ap (λ xs. 103 ∷ xs) same)
named_so b bs k false t e = absurd cc

located : (l : Loc) (k : ℕ) → number_at l ≡ Some k → (k ≤ 4000) × (l ≡ location_of k)
located (locs.Here []) k e = absurd cc
located (locs.Here ([] ∷ [])) k e = absurd cc
located (locs.Here ((b ∷ bs) ∷ [])) k e = let (small, same) = named_so b bs k (b == 103) refl e in (small, ap (λ name. locs.Here (name ∷ [])) same)
located (locs.Here (x ∷ y ∷ zs)) k e = absurd cc
located (locs.Abs c) k e = absurd cc
located (locs.Parent c) k e = absurd cc
located (locs.Home c) k e = absurd cc
located (locs.Http u) k e = absurd cc
located (locs.Https u) k e = absurd cc
located (locs.Env n) k e = absurd cc
located locs.Missing k e = absurd cc

none_told : (l : Loc) (o : Option ℕ) → number_at l ≡ o → ((k : ℕ) → k ≤ 4000 → ¬ (l ≡ location_of k)) → told l ≡ Some (got_at None)
none_told l None e h = ap (λ n. Some (got_at n)) e
none_told l (Some k) e h = let (small, same) = located l k e in absurd (h k small same)

pub tells_nothing_else : TellsNothingElse
tells_nothing_else l h = none_told l (number_at l) refl h
