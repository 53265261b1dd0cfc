-- Laws of digests at one place.
use Rattle.std.proofs.Common.{◌≡◌, ℕ, zero, suc, ◌+◌, ◌*◌, ◌/◌, ◌%◌, ◌≤◌, Bool, true, false, ◌&&◌, cond, if◌then◌else◌, ◌==◌, List, [], ◌∷◌, length, take, Option, Some, None, Ok, Err, refl, sym, ap, ◌∙◌, arith}
use Rattle.std.proofs.lemmas.Bool.{and_parts}
use Rattle.std.proofs.lemmas.Bool.Decides.{nat_tests}
use Rattle.std.proofs.lemmas.List.{length-take}
use Rattle.std.proofs.lemmas.List.Sums.{prefix_len-le-length}
use Rattle.std.specs.Char.{digit_value, is_ascii_hexdigit}
use Rattle.std.specs.List.{list_all, prefix_len}
use Rattle.hex.specs.declared.error.FromHexError.TheVariants.{OddLength, InvalidStringLength}
use Rattle.hex.specs.Hex.{hex_digit_value, digit_or_error, value_at, ◌>>=◌, pair_value, decode_pairs, decode_sized}
use Rattle.dh_syntax.specs.Text.LexLocations.{hex_bytes, digest_of, digest_digits, after_sha256}
use Rattle.dh_syntax.specs.Text.LexForms.{Is, Faulty, Form, form}
use Rattle.dh_syntax.specs.declared.locations.Digest.{Digest}
use Rattle.dh_syntax.specs.declared.tokens.TokenKind.TheVariants as kinds

hex_digit_value-is : (c : ℕ) → is_ascii_hexdigit c ≡ true → hex_digit_value c ≡ Some (digit_value c)
hex_digit_value-is c h = grind (arith, nat_tests)

pair_value-is : (i a b : ℕ) → is_ascii_hexdigit a ≡ true → is_ascii_hexdigit b ≡ true → pair_value a b i ≡ Ok (digit_value a * 16 + digit_value b)
pair_value-is i a b high low =
    ap (λ v. digit_or_error a i v >>= (λ h. value_at b (i + 1) >>= (λ l. Ok (h * 16 + l)))) (hex_digit_value-is a high)
    ∙ ap (λ v. digit_or_error b (i + 1) v >>= (λ l. Ok (digit_value a * 16 + l))) (hex_digit_value-is b low)

pub decode_pairs-hex_bytes : (i n : ℕ) (ds : List ℕ) → length ds ≡ n + n → list_all is_ascii_hexdigit ds ≡ true → decode_pairs i ds ≡ Ok (hex_bytes ds)
unfolding decode_pairs
decode_pairs-hex_bytes i n [] even digits = refl
decode_pairs-hex_bytes i n (a ∷ []) even digits = absurd (omega (arith, even))
decode_pairs-hex_bytes i zero (a ∷ b ∷ ds) even digits = absurd (omega (arith, even))
decode_pairs-hex_bytes i (suc n) (a ∷ b ∷ ds) even digits =
    let first = and_parts (is_ascii_hexdigit a) (is_ascii_hexdigit b && list_all is_ascii_hexdigit ds) digits in
    let second = and_parts (is_ascii_hexdigit b) (list_all is_ascii_hexdigit ds) first.1 in
    let more : length ds ≡ n + n = omega (arith, even) in
    ap (λ r. r >>= (λ byte. decode_pairs (i + 2) ds >>= (λ bytes. Ok (byte ∷ bytes)))) (pair_value-is i a b first.0 second.0)
    ∙ ap (λ r. r >>= (λ bytes. Ok ((digit_value a * 16 + digit_value b) ∷ bytes))) (decode_pairs-hex_bytes (i + 2) n ds more second.1)

pub decode_sized-hex_bytes : (ds : List ℕ) → length ds ≡ 64 → list_all is_ascii_hexdigit ds ≡ true → decode_sized ds 32 ≡ Ok (hex_bytes ds)
decode_sized-hex_bytes ds len digits =
    ap (λ (n : ℕ). if n % 2 == 1 then Err OddLength else if n / 2 == 32 then decode_pairs 0 ds else Err InvalidStringLength) len ∙ decode_pairs-hex_bytes 0 32 ds len digits

list_all-by : (p : ℕ → Bool) (b n : ℕ) (bs : List ℕ) (t : Bool) → suc (length bs) ≤ cond t (1 + n) 0 → (length bs ≤ n → list_all p bs ≡ true) → (t && list_all p bs) ≡ true
list_all-by p b n bs true h more = more (omega (arith, h))
list_all-by p b n bs false h more = absurd (omega (arith, h))

-- what passes to its end passes as a whole
pub list_all-from_prefix_len : (p : ℕ → Bool) (bs : List ℕ) → length bs ≤ prefix_len p bs → list_all p bs ≡ true
list_all-from_prefix_len p [] h = refl
list_all-from_prefix_len p (b ∷ bs) h = list_all-by p b (prefix_len p bs) bs (p b) h (list_all-from_prefix_len p bs)

-- as many as are wanted
pub sixty-four : (bs digits : List ℕ) (n : ℕ) → digits ≡ take 64 bs → n ≡ prefix_len is_ascii_hexdigit digits → 64 ≤ n → (length digits ≡ 64) × (64 ≤ length bs)
sixty-four bs digits n digits_is n_is enough =
    let at_most : length digits ≤ 64 = omega (arith, ap length digits_is, length-take 64 bs) in
    (omega (arith, prefix_len-le-length is_ascii_hexdigit digits, n_is), omega (arith, ap length digits_is, length-take 64 bs, prefix_len-le-length is_ascii_hexdigit digits, n_is))

-- 64 digits, and the digest that they write
pub after_sha256-digest : (bs digits : List ℕ) (n : ℕ) (d : Digest) → digits ≡ take 64 bs → n ≡ prefix_len is_ascii_hexdigit digits → 64 ≤ n → d ≡ digest_of digits
    → Some (record { found = Is (kinds.Digest d); len = 71 }) ≡ after_sha256 bs
after_sha256-digest bs digits n d digits_is n_is enough d_is =
    let all = sixty-four bs digits n digits_is n_is enough in
    let same : prefix_len is_ascii_hexdigit digits ≡ 64 = omega (arith, all.0, prefix_len-le-length is_ascii_hexdigit digits, n_is) in
    let count_is : digest_digits bs ≡ 64 = ap (prefix_len is_ascii_hexdigit) (sym digits_is) ∙ same in
    let by_count : ℕ → Option Form = λ k. if k == 0 then None else if k == 64 then form (Is (kinds.Digest (digest_of (take 64 bs)))) 71 else form (Faulty 0) (7 + k) in
    let shown : Digest → Option Form = λ x. Some (record { found = Is (kinds.Digest x); len = 71 }) in
    ap shown (d_is ∙ ap digest_of digits_is) ∙ sym (ap by_count count_is)

pub same_digest : (a b : List ℕ) → a ≡ b → ◌≡◌ {A = Digest} (record { 0 = a }) (record { 0 = b })
same_digest a b e = let d : List ℕ → Digest = λ x. record { 0 = x } in ap d e
