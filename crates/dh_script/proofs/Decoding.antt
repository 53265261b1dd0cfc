-- The bytes that pairs of hexadecimal digits write, and what the decoder of the kit answers to them.
use Rattle.std.proofs.Common.{◌≡◌, ◌∙◌, ℕ, ◌+◌, ◌*◌, ◌%◌, ◌==◌, Bool, true, false, if◌then◌else◌, List, [], ◌∷◌, length, Option, Some, None, ◌⊎◌, inl, inr, Result, Ok, Err, refl, sym, ap, arith}
use Rattle.std.specs.Char.{is_ascii_hexdigit}
use Rattle.std.proofs.lemmas.Bool.{eqb-true}
use Rattle.std.proofs.lemmas.Bool.Decides.{nat_tests}
use Rattle.dh_watch_laws.specs.ScriptLines.{bytes_of, digit, pair}
use Rattle.hex.specs.Hex.{decode_of, decode_pairs, hex_digit_value, digit_or_error, ◌>>=◌}
use Rattle.hex.specs.declared.error.FromHexError.{FromHexError}
use Rattle.hex.specs.declared.error.FromHexError.TheVariants.{OddLength, OutOfMemory}

-- a digit and its value
pub digit-value : (c : ℕ) → digit (is_ascii_hexdigit c) c ≡ hex_digit_value c
digit-value c = grind (arith, nat_tests)

-- ---- pairs

pair-none : (a b : Option ℕ) → pair a b None ≡ None
pair-none (Some a) (Some b) = refl
pair-none (Some a) None = refl
pair-none None b = refl

-- an odd number of digits is no pairs
odd-none : (xs : List ℕ) → length xs % 2 ≡ 1 → bytes_of xs ≡ None
odd-none [] h = absurd (omega arith)
odd-none (a ∷ []) h = refl
odd-none (a ∷ b ∷ rest) h =
    let r : bytes_of rest ≡ None = odd-none rest (omega arith) in
    ap (pair (digit (is_ascii_hexdigit a) a) (digit (is_ascii_hexdigit b) b)) r ∙ pair-none _ _

-- what the decoder answers, as an option
abbrev told : Result (List ℕ) FromHexError → Option (List ℕ)
told (Ok bytes) = Some bytes
told (Err e) = None

pair-told : (i : ℕ) (a b : ℕ) (p q : Option ℕ) (r : Result (List ℕ) FromHexError)
    → told ((digit_or_error a i p >>= (λ h. digit_or_error b (i + 1) q >>= (λ l. Ok (h * 16 + l)))) >>= (λ byte. r >>= (λ bytes. Ok (byte ∷ bytes)))) ≡ pair p q (told r)
pair-told i a b None q r = refl
pair-told i a b (Some h) None r = refl
pair-told i a b (Some h) (Some l) (Err e) = refl
pair-told i a b (Some h) (Some l) (Ok bytes) = let e : h * 16 + l ≡ 16 * h + l = omega arith in ap (λ n. Some (n ∷ bytes)) e

pairs-told : (i : ℕ) (xs : List ℕ) → told (decode_pairs i xs) ≡ bytes_of xs
unfolding decode_pairs
pairs-told i [] = refl
pairs-told i (a ∷ []) = refl
pairs-told i (a ∷ b ∷ rest) =
    pair-told i a b (hex_digit_value a) (hex_digit_value b) (decode_pairs (i + 2) rest)
    ∙ ap (λ p. pair p (hex_digit_value b) (told (decode_pairs (i + 2) rest))) (sym (digit-value a))
    ∙ ap (λ q. pair (digit (is_ascii_hexdigit a) a) q (told (decode_pairs (i + 2) rest))) (sym (digit-value b))
    ∙ ap (pair (digit (is_ascii_hexdigit a) a) (digit (is_ascii_hexdigit b) b)) (pairs-told (i + 2) rest)

either : (xs : List ℕ) (b : Bool) → length xs % 2 == 1 ≡ b → told (if b then Err OddLength else decode_pairs 0 xs) ≡ bytes_of xs
either xs true e = sym (odd-none xs (eqb-true (length xs % 2) 1 e))
either xs false e = pairs-told 0 xs

of-decode : (xs : List ℕ) → told (decode_of xs) ≡ bytes_of xs
of-decode xs = either xs (length xs % 2 == 1) refl

-- where the decoder answers, these are the bytes; where it refuses, there are none
pub decodes : (xs bytes : List ℕ) → decode_of xs ≡ Ok bytes → Some bytes ≡ bytes_of xs
decodes xs bytes h = sym (ap told h) ∙ of-decode xs

pub refuses : (xs : List ℕ) (e f : FromHexError) → e ≡ f → (e ≡ OutOfMemory) ⊎ (decode_of xs ≡ Err e) → ¬ (f ≡ OutOfMemory) → None ≡ bytes_of xs
refuses xs e f is (inl memory) not = absurd (not (sym is ∙ memory))
refuses xs e f is (inr h) not = sym (ap told h) ∙ of-decode xs
