-- Heads that are written are read.
use Rattle.std.specs.Prelude.{◌≡◌, ℕ, ◌+◌, ◌*◌, ◌/◌, ◌%◌, ◌^◌, ◌==◌, ◌<◌, ◌≤◌, nat_lt, Bool, true, false, ◌&&◌, if◌then◌else◌, List, [], ◌∷◌, ◌++◌, length, take, drop, not, Result, Ok, Err, refl}
use Rattle.std.specs.Int.{w16, w32, w64, to_be_bytes, from_be_bytes}
use Rattle.std.proofs.Common.{◌∙◌, ap, arith}
use Rattle.std.proofs.lemmas.Bool.{eqb-true, ltb-true, ltb-false}
use Rattle.std.proofs.lemmas.Nat.{from_be_bytes-to_be_bytes_2, from_be_bytes-to_be_bytes_4, from_be_bytes-to_be_bytes_8}
use Rattle.dh_syntax.specs.Bytes.BinaryHeads.{Head, head_at, head_by, long_head, known, is_known_tag, big_endian, HeadFault, cut, float, foreign_tag}
use Rattle.dh_syntax.specs.Bytes.Cbor.{head}

not_less : (a b : ℕ) → b ≤ a → nat_lt a b ≡ false
not_less a b h = by (nat_lt a b) refl
  where
    by : (c : Bool) → nat_lt a b ≡ c → c ≡ false
    by true e = let f = ltb-true a b e in absurd (omega arith)
    by false e = refl

two : (a b : ℕ) → big_endian (a ∷ b ∷ []) ≡ from_be_bytes w16 (a ∷ b ∷ [])
two a b = omega arith

four : (a b c d : ℕ) → big_endian (a ∷ b ∷ c ∷ d ∷ []) ≡ from_be_bytes w32 (a ∷ b ∷ c ∷ d ∷ [])
four a b c d = omega arith

eight : (a b c d e f g h : ℕ) → big_endian (a ∷ b ∷ c ∷ d ∷ e ∷ f ∷ g ∷ h ∷ []) ≡ from_be_bytes w64 (a ∷ b ∷ c ∷ d ∷ e ∷ f ∷ g ∷ h ∷ [])
eight a b c d e f g h = omega arith

pub big_two : (n : ℕ) → n < 2 ^ 16 → big_endian (to_be_bytes w16 n) ≡ n
big_two n h = two _ _ ∙ from_be_bytes-to_be_bytes_2 n h

pub big_four : (n : ℕ) → n < 2 ^ 32 → big_endian (to_be_bytes w32 n) ≡ n
big_four n h = four _ _ _ _ ∙ from_be_bytes-to_be_bytes_4 n h

pub big_eight : (n : ℕ) → n < 2 ^ 64 → big_endian (to_be_bytes w64 n) ≡ n
big_eight n h = eight _ _ _ _ _ _ _ _ ∙ from_be_bytes-to_be_bytes_8 n h

quotient : (major low : ℕ) → low < 32 → (32 * major + low) / 32 ≡ major
quotient major low h = omega arith

remainder : (major low : ℕ) → low < 32 → (32 * major + low) % 32 ≡ low
remainder major low h = omega arith

-- the first byte of a head
first_byte : (major low : ℕ) (rest : List ℕ) → low < 32 → head_at ((32 * major + low) ∷ rest) ≡ head_by major low rest
first_byte major low rest h = ap (λ q. head_by q ((32 * major + low) % 32) rest) (quotient major low h) ∙ ap (λ r. head_by major r rest) (remainder major low h)

abbrev pub read_head : ℕ → ℕ → List ℕ → Head
read_head major n rest = record { major = major; value = n; after = rest }

low_by : (c : Bool) (x y : Result Head HeadFault) → c ≡ true → (if c then x else y) ≡ x
low_by true x y h = refl
low_by false x y h = cc

less_true : (a b : ℕ) → a < b → nat_lt a b ≡ true
less_true a b h = by (nat_lt a b) refl
  where
    by : (c : Bool) → nat_lt a b ≡ c → c ≡ true
    by true e = refl
    by false e = let f = ltb-false a b e in absurd (omega arith)

low_read : (major n : ℕ) (rest : List ℕ) → n < 24 → head_by major n rest ≡ known (read_head major n rest)
low_read major n rest l = low_by (nat_lt n 24) _ _ (less_true n 24 l)

unequal : (a b : ℕ) → a < b → (a == b) ≡ false
unequal a b h = by (a == b) refl
  where
    by : (c : Bool) → (a == b) ≡ c → c ≡ false
    by true e = let f = eqb-true a b e in absurd (omega arith)
    by false e = refl

-- no tag
no_tag : (major : ℕ) (h : Head) → h.major < 6 → known h ≡ Ok h
no_tag major h m = ap (λ c. if c && not (is_known_tag h.value) then Err foreign_tag else Ok h) (unequal h.major 6 m)

-- a number in so many bytes
long_by : (major k : ℕ) (c d : Bool) (xs : List ℕ) → c ≡ false → d ≡ false → major < 6 → (if c then Err cut else if d then Err float else known (read_head major (big_endian (take k xs)) (drop k xs))) ≡ Ok (read_head major (big_endian (take k xs)) (drop k xs))
long_by major k true d xs p q m = cc
long_by major k false true xs p q m = cc
long_by major k false false xs p q m = no_tag major _ m

pub long : (major k : ℕ) (bs rest : List ℕ) (n : ℕ) → major < 6 → k ≤ length (bs ++ rest) → take k (bs ++ rest) ≡ bs → drop k (bs ++ rest) ≡ rest → big_endian bs ≡ n → long_head major k (bs ++ rest) ≡ Ok (read_head major n rest)
long major k bs rest n m l t d e =
    long_by major k (nat_lt (length (bs ++ rest)) k) (major == 7 && nat_lt 1 k) (bs ++ rest) (not_less (length (bs ++ rest)) k l) (ap (λ c. c && nat_lt 1 k) (unequal major 7 (omega arith))) m
    ∙ ap (λ xs. Ok (read_head major (big_endian xs) (drop k (bs ++ rest)))) t ∙ ap (λ xs. Ok (read_head major (big_endian bs) xs)) d ∙ ap (λ x. Ok (read_head major x rest)) e

one : (n : ℕ) → big_endian (n ∷ []) ≡ n
one n = omega arith

-- a head of a major type below tags
pub head_read : (major n : ℕ) (rest : List ℕ) → major < 6 → n < 2 ^ 64 → head_at (head major n ++ rest) ≡ Ok (read_head major n rest)
head_read major n rest m l = by (nat_lt n 24) (nat_lt n (2 ^ 8)) (nat_lt n (2 ^ 16)) (nat_lt n (2 ^ 32)) refl refl refl refl
  where
    by : (c d e f : Bool) → nat_lt n 24 ≡ c → nat_lt n (2 ^ 8) ≡ d → nat_lt n (2 ^ 16) ≡ e → nat_lt n (2 ^ 32) ≡ f
        → head_at ((if c then (32 * major + n) ∷ [] else if d then (32 * major + 24) ∷ n ∷ [] else if e then (32 * major + 25) ∷ to_be_bytes w16 n else if f then (32 * major + 26) ∷ to_be_bytes w32 n else (32 * major + 27) ∷ to_be_bytes w64 n) ++ rest) ≡ Ok (read_head major n rest)
    by true d e f p q r s =
        let h = ltb-true n 24 p in
        first_byte major n rest (omega arith) ∙ low_read major n rest h ∙ no_tag major (read_head major n rest) m
    by false true e f p q r s = first_byte major 24 (n ∷ rest) (omega arith) ∙ long major 1 (n ∷ []) rest n m (omega arith) refl refl (one n)
    by false false true f p q r s = first_byte major 25 (to_be_bytes w16 n ++ rest) (omega arith) ∙ long major 2 (to_be_bytes w16 n) rest n m (omega arith) refl refl (big_two n (ltb-true n (2 ^ 16) r))
    by false false false true p q r s = first_byte major 26 (to_be_bytes w32 n ++ rest) (omega arith) ∙ long major 4 (to_be_bytes w32 n) rest n m (omega arith) refl refl (big_four n (ltb-true n (2 ^ 32) s))
    by false false false false p q r s = first_byte major 27 (to_be_bytes w64 n ++ rest) (omega arith) ∙ long major 8 (to_be_bytes w64 n) rest n m (omega arith) refl refl (big_eight n l)

-- a short head: a tag or a simple value
pub short_read : (major n : ℕ) (rest : List ℕ) → n < 24 → head_at (head major n ++ rest) ≡ known (read_head major n rest)
short_read major n rest l = by (nat_lt n 24) refl
  where
    by : (c : Bool) → nat_lt n 24 ≡ c → head_at ((if c then (32 * major + n) ∷ [] else if nat_lt n (2 ^ 8) then (32 * major + 24) ∷ n ∷ [] else if nat_lt n (2 ^ 16) then (32 * major + 25) ∷ to_be_bytes w16 n else if nat_lt n (2 ^ 32) then (32 * major + 26) ∷ to_be_bytes w32 n else (32 * major + 27) ∷ to_be_bytes w64 n) ++ rest) ≡ known (read_head major n rest)
    by true p = first_byte major n rest (omega arith) ∙ low_read major n rest l
    by false p = let f = ltb-false n 24 p in absurd (omega arith)
