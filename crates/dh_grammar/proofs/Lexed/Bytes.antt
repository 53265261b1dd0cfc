-- Classes of bytes, and runs of them.
use Rattle.std.proofs.Common.{arith, ◌≡◌, ℕ, zero, suc, ◌+◌, ◌<◌, Bool, true, false, cond, List, [], ◌∷◌, length, take, refl, ◌∙◌, ap, subst, leb-true, leb-false}
use Rattle.std.specs.Prelude.{IsTrue, ◌&&◌, ◌||◌, not, ◌==◌, nat_le, nat_lt}
use Rattle.std.specs.Char.{is_ascii_alphanumeric, is_ascii_hexdigit, digit_value}
use Rattle.std.specs.Int.{is_in_range}
use Rattle.std.specs.List.{list_all, prefix_len}
use Rattle.std.proofs.lemmas.Bool.{eqb-true, ltb-true}
use Rattle.dh_syntax.specs.Expressions.Arity.{has_some}
use Rattle.dh_syntax.specs.Text.Characters.{is_name_byte, is_quoted_label_byte, is_quoted_path_byte, is_environment_byte, is_quoted_environment_byte}
use Rattle.dh_syntax.specs.Imports.Locations.{is_path_character}
use Rattle.dh_grammar.proofs.Maps.Cutting.{by_bool}
use Rattle.dh_grammar.proofs.TruthValues.{both, left_of, right_of}

-- ---- classes

pub below : ℕ → (ℕ → Bool) → Bool
below zero p = true
below (suc n) p = p n && below n p

from_below : (n : ℕ) (p : ℕ → Bool) → IsTrue (below n p) → (c : ℕ) → c < n → IsTrue (p c)
unfolding below
from_below zero p h c l = absurd (omega arith)
from_below (suc n) p h c l =
    by_bool (nat_le n c)
    (λ b. let g = leb-true n c b in let e : n ≡ c = omega arith in subst (λ m. IsTrue (p m)) e (left_of (p n) (below n p) h))
    (λ b. let g = leb-false n c b in from_below n p (right_of (p n) (below n p) h) c (omega arith))

implied : (a b : Bool) → IsTrue (not a || b) → IsTrue a → IsTrue b
implied true b h g = h
implied false b h g = cc

pub implies : (p q : ℕ → Bool) → ((c : ℕ) → IsTrue (p c) → c < 128) → IsTrue (below 128 (λ c. not (p c) || q c)) → (c : ℕ) → IsTrue (p c) → IsTrue (q c)
implies p q low h c g = implied (p c) (q c) (from_below 128 (λ c. not (p c) || q c) h c (low c g)) g

pub or_case : {X : Type 0} (a b : Bool) → (IsTrue a → X) → (IsTrue b → X) → IsTrue (a || b) → X
or_case true b f g h = f refl
or_case false b f g h = g h

range_low : (lo hi c : ℕ) → hi < 128 → IsTrue (is_in_range lo hi c) → c < 128
range_low lo hi c l h = let g = leb-true c hi (right_of (nat_le lo c) (nat_le c hi) h) in omega arith

is_low : (c d : ℕ) → d < 128 → IsTrue (c == d) → c < 128
is_low c d l h = let e = eqb-true c d h in omega arith

pub alphanumeric_low : (c : ℕ) → IsTrue (is_ascii_alphanumeric c) → c < 128
alphanumeric_low c h =
    or_case (is_in_range 48 57 c || is_in_range 65 90 c) (is_in_range 97 122 c)
    (or_case (is_in_range 48 57 c) (is_in_range 65 90 c) (range_low 48 57 c (omega arith)) (range_low 65 90 c (omega arith))) (range_low 97 122 c (omega arith)) h

name_low : (c : ℕ) → IsTrue (is_name_byte c) → c < 128
name_low c h =
    or_case ((is_ascii_alphanumeric c || c == 45) || c == 47) (c == 95)
    (or_case (is_ascii_alphanumeric c || c == 45) (c == 47) (or_case (is_ascii_alphanumeric c) (c == 45) (alphanumeric_low c) (is_low c 45 (omega arith))) (is_low c 47 (omega arith))) (is_low c 95 (omega arith)) h

environment_low : (c : ℕ) → IsTrue (is_environment_byte c) → c < 128
environment_low c h = or_case (is_ascii_alphanumeric c) (c == 95) (alphanumeric_low c) (is_low c 95 (omega arith)) h

pub hex_is_low : (c : ℕ) → IsTrue (is_ascii_hexdigit c) → c < 128
hex_is_low c h =
    or_case (is_in_range 48 57 c || is_in_range 65 70 c) (is_in_range 97 102 c)
    (or_case (is_in_range 48 57 c) (is_in_range 65 70 c) (range_low 48 57 c (omega arith)) (range_low 65 70 c (omega arith))) (range_low 97 102 c (omega arith)) h

pub name_is_label : (c : ℕ) → IsTrue (is_name_byte c) → IsTrue (is_quoted_label_byte c)
unfolding below
name_is_label c h = implies is_name_byte is_quoted_label_byte name_low refl c h

pub environment_is_quoted : (c : ℕ) → IsTrue (is_environment_byte c) → IsTrue (is_quoted_environment_byte c)
unfolding below
environment_is_quoted c h = implies is_environment_byte is_quoted_environment_byte environment_low refl c h

path_low : (c : ℕ) → IsTrue (is_path_character c) → c < 128
path_low c h =
    let a = is_low c 0x21 (omega arith) in
    let b = range_low 0x24 0x27 c (omega arith) in
    let d = range_low 0x2A 0x2B c (omega arith) in
    let e = range_low 0x2D 0x2E c (omega arith) in
    let f = range_low 0x30 0x3B c (omega arith) in
    let g = is_low c 0x3D (omega arith) in
    let i = range_low 0x40 0x5A c (omega arith) in
    let j = range_low 0x5E 0x7A c (omega arith) in
    let k = is_low c 0x7C (omega arith) in
    let l = is_low c 0x7E (omega arith) in
    or_case _ _ (or_case _ _ (or_case _ _ (or_case _ _ (or_case _ _ (or_case _ _ (or_case _ _ (or_case _ _ (or_case _ _ a b) d) e) f) g) i) j) k) l h

pub path_is_quoted : (c : ℕ) → IsTrue (is_path_character c) → IsTrue (is_quoted_path_byte c)
unfolding below
path_is_quoted c h = implies is_path_character is_quoted_path_byte path_low refl c h

pub hex_digit_low : (c : ℕ) → IsTrue (is_ascii_hexdigit c) → digit_value c < 16
unfolding below
hex_digit_low c h = ltb-true (digit_value c) 16 (implies is_ascii_hexdigit (λ c. nat_lt (digit_value c) 16) hex_is_low refl c h)

-- ---- runs

pub all_imply : (p q : ℕ → Bool) → ((c : ℕ) → IsTrue (p c) → IsTrue (q c)) → (xs : List ℕ) → IsTrue (list_all p xs) → IsTrue (list_all q xs)
all_imply p q f [] h = refl
all_imply p q f (x ∷ xs) h = both (q x) (list_all q xs) (f x (left_of (p x) (list_all p xs) h)) (all_imply p q f xs (right_of (p x) (list_all p xs) h))

pub prefix_more : (p : ℕ → Bool) (x : ℕ) (xs : List ℕ) → IsTrue (p x) → prefix_len p (x ∷ xs) ≡ suc (prefix_len p xs)
prefix_more p x xs h = let e : 1 + prefix_len p xs ≡ suc (prefix_len p xs) = omega arith in ap (λ b. cond b (1 + prefix_len p xs) 0) h ∙ e

prefix_no : (p : ℕ → Bool) (x : ℕ) (xs : List ℕ) → p x ≡ false → prefix_len p (x ∷ xs) ≡ 0
prefix_no p x xs h = ap (λ b. cond b (1 + prefix_len p xs) 0) h

pub all_prefix : (p : ℕ → Bool) (xs : List ℕ) → IsTrue (list_all p (take (prefix_len p xs) xs))
all_prefix p [] = refl
all_prefix p (x ∷ xs) =
    by_bool (p x)
    (λ b. ap (λ n. list_all p (take n (x ∷ xs))) (prefix_more p x xs b) ∙ both (p x) _ b (all_prefix p xs))
    (λ b. ap (λ n. list_all p (take n (x ∷ xs))) (prefix_no p x xs b))

pub some_prefix : (p : ℕ → Bool) (xs : List ℕ) → 0 < prefix_len p xs → IsTrue (has_some (take (prefix_len p xs) xs))
some_prefix p [] h = absurd (omega arith)
some_prefix p (x ∷ xs) h =
    by_bool (p x)
    (λ b. ap (λ n. has_some (take n (x ∷ xs))) (prefix_more p x xs b))
    (λ b. absurd (let e = prefix_no p x xs b in omega arith))

pub some_first : (p : ℕ → Bool) (x : ℕ) (xs : List ℕ) → IsTrue (p x) → 0 < prefix_len p (x ∷ xs)
some_first p x xs h = let e = prefix_more p x xs h in omega arith

pub whole_prefix : (p : ℕ → Bool) (xs : List ℕ) → prefix_len p xs ≡ length xs → IsTrue (list_all p xs)
whole_prefix p [] h = refl
whole_prefix p (x ∷ xs) h =
    by_bool (p x)
    (λ b. let e = prefix_more p x xs b in both (p x) (list_all p xs) b (whole_prefix p xs (omega arith)))
    (λ b. absurd (let e = prefix_no p x xs b in omega arith))
