-- A text without non-characters has none at any byte.
use Rattle.std.proofs.Common.{◌≡◌, ℕ, ◌+◌, ◌-◌, ◌*◌, ◌<◌, ◌≤◌, true, false, not, List, [], ◌∷◌, ◌++◌, refl, sym, ap, subst, ◌∙◌, arith}
use lib.Utf8.{scalar, scalars, encode, encodes, scalar_cases}
use Rattle.std.proofs.str.Laws.{Shape, shape, of1, of2, of3, of4}
use Rattle.std.proofs.lemmas.Bool.{and_parts, not-true}
use Rattle.std.proofs.lemmas.Bool.Decides.{nat_tests}
use Rattle.std.specs.List.{list_all}
use Rattle.std.specs.Str.{IsUtf8, continuation_len, lead_bits}
use Rattle.dh_syntax.specs.Text.Characters.{first, code_at, code_after, is_noncharacter}
use Rattle.dh_layout.proofs.Texts.Values.{HasNoNoncharacter}

small_good : (c : ℕ) → c < 256 → is_noncharacter c ≡ false
small_good c h = grind (arith, nat_tests)

-- at a byte inside a character
inside : (b : ℕ) (rest : List ℕ) → 128 ≤ b → b < 192 → first rest < 256 → is_noncharacter (code_at (b ∷ rest)) ≡ false
inside b rest l h f =
    let counts : continuation_len b ≡ 1 = grind (arith, nat_tests) in
    let bits : lead_bits b ≡ b - 192 = grind (arith, nat_tests) in
    let none : b - 192 ≡ 0 = omega (arith, h) in
    ap (λ n. is_noncharacter (code_after n (lead_bits b) rest)) counts ∙ ap (λ k. is_noncharacter (code_after 1 k rest)) (bits ∙ none) ∙ by rest f
  where
    by : (rest : List ℕ) → first rest < 256 → is_noncharacter (code_after 1 0 rest) ≡ false
    by [] f = small_good 0 (omega arith)
    by (x ∷ rest) f = small_good (0 * 64 + (x - 128)) (omega (arith, f))

-- at the first byte
told : (n k a c : ℕ) (rest : List ℕ) → continuation_len a ≡ n → lead_bits a ≡ k → code_after n k rest ≡ c → is_noncharacter c ≡ false → is_noncharacter (code_at (a ∷ rest)) ≡ false
told n k a c rest e f g h = ap (λ m. is_noncharacter (code_after m (lead_bits a) rest)) e ∙ ap (λ m. is_noncharacter (code_after n m rest)) f ∙ ap is_noncharacter g ∙ h

character_good : (c : ℕ) → Shape c → is_noncharacter c ≡ false → (rest : List ℕ) → first rest < 256 → HasNoNoncharacter rest → (first (encode c ++ rest) < 256) × HasNoNoncharacter (encode c ++ rest)
character_good c (of1 h e) good rest f g =
    subst (λ w. (first (w ++ rest) < 256) × HasNoNoncharacter (w ++ rest)) (sym e)
    (omega (arith, h), (told 0 c c c rest (grind (arith, nat_tests)) (grind (arith, nat_tests)) refl good, g))
character_good c (of2 a b l h fb s e) good rest f g =
    let b0 = fb.0 in let b1 = fb.1 in
    let code : (a - 192) * 64 + (b - 128) ≡ c = omega (arith, l, b0, s) in
    let low : b < 256 = omega (arith, b1) in
    subst (λ w. (first (w ++ rest) < 256) × HasNoNoncharacter (w ++ rest)) (sym e)
    (omega (arith, h), (told 1 (a - 192) a c (b ∷ rest) (grind (arith, nat_tests)) (grind (arith, nat_tests)) code good, (inside b rest fb.0 fb.1 f, g)))
character_good c (of3 a b d l h fb fd s e) good rest f g =
    let b0 = fb.0 in let b1 = fb.1 in let d0 = fd.0 in let d1 = fd.1 in
    let code : ((a - 224) * 64 + (b - 128)) * 64 + (d - 128) ≡ c = omega (arith, l, b0, d0, s) in
    let low : d < 256 = omega (arith, d1) in
    subst (λ w. (first (w ++ rest) < 256) × HasNoNoncharacter (w ++ rest)) (sym e)
    (omega (arith, h), (told 2 (a - 224) a c (b ∷ d ∷ rest) (grind (arith, nat_tests)) (grind (arith, nat_tests)) code good, (inside b (d ∷ rest) fb.0 fb.1 low, (inside d rest fd.0 fd.1 f, g))))
character_good c (of4 a b d x l h fb fd fx s e) good rest f g =
    let b0 = fb.0 in let d0 = fd.0 in let d1 = fd.1 in let x0 = fx.0 in let x1 = fx.1 in
    let code : (((a - 240) * 64 + (b - 128)) * 64 + (d - 128)) * 64 + (x - 128) ≡ c = omega (arith, l, b0, d0, x0, s) in
    let low : d < 256 = omega (arith, d1) in
    let low' : x < 256 = omega (arith, x1) in
    subst (λ w. (first (w ++ rest) < 256) × HasNoNoncharacter (w ++ rest)) (sym e)
    (omega (arith, h), (told 3 (a - 240) a c (b ∷ d ∷ x ∷ rest) (grind (arith, nat_tests)) (grind (arith, nat_tests)) code good, (inside b (d ∷ x ∷ rest) fb.0 fb.1 low, (inside d (x ∷ rest) fd.0 fd.1 low', (inside x rest fx.0 fx.1 f, g)))))

characters_good : (cs : List ℕ) → scalars cs ≡ true → list_all (λ c. not (is_noncharacter c)) cs ≡ true → (first (encodes cs) < 256) × HasNoNoncharacter (encodes cs)
characters_good [] s h = (omega arith, tt)
characters_good (c ∷ cs) s h =
    let parts = and_parts (scalar c) (scalars cs) s in
    let parts' = and_parts (not (is_noncharacter c)) (list_all (λ c. not (is_noncharacter c)) cs) h in
    let more = characters_good cs parts.1 parts'.1 in
    character_good c (shape c (scalar_cases c parts.0)) (not-true (is_noncharacter c) parts'.0) (encodes cs) more.0 more.1

-- a text of characters none of which is a non-character
pub without_noncharacters : (cs : List ℕ) → scalars cs ≡ true → list_all (λ c. not (is_noncharacter c)) cs ≡ true → IsUtf8 (encodes cs) × HasNoNoncharacter (encodes cs)
without_noncharacters cs s h = ((cs, (s, refl)), (characters_good cs s h).1)
