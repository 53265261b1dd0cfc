-- When a name is a label without backticks.
use Rattle.std.proofs.Common.{◌≡◌, ℕ, suc, ◌+◌, Bool, true, false, not, ◌&&◌, ◌||◌, if◌then◌else◌, cond, List, [], ◌∷◌, ◌++◌, length, map, refl, sym, ap, ◌∙◌, arith}
use Rattle.std.specs.Prelude.{nat_eq, nat_lt, bytes_eq}
use Rattle.std.specs.List.{list_all, list_any, prefix_len}
use Rattle.std.proofs.lemmas.Bool.{false≢true, lt-ltb}
use Rattle.std.proofs.lemmas.Bool.Decides.{nat_tests}
use Rattle.dh_syntax.specs.Text.Characters.{is_name_start, is_name_byte}
use Rattle.dh_syntax.specs.Text.LexNames.{Reserved, keyword_names, built_in_names, names_left_out, named, named_in}
use Rattle.dh_syntax.specs.Text.Printed.{is_name, is_plain_label}
use Rattle.dh_print.specs.Inside.Names.{spells_name}

-- ---- the bytes of a name

prefix_is_all : (p : ℕ → Bool) (bs : List ℕ) → nat_eq (prefix_len p bs) (length bs) ≡ list_all p bs
prefix_is_all p [] = refl
prefix_is_all p (b ∷ bs) = by (p b) (prefix_len p bs) (length bs) (list_all p bs) (prefix_is_all p bs)
  where
    by : (t : Bool) (m n : ℕ) (r : Bool) → nat_eq m n ≡ r → nat_eq (cond t (1 + m) 0) (suc n) ≡ (t && r)
    by true m n r e = grind (arith, nat_tests)
    by false m n r e = grind (arith, nat_tests)

plain_by : (m n : ℕ) (a t r : Bool) → nat_eq m (suc n) ≡ a → (nat_lt 0 (suc n) && nat_eq (if t then m else 0) (suc n) && r) ≡ ((t && a) && r)
plain_by m n a true r e =
    let some : nat_lt 0 (suc n) ≡ true = lt-ltb 0 (suc n) (omega arith) in
    ap (λ b. b && nat_eq m (suc n) && r) some ∙ ap (λ b. b && r) e
plain_by m n a false r e =
    let none : nat_eq 0 (suc n) ≡ false = grind (arith, nat_tests) in
    let some : nat_lt 0 (suc n) ≡ true = lt-ltb 0 (suc n) (omega arith) in
    ap (λ b. b && nat_eq 0 (suc n) && r) some ∙ ap (λ b. b && r) none

plain_is : (x : List ℕ) → is_plain_label x ≡ (spells_name x && is_name (named x))
plain_is [] = refl
plain_is (b ∷ bs) =
    plain_by (prefix_len is_name_byte (b ∷ bs)) (length bs) (list_all is_name_byte (b ∷ bs)) (is_name_start b) (is_name (named (b ∷ bs))) (prefix_is_all is_name_byte (b ∷ bs))

-- ---- the names that are reserved

abbrev are_no_names : List Reserved → Bool
are_no_names [] = true
are_no_names (r ∷ rs) = not (is_name r.meaning) && are_no_names rs

abbrev pub spellings : List Reserved → List (List ℕ)
spellings rs = map (λ r. r.spelling) rs

abbrev pub any_is : List (List ℕ) → List ℕ → Bool
any_is ws x = list_any (λ w. bytes_eq w x) ws

reserved_is : (rs : List Reserved) (x : List ℕ) → are_no_names rs ≡ true → is_name (named_in rs x) ≡ not (any_is (spellings rs) x)
reserved_is [] x h = refl
reserved_is (r ∷ rs) x h = by (bytes_eq r.spelling x) (is_name r.meaning) refl h (reserved_is rs x)
  where
    by : (t n : Bool) → is_name r.meaning ≡ n → (not n && are_no_names rs) ≡ true → (are_no_names rs ≡ true → is_name (named_in rs x) ≡ not (any_is (spellings rs) x)) →
        is_name (if t then r.meaning else named_in rs x) ≡ not (t || any_is (spellings rs) x)
    by true true e g more = absurd (false≢true g)
    by true false e g more = e
    by false true e g more = absurd (false≢true g)
    by false false e g more = more g

abbrev pub reserved_names : List Reserved
reserved_names = keyword_names ++ built_in_names ++ names_left_out

pub plain_label_is : (x : List ℕ) (b : Bool) → true ≡ spells_name x → b ≡ any_is (spellings reserved_names) x → not b ≡ is_plain_label x
plain_label_is x b h g = ap not g ∙ sym (reserved_is reserved_names x refl) ∙ ap (λ t. t && is_name (named x)) h ∙ sym (plain_is x)

pub no_label : (x y : List ℕ) (b : Bool) → y ≡ x → b ≡ false → b ≡ spells_name y → b ≡ is_plain_label x
no_label x y b same e h = e ∙ ap (λ t. t && is_name (named x)) (sym e ∙ h ∙ ap spells_name same) ∙ sym (plain_is x)
