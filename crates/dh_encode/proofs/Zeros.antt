-- Bytes without the zeros at their front, as a loop over them finds them.
use Rattle.std.specs.Prelude.{◌≡◌, ◌<◌, ◌+◌, ◌==◌, ℕ, Bool, true, false, if◌then◌else◌, List, ◌∷◌, length, drop}
use Rattle.std.proofs.Common.{sym, ap, ◌∙◌, get_or, eq-eqb}
use Rattle.std.proofs.lemmas.List.{drop_more}
use Rattle.std.proofs.lemmas.Bool.{ne_eqb}
use Rattle.dh_syntax.specs.Bytes.Cbor.{without_zeros}

by_test : (b : ℕ) (bs : List ℕ) (c : Bool) → (b == 0) ≡ c → without_zeros (b ∷ bs) ≡ (if c then without_zeros bs else b ∷ bs)
by_test b bs c h = ap (λ d. if d then without_zeros bs else b ∷ bs) h

pub zeros_go_on : (bs : List ℕ) (i : ℕ) (whole : List ℕ) → i < length bs → get_or bs i 0 ≡ 0 → without_zeros (drop i bs) ≡ whole → without_zeros (drop (i + 1) bs) ≡ whole
zeros_go_on bs i whole h e so_far =
    sym (by_test (get_or bs i 0) (drop (i + 1) bs) true (eq-eqb (get_or bs i 0) 0 e)) ∙ ap without_zeros (sym (drop_more bs i 0 h)) ∙ so_far

pub zeros_end : (bs : List ℕ) (i : ℕ) (whole : List ℕ) → i < length bs → (get_or bs i 0 ≡ 0 → ⊥) → without_zeros (drop i bs) ≡ whole → drop i bs ≡ whole
zeros_end bs i whole h e so_far =
    drop_more bs i 0 h ∙ sym (by_test (get_or bs i 0) (drop (i + 1) bs) false (ne_eqb (get_or bs i 0) 0 e)) ∙ ap without_zeros (sym (drop_more bs i 0 h)) ∙ so_far
