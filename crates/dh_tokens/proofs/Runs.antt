-- Runs of one class of bytes are ASCII text.
use Rattle.std.proofs.Common.{◌≡◌, ℕ, suc, ◌+◌, ◌<◌, ◌≤◌, Bool, true, false, cond, List, [], ◌∷◌, ◌++◌, length, take, drop, get_or, Result, Ok, Err, inl, inr, refl, sym, ap, subst, ◌∙◌, arith}
use Rattle.std.proofs.Math.Seq.{take-add}
use Rattle.std.proofs.lemmas.List.{take-take, get_or_past}
use Rattle.std.proofs.lemmas.Bool.{cases_lt}
use Rattle.std.proofs.lemmas.Str.{IsAscii-append, IsAscii-take}
use Rattle.std.specs.List.{prefix_len}
use Rattle.std.specs.Result.{MatchResult, IsOk}
use Rattle.std.specs.Str.{IsAscii}
use Rattle.std.proofs.lemmas.Bool.Decides.{nat_tests}
use Rattle.std.proofs.lemmas.Str.Ascii.{IsAscii-nil, IsAscii-cons, IsAscii-more}
use Rattle.dh_tokens.specs.declared.classes.Class.{Class}
use Rattle.dh_tokens.specs.declared.classes.Class.TheVariants as classes
use Rattle.dh_tokens.specs.Inside.Classes.{has}

-- a reader of UTF-8 succeeds where it fails only elsewhere
pub ok_where : {T E U : Type 0} (r : Result T E) (P : T → Type 0) (Q : E → Type 0) → MatchResult r P (λ e. ¬ U × Q e) → U → IsOk r
ok_where (Ok x) P Q h u = refl
ok_where (Err e) P Q h u = absurd (h.0 u)

ascii-run-by : (p : ℕ → Bool) (b n : ℕ) (bs : List ℕ) (passes : Bool) → (passes ≡ true → b < 128) → IsAscii (take n bs) → IsAscii (take (cond passes (1 + n) 0) (b ∷ bs))
ascii-run-by p b n bs true below h = let e : 1 + n ≡ suc n = omega arith in subst (λ k. IsAscii (take k (b ∷ bs))) (sym e) (IsAscii-cons b (take n bs) (below refl) h)
ascii-run-by p b n bs false below h = IsAscii-nil

-- the bytes at the front that pass a test which only ASCII passes
pub ascii_run : (p : ℕ → Bool) → ((b : ℕ) → p b ≡ true → b < 128) → (bs : List ℕ) → IsAscii (take (prefix_len p bs) bs)
ascii_run p below [] = IsAscii-nil
ascii_run p below (b ∷ bs) = ascii-run-by p b (prefix_len p bs) bs (p b) (below b) (ascii_run p below bs)

-- only ASCII is in a class
pub class_is_ascii : (c : Class) (b : ℕ) → has c b ≡ true → b < 128
class_is_ascii classes.Name b h = grind (arith, nat_tests)
class_is_ascii classes.QuotedLabel b h = grind (arith, nat_tests)
class_is_ascii classes.Digit b h = grind (arith, nat_tests)
class_is_ascii classes.HexDigit b h = grind (arith, nat_tests)
class_is_ascii classes.Path b h = grind (arith, nat_tests)
class_is_ascii classes.QuotedPath b h = grind (arith, nat_tests)
class_is_ascii classes.Host b h = grind (arith, nat_tests)
class_is_ascii classes.Environment b h = grind (arith, nat_tests)
class_is_ascii classes.QuotedEnvironment b h = grind (arith, nat_tests)

-- no byte but 0 stands past the end
pub byte_within : (bs : List ℕ) (at : ℕ) → 0 < get_or bs at 0 → at < length bs
byte_within bs at some = elim (cases_lt at (length bs)) [ inl within ↦ within | inr past ↦ absurd (omega (arith, some, get_or_past bs at 0 past)) ]

-- fewer bytes of ASCII
pub ascii_fewer : (bs : List ℕ) (m n : ℕ) → m ≤ n → IsAscii (take n bs) → IsAscii (take m bs)
ascii_fewer bs m n fewer h = subst (λ (t : List ℕ). IsAscii t) (take-take m n bs fewer) (IsAscii-take (take n bs) m h)

-- more bytes of ASCII
pub ascii_more : (bs here : List ℕ) (m n : ℕ) → here ≡ drop m bs → IsAscii (take m bs) → IsAscii (take n here) → IsAscii (take (m + n) bs)
ascii_more bs here m n here_is front next =
    subst (λ (t : List ℕ). IsAscii t) (ap (λ t. take m bs ++ take n t) here_is ∙ sym (take-add m n bs)) (IsAscii-append (take m bs) (take n here) front next)

-- one byte of ASCII and more
pub ascii_marked : (bs here : List ℕ) (at n : ℕ) → at < length bs → get_or bs at 0 < 128 → here ≡ drop (at + 1) bs → IsAscii (take at bs) → IsAscii (take n here) → IsAscii (take (at + (1 + n)) bs)
ascii_marked bs here at n within low here_is front next =
    let e : at + 1 + n ≡ at + (1 + n) = omega arith in
    subst (λ (k : ℕ). IsAscii (take k bs)) e (ascii_more bs here (at + 1) n here_is (IsAscii-more bs at within front low) next)

pub ascii_first : (bs here : List ℕ) (n : ℕ) → 0 < length bs → get_or bs 0 0 < 128 → here ≡ drop 1 bs → IsAscii (take n here) → IsAscii (take (1 + n) bs)
ascii_first bs here n some low here_is next =
    let e : 0 + (1 + n) ≡ 1 + n = omega arith in
    subst (λ (k : ℕ). IsAscii (take k bs)) e (ascii_marked bs here 0 n some low here_is IsAscii-nil next)
