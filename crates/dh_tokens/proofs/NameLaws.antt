-- Laws of names at one place.
use Rattle.std.proofs.Common.{◌≡◌, ℕ, ◌<◌, ◌≤◌, Bool, true, List, length, take, Option, Some, refl, sym, ap, ◌∙◌, if◌then◌else◌, arith}
use Rattle.std.specs.List.{prefix_len}
use Rattle.std.proofs.lemmas.Bool.Decides.{nat_tests}
use Rattle.std.proofs.lemmas.List.Sums.{prefix_len-le-length}
use Rattle.std.proofs.lemmas.List.Folds.{length-prefix_len}
use Rattle.dh_syntax.specs.Text.Characters.{first, is_name_start, is_name_byte}
use Rattle.dh_syntax.specs.Text.LexForms.{Found, Form, form}
use Rattle.dh_syntax.specs.Text.LexNames.{name, name_len, named}
use Rattle.dh_tokens.proofs.FormLaws.{form-some, prefix_len-some}

name_start_is_name_byte : (b : ℕ) → is_name_start b ≡ true → is_name_byte b ≡ true
name_start_is_name_byte b h = grind (arith, nat_tests)

-- what a name begins with begins a name of some bytes
pub name_len_is : (bs : List ℕ) → is_name_start (first bs) ≡ true → name_len bs ≡ prefix_len is_name_byte bs
name_len_is bs starts = ap (λ (b : Bool). if b then prefix_len is_name_byte bs else 0) starts

name_some : (bs : List ℕ) → is_name_start (first bs) ≡ true → 0 < prefix_len is_name_byte bs
name_some bs starts = prefix_len-some is_name_byte bs (name_start_is_name_byte (first bs) starts) refl

pub name_within : (bs text : List ℕ) → is_name_start (first bs) ≡ true → text ≡ take (prefix_len is_name_byte bs) bs → (0 < length text) × (length text ≤ length bs)
name_within bs text starts text_is =
    let len_is : length text ≡ prefix_len is_name_byte bs = ap length text_is ∙ length-prefix_len is_name_byte bs in
    (omega (arith, name_some bs starts), omega (arith, prefix_len-le-length is_name_byte bs))

pub name_form : (bs text : List ℕ) (found : Found) → is_name_start (first bs) ≡ true → text ≡ take (prefix_len is_name_byte bs) bs → found ≡ named text
    → Some (record { found = found; len = length text }) ≡ name bs
name_form bs text found starts text_is found_is =
    let n = prefix_len is_name_byte bs in
    let some : 0 < n = name_some bs starts in
    let len_is : length text ≡ n = ap length text_is ∙ length-prefix_len is_name_byte bs in
    let shown : ℕ → Found → Option Form = λ k f. Some (record { found = f; len = k }) in
    ap (λ k. shown k found) len_is
    ∙ ap (shown n) (found_is ∙ ap named text_is)
    ∙ sym (form-some (named (take n bs)) n some)
    ∙ sym (ap (λ k. form (named (take k bs)) k) (name_len_is bs starts))
