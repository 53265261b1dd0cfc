-- Numbers of up to 18 digits, and the fields of one name.
use Rattle.std.proofs.Common.{◌≡◌, ℕ, ◌+◌, ◌*◌, ◌^◌, ◌<◌, ◌≤◌, Bool, true, false, ◌&&◌, List, [], ◌∷◌, ◌++◌, length, take, get_or, add-one, append-nil, refl, sym, ap, ap₂, ◌∙◌, arith}
use Rattle.std.proofs.Math.Nat.{pow-le-pow_right, pow-suc}
use Rattle.std.proofs.lemmas.List.{take_more, map-append}
use Rattle.std.proofs.lemmas.List.Folds.{list_all-append}
use Rattle.std.proofs.lemmas.Int.Digits.{digits_value_push}
use Rattle.std.proofs.lemmas.Str.{digit_value_digit}
use Rattle.std.specs.Char.{is_ascii_digit, digit_value}
use Rattle.std.specs.List.{list_all}
use Rattle.std.specs.Str.Parse.{digits_value}
use Rattle.std.specs.Int.{IsInRange}
use Rattle.std.specs.Prelude.{map, if◌then◌else◌}
use Rattle.std.specs.Str.{str_eq_ignore_ascii_case}
use Rattle.httparse.specs.declared.spans.HeaderSpan.{HeaderSpan}
use Rattle.httparse.specs.Spans.{header_bytes}
use Rattle.dh_http.specs.Fields.{Named, values}

pow_more : (i : ℕ) → 10 ^ (i + 1) ≡ 10 ^ i * 10
pow_more i = ap (λ k. 10 ^ k) (add-one i) ∙ pow-suc 10 i

-- the first i bytes are digits, and this is the number that they write
pub record Reads (value : List ℕ) (i number : ℕ) : Type 0 where
  pub is : number ≡ digits_value 10 (take i value)
  pub digits : list_all is_ascii_digit (take i value) ≡ true
  pub below : number < 10 ^ i

pub reads_none : (value : List ℕ) → Reads value 0 0
reads_none value = record { is = refl; digits = refl; below = omega arith }

pub reads_fits : (value : List ℕ) (i number : ℕ) → Reads value i number → i < 18 → number * 10 + 9 < 2 ^ 64
reads_fits value i number r h =
    let most : 10 ^ i ≤ 10 ^ 17 = pow-le-pow_right {n = 10} (omega arith) {i = i} {j = 17} (omega arith) in
    omega (arith, r.below, most)

pub reads_more : (value : List ℕ) (i number digit : ℕ) → Reads value i number → i < length value
    → is_ascii_digit (get_or value i 0) ≡ true → IsInRange 48 57 (get_or value i 0) → digit + 48 ≡ get_or value i 0 → Reads value (i + 1) (number * 10 + digit)
reads_more value i number digit r h d range e =
    let more : take (i + 1) value ≡ take i value ++ get_or value i 0 ∷ [] = take_more value i 0 h in
    let same : digit_value (get_or value i 0) ≡ digit = omega (arith, digit_value_digit (get_or value i 0) range, e) in
    record {
      is = ap (λ n. n * 10 + digit) r.is ∙ ap (λ k. digits_value 10 (take i value) * 10 + k) (sym same)
          ∙ sym (digits_value_push 10 (take i value) (get_or value i 0)) ∙ ap (digits_value 10) (sym more);
      digits = ap (list_all is_ascii_digit) more ∙ list_all-append is_ascii_digit (take i value) (get_or value i 0 ∷ [])
          ∙ ap₂ (λ a b. a && b) r.digits (ap (λ b. b && true) d);
      below = rw pow_more (omega (arith, r.below, range));
    }

one_more : (b : Bool) (v : List ℕ) (vs ws us : List (List ℕ)) → vs ≡ ws ++ us → (if b then v ∷ vs else vs) ≡ (if b then v ∷ ws else ws) ++ us
one_more true v vs ws us e = ap (λ xs. v ∷ xs) e
one_more false v vs ws us e = e

pub values-append : (name : List ℕ) (fs gs : List Named) → values name (fs ++ gs) ≡ values name fs ++ values name gs
values-append name [] gs = refl
values-append name (f ∷ fs) gs =
    one_more (str_eq_ignore_ascii_case f.0 name) f.1 (values name (fs ++ gs)) (values name fs) (values name gs) (values-append name fs gs)

pub named_field : (name : List ℕ) (fs : List Named) (f : Named) → str_eq_ignore_ascii_case f.0 name ≡ true → values name (fs ++ f ∷ []) ≡ values name fs ++ f.1 ∷ []
named_field name fs f h = values-append name fs (f ∷ []) ∙ ap (λ b. values name fs ++ (if b then f.1 ∷ [] else [])) h

pub other_field : (name : List ℕ) (fs : List Named) (f : Named) → str_eq_ignore_ascii_case f.0 name ≡ false → values name (fs ++ f ∷ []) ≡ values name fs
other_field name fs f h = values-append name fs (f ∷ []) ∙ ap (λ b. values name fs ++ (if b then f.1 ∷ [] else [])) h ∙ append-nil (values name fs)

pub headers_more : (buf : List ℕ) (hs : List HeaderSpan) (i : ℕ) (h : HeaderSpan) → i < length hs → get_or hs i h ≡ h
    → map (header_bytes buf) (take (i + 1) hs) ≡ map (header_bytes buf) (take i hs) ++ header_bytes buf h ∷ []
headers_more buf hs i h l e =
    ap (map (header_bytes buf)) (take_more hs i h l ∙ ap (λ x. take i hs ++ x ∷ []) e) ∙ map-append (header_bytes buf) (take i hs) (h ∷ [])
