-- Names with no colon behind them, and marks with nothing else at their bytes.
use Rattle.std.proofs.Common.{◌≡◌, ℕ, suc, ◌<◌, Bool, true, false, ◌&&◌, ◌==◌, if◌then◌else◌, eqb, nat_eq, nat_lt, List, [], ◌∷◌, ◌++◌, length, take, drop, slice_index, codes, Option, Some, None, inl, inr, refl, sym, ap, ◌∙◌, arith}
use Rattle.std.proofs.lemmas.Bool.{and_left, both_ways, eq-eqb, false_from_ne_true, ne_eqb}
use Rattle.std.proofs.lemmas.List.Folds.{length-prefix_len}
use Rattle.std.specs.Char.{is_ascii_digit}
use Rattle.std.specs.List.{prefix_len, starts_with}
use Rattle.dh_syntax.specs.declared.locations.Loc.TheVariants as locs
use Rattle.dh_syntax.specs.Text.Characters.{first, begins, is_name_byte, is_name_start}
use Rattle.dh_syntax.specs.Text.LexForms.{Found, Form, longest}
use Rattle.dh_syntax.specs.Text.LexLocations.{after_env, after_scheme, after_sha256, by_component, components, digest, environment, path, path_component, path_form, url}
use Rattle.dh_syntax.specs.Text.LexMarks.{mark}
use Rattle.dh_syntax.specs.Text.LexNames.{name, named}
use Rattle.dh_syntax.specs.Text.Numerals.{integer_len, natural_len}
use Rattle.dh_tokens.specs.Inside.Forms.{joined}
use Rattle.dh_tokens.specs.Inside.LongestForms.{longest_form}
use Rattle.dh_tokens.specs.Inside.SmallForms.{BeginsNoPath}
use Rattle.dh_tokens.proofs.FrontBytes.{at_byte, at_front, code_form-arrow, code_form-dot, code_form-plus, code_form-slash, code_form-brace}
use Rattle.dh_tokens.proofs.FrontClassLaws.{code_form-word}
use Rattle.dh_tokens.proofs.FrontClasses.{natural_len-none}
use Rattle.dh_tokens.proofs.LongestLaws.{longest_form-is}
use Rattle.dh_tokens.proofs.NameLaws.{name_form}
use Rattle.dh_tokens.proofs.NumberForms.{signed_form-none}

-- whether a colon stands behind the name
abbrev has_colon : List ℕ → Bool
has_colon bs = slice_index bs (prefix_len is_name_byte bs) == 58

-- what has a colon behind its name begins no bytes that have none
no_colon : (front : List ℕ) → ((t : List ℕ) → has_colon (front ++ t) ≡ true) → (bs : List ℕ) → has_colon bs ≡ false → starts_with nat_eq bs front ≡ false
no_colon front law bs h = false_from_ne_true (starts_with nat_eq bs front) (λ e. both_ways (has_colon bs) h (at_front (λ t. has_colon t ≡ true) front law bs e))

unless : (test : Bool) (f g : Option Form) → test ≡ false → (if test then f else g) ≡ g
unless test f g e = ap (λ (b : Bool). if b then f else g) e

no_url : (bs : List ℕ) → has_colon bs ≡ false → url bs ≡ None
no_url bs h =
    unless (begins "http://" bs) (after_scheme locs.Http 7 (drop 7 bs)) (if begins "https://" bs then after_scheme locs.Https 8 (drop 8 bs) else None) (no_colon (codes "http://") (λ t. refl) bs h)
    ∙ unless (begins "https://" bs) (after_scheme locs.Https 8 (drop 8 bs)) None (no_colon (codes "https://") (λ t. refl) bs h)

no_environment : (bs : List ℕ) → has_colon bs ≡ false → environment bs ≡ None
no_environment bs h = unless (begins "env:" bs) (after_env (drop 4 bs)) None (no_colon (codes "env:") (λ t. refl) bs h)

no_digest : (bs : List ℕ) → has_colon bs ≡ false → digest bs ≡ None
no_digest bs h = unless (begins "sha256:" bs) (after_sha256 (drop 7 bs)) None (no_colon (codes "sha256:") (λ t. refl) bs h)

-- a name alone
pub small_word-is : (bs text : List ℕ) (found : Found) → is_name_start (first bs) ≡ true → text ≡ take (prefix_len is_name_byte bs) bs → (slice_index bs (length text) == 58) ≡ false → named text ≡ found
    → longest_form bs ≡ Some (record { found = found; len = length text })
small_word-is bs text found starts text_is next found_is =
    let len_is : length text ≡ prefix_len is_name_byte bs = ap length text_is ∙ length-prefix_len is_name_byte bs in
    let h : has_colon bs ≡ false = sym (ap (λ n. slice_index bs n == 58) len_is) ∙ next in
    let forms : Option Form → Option Form → Option Form → Option Form = λ u e d. longest (name bs ∷ u ∷ e ∷ d ∷ []) in
    longest_form-is bs
    ∙ code_form-word bs starts
    ∙ ap (λ u. forms u (environment bs) (digest bs)) (no_url bs h)
    ∙ ap (λ e. forms None e (digest bs)) (no_environment bs h)
    ∙ ap (forms None None) (no_digest bs h)
    ∙ sym (ap (λ f. longest (f ∷ None ∷ None ∷ None ∷ [])) (name_form bs text found starts text_is (sym found_is)))

-- what has nothing but marks at its bytes

pub brace-marks : (bs : List ℕ) → first bs ≡ 123 → (slice_index bs 1 == 45) ≡ false → longest_form bs ≡ mark bs
brace-marks bs e h = longest_form-is bs ∙ code_form-brace bs e h

arrow-begins : (bs : List ℕ) → first bs ≡ 45 → slice_index bs 1 ≡ 62 → begins "->" bs ≡ true
arrow-begins bs e h =
    at_byte (λ t. slice_index t 1 ≡ 62 → begins "->" t ≡ true) 45 (omega arith) (λ t second. at_byte (λ u. begins "->" (45 ∷ u) ≡ true) 62 (omega arith) (λ v. refl) t second) bs e h

pub minus-marks : (bs : List ℕ) → first bs ≡ 45 → slice_index bs 1 ≡ 62 → longest_form bs ≡ mark bs
minus-marks bs e h = longest_form-is bs ∙ code_form-arrow bs (arrow-begins bs e h)

no_natural : (bs : List ℕ) → is_ascii_digit (first bs) ≡ false → natural_len bs ≡ 0
no_natural [] h = refl
no_natural (b ∷ bs) h = natural_len-none b bs h

plus-no_integer : (bs : List ℕ) → first bs ≡ 43 → is_ascii_digit (slice_index bs 1) ≡ false → integer_len bs ≡ 0
plus-no_integer bs e h =
    at_byte (λ t. is_ascii_digit (slice_index t 1) ≡ false → integer_len t ≡ 0) 43 (omega arith)
    (λ t none. ap (λ n. if nat_lt 0 n then suc n else 0) (no_natural t none)) bs e h

pub plus-marks : (bs : List ℕ) → first bs ≡ 43 → is_ascii_digit (slice_index bs 1) ≡ false → longest_form bs ≡ mark bs
plus-marks bs e h = longest_form-is bs ∙ code_form-plus bs e ∙ ap (λ f. joined f (mark bs)) (signed_form-none bs (plus-no_integer bs e h))

-- no path begins with a dot alone
dot-no_path : (t : List ℕ) → (first t == 47) ≡ false → (first t == 46) ≡ false → path (46 ∷ t) ≡ None
dot-no_path [] slash dot = refl
dot-no_path (b ∷ bs) slash dot =
    let none : eqb 46 b ≡ false = ne_eqb 46 b (λ e. both_ways (eqb b 46) dot (eq-eqb b 46 (sym e))) in
    let here : Bool → Option Form = λ x. path_form locs.Here 1 (by_component (if x then path_component bs else None) (λ n. components path_component n bs)) in
    let parent : Bool → Option Form = λ x. if x then path_form locs.Parent 2 (components path_component 0 bs) else None in
    ap (λ (x : Bool). longest (here x ∷ parent (eqb 46 b && true) ∷ None ∷ None ∷ [])) slash
    ∙ ap (λ (x : Bool). longest (None ∷ parent x ∷ None ∷ None ∷ [])) (and_left (eqb 46 b) true none)

pub dot-marks : (bs : List ℕ) → first bs ≡ 46 → (slice_index bs 1 == 46) ≡ false → (slice_index bs 1 == 47) ≡ false → longest_form bs ≡ mark bs
dot-marks bs e dot slash =
    longest_form-is bs ∙ code_form-dot bs e
    ∙ ap (λ f. joined f (mark bs)) (at_byte (λ t. (slice_index t 1 == 46) ≡ false → (slice_index t 1 == 47) ≡ false → path t ≡ None) 46 (omega arith) (λ t d s. dot-no_path t s d) bs e dot slash)

slash-no_path : (c : ℕ) (bs : List ℕ) → first bs ≡ 47 → 0 < c → slice_index bs 1 ≡ c → ((t : List ℕ) → path (47 ∷ c ∷ t) ≡ None) → path bs ≡ None
slash-no_path c bs e some h law =
    at_byte (λ t. slice_index t 1 ≡ c → path t ≡ None) 47 (omega arith) (λ t second. at_byte (λ u. path (47 ∷ u) ≡ None) c some law t second) bs e h

slash-marks : (bs : List ℕ) → first bs ≡ 47 → path bs ≡ None → longest_form bs ≡ mark bs
slash-marks bs e none = longest_form-is bs ∙ code_form-slash bs e ∙ ap (λ f. joined f (mark bs)) none

pub pathless-marks : (bs : List ℕ) → BeginsNoPath (first bs) (slice_index bs 1) → longest_form bs ≡ mark bs
pathless-marks bs h = elim h [
  | inl dot ↦ dot-marks bs dot.0 (ne_eqb (slice_index bs 1) 46 dot.1) (ne_eqb (slice_index bs 1) 47 dot.2)
  | inr slash ↦ elim slash.1 [
    | inl again ↦ slash-marks bs slash.0 (slash-no_path 47 bs slash.0 (omega arith) again (λ t. refl))
    | inr back ↦ slash-marks bs slash.0 (slash-no_path 92 bs slash.0 (omega arith) back (λ t. refl))
  ]
]
