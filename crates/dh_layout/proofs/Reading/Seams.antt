-- Names before what may follow them.
use Rattle.std.proofs.Common.{◌≡◌, ℕ, suc, ◌+◌, Bool, true, false, not, ◌&&◌, ◌==◌, eqb, cond, if◌then◌else◌, nat_eq, List, [], ◌∷◌, ◌++◌, length, take, drop, get_or, slice_index, Option, Some, None, codes, refl, sym, ap, subst, append_assoc, length-append, ◌∙◌, one-add, arith}
use Rattle.std.proofs.lemmas.Bool.{and_parts, and_left, both_ways, ne_eqb, not-true, eqb-true}
use Rattle.std.proofs.lemmas.Bool.Decides.{nat_tests}
use Rattle.std.specs.List.{list_all, prefix_len, starts_with}
use Rattle.dh_syntax.specs.Text.Characters.{first, begins, is_name_start, is_name_byte, is_quoted_label_byte}
use Rattle.dh_syntax.specs.declared.tokens.TokenKind.TheVariants as kinds
use Rattle.dh_tokens.proofs.FrontBytes.{code_form-backtick, code_form-dot}
use Rattle.dh_tokens.specs.Inside.Forms.{joined}
use Rattle.dh_syntax.specs.Text.LexMarks.{mark}
use Rattle.dh_syntax.specs.declared.tokens.Mark.TheVariants as marks
use Rattle.dh_syntax.specs.Text.LexForms.{Is, Form, form, longest}
use Rattle.dh_syntax.specs.Text.LexNames.{name, name_len, named}
use Rattle.dh_syntax.specs.Text.LexLocations.{url, environment, digest, after_env, after_sha256, after_scheme, path_form, by_component, path_component, components}
use Rattle.dh_syntax.specs.declared.locations.Loc.TheVariants as locs
use Rattle.dh_syntax.specs.Text.Lexing.{code_form}
use Rattle.dh_tokens.proofs.FrontClassLaws.{code_form-word}
use Rattle.dh_tokens.proofs.FormLaws.{form-some}
use Rattle.dh_layout.proofs.Reading.Ends.{is_name_end, is_word}

-- ---- a run of bytes of a class, before a byte outside of it

pub run_len : (p : ℕ → Bool) (x rest : List ℕ) → list_all p x ≡ true → p (first rest) ≡ false → p 0 ≡ false → prefix_len p (x ++ rest) ≡ length x
run_len p [] [] h e z = refl
run_len p [] (b ∷ rest) h e z = ap (λ (t : Bool). cond t (1 + prefix_len p rest) 0) e
run_len p (b ∷ x) rest h e z =
    let parts = and_parts (p b) (list_all p x) h in
    ap (λ (t : Bool). cond t (1 + prefix_len p (x ++ rest)) 0) parts.0 ∙ one-add (prefix_len p (x ++ rest)) ∙ ap suc (run_len p x rest parts.1 e z)

pub take_front : {A : Type 0} (x rest : List A) → take (length x) (x ++ rest) ≡ x
take_front [] rest = refl
take_front (b ∷ x) rest = ap (λ t. b ∷ t) (take_front x rest)

-- ---- forms that a name cannot begin

-- a text of name bytes with `:` and one byte more
colon_next : (c : ℕ) (cs ds x rest : List ℕ) → list_all is_name_byte cs ≡ true → list_all is_name_byte x ≡ true → is_name_end rest ≡ true → eqb 58 c ≡ false
    → starts_with nat_eq (x ++ rest) (cs ++ 58 ∷ c ∷ ds) ≡ false
colon_next c [] ds [] [] a h e n = refl
colon_next c [] ds [] (b ∷ []) a h e n = by_colon (eqb 58 b) refl
  where
    by_colon : (t : Bool) → eqb 58 b ≡ t → (eqb 58 b && false) ≡ false
    by_colon true e = ap (λ (t : Bool). t && false) e
    by_colon false e = ap (λ (t : Bool). t && false) e
colon_next c [] ds [] (b ∷ d ∷ rest) a h e n =
    let parts = and_parts (not (is_name_byte b)) (not (eqb b 58 && not (eqb d 58))) e in
    grind (arith, nat_tests)
colon_next c (k ∷ cs) ds [] [] a h e n = refl
colon_next c (k ∷ cs) ds [] (b ∷ rest) a h e n =
    let parts = and_parts (not (is_name_byte b)) (not (eqb b 58 && not (eqb (get_or rest 0 0) 58))) e in
    let all = and_parts (is_name_byte k) (list_all is_name_byte cs) a in
    and_left (eqb k b) _ (ne_eqb k b (λ same. both_ways (is_name_byte b) (not-true (is_name_byte b) parts.0) (sym (ap is_name_byte same) ∙ all.0)))
colon_next c [] ds (b ∷ x) rest a h e n =
    let all = and_parts (is_name_byte b) (list_all is_name_byte x) h in
    and_left (eqb 58 b) _ (ne_eqb 58 b (λ same. both_ways (is_name_byte b) (sym (ap is_name_byte same)) all.0))
colon_next c (k ∷ cs) ds (b ∷ x) rest a h e n =
    let all = and_parts (is_name_byte k) (list_all is_name_byte cs) a in
    let all' = and_parts (is_name_byte b) (list_all is_name_byte x) h in
    ap (λ (t : Bool). eqb k b && t) (colon_next c cs ds x rest all.1 all'.1 e n) ∙ and_false (eqb k b)
  where
    and_false : (t : Bool) → (t && false) ≡ false
    and_false true = refl
    and_false false = refl

single_colon : (b : ℕ) → eqb 58 b ≡ true → is_name_end (b ∷ []) ≡ true → ⊥
single_colon b same e =
    let P : ℕ → Type 0 = λ c. is_name_end (c ∷ []) ≡ true → ⊥ in
    subst P (eqb-true 58 b same) (λ q. both_ways false refl q) e

second_colon : (b d : ℕ) (rest : List ℕ) → eqb 58 b ≡ true → is_name_end (b ∷ d ∷ rest) ≡ true → 58 ≡ d
second_colon b d rest same e =
    let P : ℕ → Type 0 = λ c. is_name_end (c ∷ d ∷ rest) ≡ true → 58 ≡ d in
    subst P (eqb-true 58 b same) (λ q. by_next (eqb d 58) refl q) e
  where
    by_next : (t : Bool) → eqb d 58 ≡ t → not (not t) ≡ true → 58 ≡ d
    by_next true is q = sym (eqb-true d 58 is)
    by_next false is q = absurd (both_ways false refl q)

-- the same where the text has `:` last
colon_last : (cs x rest : List ℕ) (P : List ℕ → Type 0) → list_all is_name_byte cs ≡ true → list_all is_name_byte x ≡ true → is_name_end rest ≡ true
    → ((t : List ℕ) → P (58 ∷ t)) → starts_with nat_eq (x ++ rest) (cs ++ 58 ∷ []) ≡ true → P (drop (suc (length cs)) (x ++ rest))
colon_last [] [] [] P a h e p s = absurd (both_ways false refl s)
colon_last [] [] (b ∷ []) P a h e p s = absurd (single_colon b (and_parts (eqb 58 b) true s).0 e)
colon_last [] [] (b ∷ d ∷ rest) P a h e p s =
    let Q : ℕ → Type 0 = λ c. P (c ∷ rest) in
    subst Q (second_colon b d rest (and_parts (eqb 58 b) true s).0 e) (p rest)
colon_last (k ∷ cs) [] [] P a h e p s = absurd (both_ways false refl s)
colon_last (k ∷ cs) [] (b ∷ rest) P a h e p s =
    let parts = and_parts (not (is_name_byte b)) (not (eqb b 58 && not (eqb (get_or rest 0 0) 58))) e in
    let all = and_parts (is_name_byte k) (list_all is_name_byte cs) a in
    absurd (both_ways (is_name_byte b) (not-true (is_name_byte b) parts.0) (sym (ap is_name_byte (eqb-true k b (and_parts (eqb k b) _ s).0)) ∙ all.0))
colon_last [] (b ∷ x) rest P a h e p s =
    let all = and_parts (is_name_byte b) (list_all is_name_byte x) h in
    absurd (both_ways (is_name_byte b) (sym (ap is_name_byte (eqb-true 58 b (and_parts (eqb 58 b) _ s).0))) all.0)
colon_last (k ∷ cs) (b ∷ x) rest P a h e p s = colon_last cs x rest P (and_parts (is_name_byte k) (list_all is_name_byte cs) a).1 (and_parts (is_name_byte b) (list_all is_name_byte x) h).1 e p (and_parts (eqb k b) _ s).1

-- a form that is not there where its test passes
unless_none : (test : Bool) (f : Option Form) → (test ≡ true → f ≡ None) → (if test then f else None) ≡ None
unless_none true f h = h refl
unless_none false f h = refl

-- ---- a name before what may follow it

start_is_byte : (b : ℕ) → is_name_start b ≡ true → is_name_byte b ≡ true
start_is_byte b h = grind (arith, nat_tests)

-- the whole form of a name
pub word_read : (b : ℕ) (x rest : List ℕ) → is_word (b ∷ x) ≡ true → is_name_end rest ≡ true
    → code_form (b ∷ x ++ rest) ≡ Some (record { found = named (b ∷ x); len = suc (length x) })
word_read b x rest w e =
    let bs = b ∷ x ++ rest in
    let parts = and_parts (is_name_start b) (list_all is_name_byte (b ∷ x)) w in
    let outside = not-true (is_name_byte (first rest)) (and_parts (not (is_name_byte (first rest))) _ e).0 in
    let run : prefix_len is_name_byte bs ≡ suc (length x) = run_len is_name_byte (b ∷ x) rest parts.1 outside refl in
    let n_is : name_len bs ≡ suc (length x) = ap (λ (t : Bool). if t then prefix_len is_name_byte bs else 0) parts.0 ∙ run in
    let name_is : name bs ≡ Some (record { found = named (b ∷ x); len = suc (length x) }) =
    ap (λ n. form (named (take n bs)) n) n_is ∙ ap (λ t. form (named t) (suc (length x))) (take_front (b ∷ x) rest) in
    let no_http : begins "http://" bs ≡ false = colon_next 47 (codes "http") (codes "/") (b ∷ x) rest refl parts.1 e refl in
    let no_https : begins "https://" bs ≡ false = colon_next 47 (codes "https") (codes "/") (b ∷ x) rest refl parts.1 e refl in
    let no_url : url bs ≡ None =
    ap (λ (t : Bool). if t then after_scheme locs.Http 7 (drop 7 bs) else if begins "https://" bs then after_scheme locs.Https 8 (drop 8 bs) else None) no_http
    ∙ ap (λ (t : Bool). if t then after_scheme locs.Https 8 (drop 8 bs) else None) no_https in
    let no_environment : environment bs ≡ None =
    unless_none (begins "env:" bs) (after_env (drop 4 bs)) (λ s. colon_last (codes "env") (b ∷ x) rest (λ t. after_env t ≡ None) refl parts.1 e (λ t. refl) s) in
    let no_digest : digest bs ≡ None =
    unless_none (begins "sha256:" bs) (after_sha256 (drop 7 bs)) (λ s. colon_last (codes "sha256") (b ∷ x) rest (λ t. after_sha256 t ≡ None) refl parts.1 e (λ t. refl) s) in
    code_form-word bs parts.0
    ∙ ap (λ f. longest (f ∷ url bs ∷ environment bs ∷ digest bs ∷ [])) name_is
    ∙ ap (λ f. longest (Some (record { found = named (b ∷ x); len = suc (length x) }) ∷ f ∷ environment bs ∷ digest bs ∷ [])) no_url
    ∙ ap (λ f. longest (Some (record { found = named (b ∷ x); len = suc (length x) }) ∷ None ∷ f ∷ digest bs ∷ [])) no_environment
    ∙ ap (λ f. longest (Some (record { found = named (b ∷ x); len = suc (length x) }) ∷ None ∷ None ∷ f ∷ [])) no_digest

-- ---- a name between backticks

pub quoted_read : (x rest : List ℕ) → list_all is_quoted_label_byte x ≡ true
    → code_form (96 ∷ (x ++ 96 ∷ []) ++ rest) ≡ Some (record { found = Is (kinds.Quoted x); len = suc (length (x ++ 96 ∷ [])) })
quoted_read x rest h =
    let tail = 96 ∷ rest in
    let bs = 96 ∷ x ++ tail in
    let n = length x in
    let run : prefix_len is_quoted_label_byte (x ++ tail) ≡ n = run_len is_quoted_label_byte x tail h refl refl in
    let by : ℕ → Option Form = λ m. if slice_index bs (1 + m) == 96 then form (Is (kinds.Quoted (take m (x ++ tail)))) (2 + m) else None in
    let closes : (slice_index bs (1 + n) == 96) ≡ true = ap (λ b. b == 96) (after x) in
    ap code_form (ap (λ t. 96 ∷ t) (append_assoc x (96 ∷ []) rest))
    ∙ code_form-backtick bs refl
    ∙ ap by run
    ∙ ap (λ (t : Bool). if t then form (Is (kinds.Quoted (take n (x ++ tail)))) (2 + n) else None) closes
    ∙ form-some (Is (kinds.Quoted (take n (x ++ tail)))) (2 + n) (omega arith)
    ∙ ap (λ t. Some (record { found = Is (kinds.Quoted t); len = 2 + n })) (take_front x tail)
    ∙ ap (λ l. Some (record { found = Is (kinds.Quoted x); len = l })) size
  where
    later : (x : List ℕ) → get_or (x ++ 96 ∷ rest) (length x) 0 ≡ 96
    later [] = refl
    later (b ∷ x) = later x

    after : (x : List ℕ) → slice_index (96 ∷ x ++ 96 ∷ rest) (1 + length x) ≡ 96
    after x = ap (slice_index (96 ∷ x ++ 96 ∷ rest)) (one-add (length x)) ∙ later x

    size : 2 + length x ≡ suc (length (x ++ 96 ∷ []))
    size = let e = length-append x (96 ∷ []) in omega (arith, e)

-- ---- `.` before a label

pub dot_read : (b : ℕ) (t : List ℕ) → eqb b 47 ≡ false → eqb 46 b ≡ false → code_form (46 ∷ b ∷ t) ≡ Some (record { found = Is (kinds.Mark marks.Dot); len = 1 })
dot_read b t slash dot =
    let bs = 46 ∷ b ∷ t in
    let here : Bool → Option Form = λ q. path_form locs.Here 1 (by_component (if q then path_component t else None) (λ n. components path_component n t)) in
    let parent : Bool → Option Form = λ q. if q then path_form locs.Parent 2 (components path_component 0 t) else None in
    code_form-dot bs refl
    ∙ ap (λ q. joined (longest (here q ∷ parent (eqb 46 b && true) ∷ None ∷ None ∷ [])) (mark bs)) slash
    ∙ ap (λ q. joined (longest (None ∷ parent q ∷ None ∷ None ∷ [])) (mark bs)) (and_left (eqb 46 b) true dot)
