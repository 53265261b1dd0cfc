-- The forms at a first byte that begins few of them.
use Rattle.std.proofs.Common.{◌≡◌, ℕ, zero, suc, ◌+◌, ◌<◌, ◌≤◌, Bool, true, false, ◌&&◌, ◌||◌, if◌then◌else◌, ◌==◌, eqb, ltb, nat_eq, nat_lt, List, [], ◌∷◌, ◌++◌, take, drop, slice_index, map, codes, Option, Some, None, IfSome, refl, sym, ap, subst, ◌∙◌, inl, inr, arith}
use Rattle.std.proofs.lemmas.Bool.{and_left, and_parts, and_right, or_cases, both_ways, eqb-false, eqb-true, le-ltb, ltb-true, ne_eqb}
use Rattle.std.specs.List.{starts_with}
use Rattle.dh_syntax.specs.declared.operators.BinOp.TheVariants as binary
use Rattle.dh_syntax.specs.declared.tokens.Mark.TheVariants as marks
use Rattle.dh_syntax.specs.declared.tokens.TextForm.TheVariants as forms
use Rattle.dh_syntax.specs.declared.tokens.TokenKind.TheVariants as kinds
use Rattle.dh_syntax.specs.Text.Characters.{first, begins, is_sign}
use Rattle.dh_syntax.specs.Text.Lexing.{code_form, gap_forms, token_forms, forms_left_out}
use Rattle.dh_syntax.specs.Text.LexForms.{Found, White, Is, Faulty, LeftOut, Form, form, longer, longest}
use Rattle.dh_syntax.specs.Text.LexGaps.{Comment, ClosedAfter, FaultyAfter, NotClosed, white_space, line_comment, block_comment, comment, comment_form}
use Rattle.dh_syntax.specs.Text.LexLocations.{path}
use Rattle.dh_syntax.specs.Text.LexMarks.{mark, mark_form, brackets, separators, binders, operators, operators_twice}
use Rattle.dh_syntax.specs.Text.LexNames.{minus_infinity, name_len, quoted_name}
use Rattle.dh_syntax.specs.Text.LexNumbers.{integer, integer_found, signed_double, signed_time}
use Rattle.dh_tokens.specs.Inside.Forms.{joined}
use Rattle.dh_syntax.specs.Text.LexTexts.{multi_line_opening}
use Rattle.dh_tokens.specs.Inside.Fronts.{is_path_start, is_white}
use Rattle.dh_tokens.specs.Inside.Numbers.{signed_form}
use Rattle.dh_syntax.specs.Text.Numerals.{integer_len, natural_len, read_integer}
use Rattle.dh_tokens.proofs.FormLaws.{longest-cons, joined-none, joined_assoc}
use Rattle.dh_tokens.proofs.FormProperties.{has-more, longest-has, when-has}
use Rattle.dh_tokens.proofs.NumberForms.{signed_form-none}

-- what holds behind a byte holds where that byte stands first
pub at_byte : (P : List ℕ → Type 0) (c : ℕ) → 0 < c → ((bs : List ℕ) → P (c ∷ bs)) → (bs : List ℕ) → first bs ≡ c → P bs
at_byte P c some h [] e = absurd (omega (arith, some, e))
at_byte P c some h (b ∷ bs) e =
    let Q : ℕ → Type 0 = λ k. P (k ∷ bs) in
    subst Q (sym e) (h bs)

-- what holds behind some bytes holds where the list begins with them
pub at_front : (P : List ℕ → Type 0) (front : List ℕ) → ((bs : List ℕ) → P (front ++ bs)) → (bs : List ℕ) → starts_with nat_eq bs front ≡ true → P bs
at_front P [] h bs e = h bs
at_front P (c ∷ cs) h [] e = absurd (both_ways false refl e)
at_front P (c ∷ cs) h (b ∷ bs) e =
    let parts = and_parts (eqb c b) (starts_with nat_eq bs cs) e in
    let Q : ℕ → Type 0 = λ k. P (k ∷ bs) in
    let R : List ℕ → Type 0 = λ t. P (c ∷ t) in
    subst Q (eqb-true c b parts.0) (at_front R cs h bs parts.1)

-- the longest of several forms, step by step
abbrev pub joined_all : List (Option Form) → Option Form
joined_all [] = None
joined_all (f ∷ fs) = joined f (joined_all fs)

pub longest-joined_all : (fs : List (Option Form)) → longest fs ≡ joined_all fs
longest-joined_all [] = refl
longest-joined_all (f ∷ fs) = longest-cons f fs ∙ ap (joined f) (longest-joined_all fs)

pub code_form-joined_all : (bs : List ℕ) → code_form bs ≡ joined_all (gap_forms bs ++ token_forms bs ++ forms_left_out bs)
code_form-joined_all bs = longest-joined_all (gap_forms bs ++ token_forms bs ++ forms_left_out bs)

-- white space
pub code_form-space : (bs : List ℕ) → first bs ≡ 32 → code_form bs ≡ white_space bs
code_form-space bs e = at_byte (λ t. code_form t ≡ white_space t) 32 (omega arith) (λ t. refl) bs e

pub code_form-tab : (bs : List ℕ) → first bs ≡ 9 → code_form bs ≡ white_space bs
code_form-tab bs e = at_byte (λ t. code_form t ≡ white_space t) 9 (omega arith) (λ t. refl) bs e

pub code_form-line_feed : (bs : List ℕ) → first bs ≡ 10 → code_form bs ≡ white_space bs
code_form-line_feed bs e = at_byte (λ t. code_form t ≡ white_space t) 10 (omega arith) (λ t. refl) bs e

pub code_form-return : (bs : List ℕ) → first bs ≡ 13 → code_form bs ≡ white_space bs
code_form-return bs e = at_byte (λ t. code_form t ≡ white_space t) 13 (omega arith) (λ t. code_form-joined_all (13 ∷ t) ∙ joined-none (white_space (13 ∷ t))) bs e

-- paths and marks
pub code_form-dot : (bs : List ℕ) → first bs ≡ 46 → code_form bs ≡ joined (path bs) (mark bs)
code_form-dot bs e = at_byte (λ t. code_form t ≡ joined (path t) (mark t)) 46 (omega arith) (λ t. code_form-joined_all (46 ∷ t)) bs e

pub code_form-slash : (bs : List ℕ) → first bs ≡ 47 → code_form bs ≡ joined (path bs) (mark bs)
code_form-slash bs e =
    at_byte (λ t. code_form t ≡ joined (path t) (mark t)) 47 (omega arith) (λ t. code_form-joined_all (47 ∷ t) ∙ ap (joined (path (47 ∷ t))) (joined-none (mark (47 ∷ t)))) bs e

pub code_form-tilde : (bs : List ℕ) → first bs ≡ 126 → code_form bs ≡ joined (path bs) (mark bs)
code_form-tilde bs e = at_byte (λ t. code_form t ≡ joined (path t) (mark t)) 126 (omega arith) (λ t. code_form-joined_all (126 ∷ t)) bs e

-- a longer form before a shorter one
pub longer-first : (found other : Found) (m n : ℕ) → 0 < n → m ≤ n → joined (form found n) (form other m) ≡ form found n
longer-first found other m zero some few = absurd (omega (arith, some))
longer-first found other zero (suc n) some few = refl
longer-first found other (suc m) (suc n) some few =
    let f : Form = record { found = found; len = suc n } in
    let g : Form = record { found = other; len = suc m } in
    ap (λ (b : Bool). Some (if b then g else f)) (le-ltb (suc n) (suc m) few)

-- a comment and the brace at its start
comment-first : (other : Found) (c : Comment) → joined (comment_form c) (form other 1) ≡ comment_form c
comment-first other (ClosedAfter n) = longer-first White other 1 (2 + n) (omega arith) (omega arith)
comment-first other (FaultyAfter n) = longer-first (Faulty (2 + n)) other 1 (3 + n) (omega arith) (omega arith)
comment-first other NotClosed = refl

pub code_form-comment : (bs : List ℕ) → begins "{-" bs ≡ true → code_form bs ≡ block_comment bs
code_form-comment bs e =
    at_front (λ t. code_form t ≡ block_comment t) (codes "{-") (λ t. code_form-joined_all (123 ∷ 45 ∷ t) ∙ comment-first (Is (kinds.Mark marks.BraceOpen)) (comment 0 0 t)) bs e

-- line comments, arrows, numbers with a minus
pub code_form-line_comment : (bs : List ℕ) → begins "--" bs ≡ true → code_form bs ≡ line_comment bs
code_form-line_comment bs e = at_front (λ t. code_form t ≡ line_comment t) (codes "--") (λ t. code_form-joined_all (45 ∷ 45 ∷ t) ∙ joined-none (line_comment (45 ∷ 45 ∷ t))) bs e

pub code_form-arrow : (bs : List ℕ) → begins "->" bs ≡ true → code_form bs ≡ mark bs
code_form-arrow bs e = at_front (λ t. code_form t ≡ mark t) (codes "->") (λ t. refl) bs e

and_true : (x y : Bool) (f : Option Form) (g : Form) → (if x && y then f else None) ≡ Some g → x ≡ true
and_true true y f g e = refl
and_true false y f g e = absurd (cc)

pub code_form-minus_infinity : (bs : List ℕ) (f : Form) → minus_infinity bs ≡ Some f → code_form bs ≡ Some f
code_form-minus_infinity bs f e =
    let starts = and_true (begins "-Infinity" bs) (name_len (drop 1 bs) == 8) (form LeftOut 9) f e in
    at_front (λ t. code_form t ≡ minus_infinity t) (codes "-Infinity") (λ t. code_form-joined_all (codes "-Infinity" ++ t) ∙ joined-none (minus_infinity (codes "-Infinity" ++ t))) bs starts ∙ e

not_begun : (test : Bool) (f : Option Form) → test ≡ false → (if test then f else None) ≡ None
not_begun test f e = ap (λ (b : Bool). if b then f else None) e

-- bytes with another one second
other_second : (b c : ℕ) (t : List ℕ) → (first t == c) ≡ false → starts_with nat_eq (b ∷ t) (b ∷ c ∷ []) ≡ false
other_second b c [] e = and_right (eqb b b) false refl
other_second b c (d ∷ ds) e = and_right (eqb b b) (eqb c d && true) (and_left (eqb c d) true (ne_eqb c d (λ same. eqb-false d c e (sym same))))

-- a brace that begins no comment
pub code_form-brace : (bs : List ℕ) → first bs ≡ 123 → (slice_index bs 1 == 45) ≡ false → code_form bs ≡ mark bs
code_form-brace bs e h =
    let brace = form (Is (kinds.Mark marks.BraceOpen)) 1 in
    at_byte (λ t. (slice_index t 1 == 45) ≡ false → code_form t ≡ mark t) 123 (omega arith)
    (λ t other. code_form-joined_all (123 ∷ t) ∙ ap (λ f. joined f brace) (not_begun (begins "{-" (123 ∷ t)) (comment_form (comment 0 0 (drop 1 t))) (other_second 123 45 t other))) bs e h

-- the forms at a minus
minus_forms : (bs : List ℕ) → first bs ≡ 45 → code_form bs ≡ joined_all (line_comment bs ∷ integer bs ∷ mark bs ∷ minus_infinity bs ∷ signed_double bs ∷ signed_time bs ∷ [])
minus_forms bs e =
    at_byte (λ t. code_form t ≡ joined_all (line_comment t ∷ integer t ∷ mark t ∷ minus_infinity t ∷ signed_double t ∷ signed_time t ∷ [])) 45 (omega arith) (λ t. code_form-joined_all (45 ∷ t)) bs e

-- of the marks only the arrow begins with a minus
minus_mark : (bs : List ℕ) → first bs ≡ 45 → mark bs ≡ (if begins "->" bs then form (Is (kinds.Mark marks.Arrow)) 2 else None)
minus_mark bs e =
    at_byte (λ t. mark t ≡ (if begins "->" t then form (Is (kinds.Mark marks.Arrow)) 2 else None)) 45 (omega arith)
    (λ t. longest-joined_all (map (mark_form (45 ∷ t)) (brackets ++ separators ++ binders ++ operators ++ operators_twice)) ∙ joined-none (if begins "->" (45 ∷ t) then form (Is (kinds.Mark marks.Arrow)) 2 else None)) bs e

pub signed_form-joined_all : (bs : List ℕ) → signed_form bs ≡ joined_all (integer bs ∷ signed_double bs ∷ signed_time bs ∷ [])
unfolding signed_form
signed_form-joined_all bs = longest-joined_all (integer bs ∷ signed_double bs ∷ signed_time bs ∷ [])

pub code_form-minus : (bs : List ℕ) → first bs ≡ 45 → begins "--" bs ≡ false → begins "->" bs ≡ false → minus_infinity bs ≡ None → code_form bs ≡ signed_form bs
code_form-minus bs e comment' arrow infinity =
    let forms : Option Form → Option Form → Option Form → Option Form = λ c m i. joined_all (c ∷ integer bs ∷ m ∷ i ∷ signed_double bs ∷ signed_time bs ∷ []) in
    let no_comment : line_comment bs ≡ None = not_begun (begins "--" bs) _ comment' in
    let no_mark : mark bs ≡ None = minus_mark bs e ∙ not_begun (begins "->" bs) _ arrow in
    minus_forms bs e
    ∙ ap (λ c. forms c (mark bs) (minus_infinity bs)) no_comment
    ∙ ap (λ m. forms None m (minus_infinity bs)) no_mark
    ∙ ap (forms None None) infinity
    ∙ sym (signed_form-joined_all bs)

-- numbers with a plus, and marks

no_longer : (f : Form) (m : Option Form) → IfSome m (λ g. g.len ≤ f.len) → joined (Some f) m ≡ Some f
no_longer f None h = refl
no_longer f (Some m) h = ap (λ (b : Bool). Some (if b then m else f)) (le-ltb f.len m.len h)

chosen-len : (f g : Form) (r : Bool) → ltb f.len g.len ≡ r → f.len ≤ (if r then g else f).len
chosen-len f g true e = let h : f.len < g.len = ltb-true f.len g.len e in omega (arith, h)
chosen-len f g false e = omega arith

longer-len : (f : Form) (g : Option Form) → f.len ≤ (longer f g).len
longer-len f None = omega arith
longer-len f (Some g) = chosen-len f g (ltb f.len g.len) refl

-- a form that is no longer may as well come last
shorter_last : (f : Form) (m g : Option Form) → IfSome m (λ h. h.len ≤ f.len) → joined (Some f) (joined m g) ≡ joined (joined (Some f) g) m
shorter_last f m g few =
    let P : Form → Type 0 = λ h. h.len ≤ f.len in
    let Q : Form → Type 0 = λ h. h.len ≤ (longer f g).len in
    let still = has-more P Q m (λ h few'. omega (arith, few', longer-len f g)) few in
    joined_assoc (Some f) m g ∙ ap (λ h. joined h g) (no_longer f m few) ∙ sym (no_longer (longer f g) m still)

plus_mark : (bs : List ℕ) → first bs ≡ 43 → IfSome (mark bs) (λ m. m.len ≤ 2)
plus_mark bs e =
    let P : Form → Type 0 = λ m. m.len ≤ 2 in
    let Q : Option Form → Type 0 = λ f. IfSome f P in
    let plus : Option Form = form (Is (kinds.Mark (marks.Operator binary.Plus))) 1 in
    let append : List ℕ → Option Form = λ t. if begins "++" t then form (Is (kinds.Mark (marks.Operator binary.TextAppend))) 2 else None in
    let two : (t : List ℕ) → IfSome (longest (plus ∷ append t ∷ [])) P =
    λ t. longest-has P (plus ∷ append t ∷ []) (omega arith, (when-has P (begins "++" t) (form (Is (kinds.Mark (marks.Operator binary.TextAppend))) 2) (λ begun. omega arith), tt)) in
    at_byte (λ t. IfSome (mark t) P) 43 (omega arith)
    (λ t. subst Q (longest-joined_all (plus ∷ append (43 ∷ t) ∷ []) ∙ sym (longest-joined_all (map (mark_form (43 ∷ t)) (brackets ++ separators ++ binders ++ operators ++ operators_twice)))) (two (43 ∷ t))) bs e

-- an integer takes at least two bytes
integer_len-two : (n k : ℕ) (test : Bool) → (test ≡ true → 0 < k) → n ≡ (if test then suc k else 0) → 0 < n → 2 ≤ n
integer_len-two n k true more e some = let h : 0 < k = more refl in omega (arith, h, e)
integer_len-two n k false more e some = absurd (omega (arith, e, some))

plus-by : (bs : List ℕ) (n : ℕ) (found : Found) (m : Option Form) → integer bs ≡ form found n → n ≡ integer_len bs → IfSome m (λ g. g.len ≤ 2)
    → joined_all (integer bs ∷ m ∷ signed_double bs ∷ signed_time bs ∷ []) ≡ joined (signed_form bs) m
plus-by bs zero found m i n_is few =
    let others = joined_all (signed_double bs ∷ signed_time bs ∷ []) in
    let none = signed_form-none bs (sym n_is) in
    let no_others : others ≡ None = ap (λ f. joined f others) (sym i) ∙ sym (signed_form-joined_all bs) ∙ none in
    ap (λ f. joined f (joined m others)) i ∙ ap (joined m) no_others ∙ joined-none m ∙ sym (ap (λ f. joined f m) none)
plus-by bs (suc n) found m i n_is few =
    let f : Form = record { found = found; len = suc n } in
    let others = joined_all (signed_double bs ∷ signed_time bs ∷ []) in
    let k = natural_len (drop 1 bs) in
    let signs = is_sign (first bs) in
    let two : 2 ≤ suc n = integer_len-two (suc n) k (signs && nat_lt 0 k) (λ both. ltb-true 0 k (and_parts signs (nat_lt 0 k) both).1) n_is (omega arith) in
    let P : Form → Type 0 = λ g. g.len ≤ 2 in
    let Q : Form → Type 0 = λ g. g.len ≤ f.len in
    let shorter = has-more P Q m (λ g few'. omega (arith, few', two)) few in
    ap (λ g. joined g (joined m others)) i
    ∙ shorter_last f m others shorter
    ∙ sym (ap (λ g. joined (joined g others) m) i)
    ∙ sym (ap (λ g. joined g m) (signed_form-joined_all bs))

pub code_form-plus : (bs : List ℕ) → first bs ≡ 43 → code_form bs ≡ joined (signed_form bs) (mark bs)
code_form-plus bs e =
    at_byte (λ t. code_form t ≡ joined_all (integer t ∷ mark t ∷ signed_double t ∷ signed_time t ∷ [])) 43 (omega arith) (λ t. code_form-joined_all (43 ∷ t)) bs e
    ∙ plus-by bs (integer_len bs) (integer_found (read_integer (take (integer_len bs) bs))) (mark bs) refl refl (plus_mark bs e)

-- white space and paths, by their kind of byte

pub code_form-white : (bs : List ℕ) → is_white (first bs) ≡ true → code_form bs ≡ white_space bs
code_form-white bs h = elim (or_cases (first bs == 32 || first bs == 9 || first bs == 10) (first bs == 13) h) [
  | inl others ↦ elim (or_cases (first bs == 32 || first bs == 9) (first bs == 10) others) [
    | inl blank ↦ elim (or_cases (first bs == 32) (first bs == 9) blank) [ inl space ↦ code_form-space bs (eqb-true (first bs) 32 space) | inr tab' ↦ code_form-tab bs (eqb-true (first bs) 9 tab') ]
    | inr feed ↦ code_form-line_feed bs (eqb-true (first bs) 10 feed)
  ]
  | inr return' ↦ code_form-return bs (eqb-true (first bs) 13 return')
]

pub code_form-path : (bs : List ℕ) → is_path_start (first bs) ≡ true → code_form bs ≡ joined (path bs) (mark bs)
code_form-path bs h = elim (or_cases (first bs == 46 || first bs == 47) (first bs == 126) h) [
  | inl others ↦ elim (or_cases (first bs == 46) (first bs == 47) others) [ inl dot ↦ code_form-dot bs (eqb-true (first bs) 46 dot) | inr slash ↦ code_form-slash bs (eqb-true (first bs) 47 slash) ]
  | inr tilde ↦ code_form-tilde bs (eqb-true (first bs) 126 tilde)
]

-- the openings of texts

pub code_form-quote : (bs : List ℕ) → first bs ≡ 34 → code_form bs ≡ Some (record { found = Is (kinds.TextOpen forms.DoubleQuoted); len = 1 })
code_form-quote bs e = at_byte (λ t. code_form t ≡ Some (record { found = Is (kinds.TextOpen forms.DoubleQuoted); len = 1 })) 34 (omega arith) (λ t. refl) bs e

pub code_form-apostrophe : (bs : List ℕ) → first bs ≡ 39 → code_form bs ≡ multi_line_opening bs
code_form-apostrophe bs e = at_byte (λ t. code_form t ≡ multi_line_opening t) 39 (omega arith) (λ t. code_form-joined_all (39 ∷ t) ∙ joined-none (multi_line_opening (39 ∷ t))) bs e

pub code_form-backtick : (bs : List ℕ) → first bs ≡ 96 → code_form bs ≡ quoted_name bs
code_form-backtick bs e = at_byte (λ t. code_form t ≡ quoted_name t) 96 (omega arith) (λ t. code_form-joined_all (96 ∷ t) ∙ joined-none (quoted_name (96 ∷ t))) bs e
