-- The longest mark by its first bytes.
use Rattle.std.proofs.Common.{◌≡◌, ℕ, ◌<◌, Bool, true, false, if◌then◌else◌, ◌==◌, eqb, nat_eq, nat_lt, List, [], ◌∷◌, ◌++◌, length, map, slice_index, Option, Some, None, refl, sym, ap, subst, ◌∙◌, arith}
use Rattle.std.proofs.lemmas.Bool.{and_left, and_parts, both_ways, eqb-false, eqb-true, ne_eqb}
use Rattle.std.specs.Borrow.{Bor}
use Rattle.std.specs.List.{list_all, starts_with}
use Rattle.dh_syntax.specs.declared.operators.BinOp.TheVariants as binary
use Rattle.dh_syntax.specs.declared.tokens.Mark.{Mark}
use Rattle.dh_syntax.specs.declared.tokens.Mark.TheVariants as marks
use Rattle.dh_syntax.specs.declared.tokens.TokenKind.TheVariants as kinds
use Rattle.dh_syntax.specs.Text.Characters.{first}
use Rattle.dh_syntax.specs.Text.LexForms.{Form, Is, form, longest}
use Rattle.dh_syntax.specs.Text.LexMarks.{Spelled, brackets, separators, binders, operators, operators_twice, mark, mark_form}
use Rattle.dh_tokens.specs.Inside.Forms.{joined}
use Rattle.dh_tokens.specs.Inside.Marks.{IsAlone, longest_of, pair_form}
use Rattle.dh_tokens.proofs.FormLaws.{joined-none, longest-cons}
use Rattle.dh_tokens.proofs.FrontBytes.{at_byte, longest-joined_all}

abbrev pub marks_all : List Spelled
marks_all = brackets ++ separators ++ binders ++ operators ++ operators_twice

-- a mark of one byte
pub alone-at : (m : Mark) (b k : ℕ) → b ≡ k → 0 < k → ((bs : List ℕ) → mark (k ∷ bs) ≡ form (Is (kinds.Mark m)) 1) → IsAlone m b
alone-at m b k e some h =
    let P : ℕ → Type 0 = λ n. IsAlone m n in
    subst P (sym e) (some, h)

-- bytes that begin with another one
starts-false : (c : ℕ) (cs t : List ℕ) → (first t == c) ≡ false → starts_with nat_eq t (c ∷ cs) ≡ false
starts-false c cs [] e = refl
starts-false c cs (d ∷ ds) e = and_left (eqb c d) (starts_with nat_eq ds cs) (ne_eqb c d (λ same. eqb-false d c e (sym same)))

pair-second : (b c : ℕ) (both : Mark) (one : Option Mark) (t : List ℕ) (yes' : Bool) → 0 < c → (first t == c) ≡ yes'
    → mark (b ∷ t) ≡ joined (pair_form false both one) (joined (if starts_with nat_eq t (c ∷ []) then form (Is (kinds.Mark both)) 2 else None) None)
    → ((u : List ℕ) → mark (b ∷ c ∷ u) ≡ form (Is (kinds.Mark both)) 2) → mark (b ∷ t) ≡ pair_form yes' both one
pair-second b c both one t true some e by whole = at_byte (λ u. mark (b ∷ u) ≡ form (Is (kinds.Mark both)) 2) c some whole t (eqb-true (first t) c e)
pair-second b c both one t false some e by whole =
    by
    ∙ ap (λ (x : Bool). joined (pair_form false both one) (joined (if x then form (Is (kinds.Mark both)) 2 else None) None)) (starts-false c [] t e)
    ∙ joined-none (pair_form false both one)

-- a mark of two bytes whose first one may be a mark too
pair-law : (b c : ℕ) (both : Mark) (one : Option Mark) → 0 < b → 0 < c
    → ((t : List ℕ) → mark (b ∷ t) ≡ joined (pair_form false both one) (joined (if starts_with nat_eq t (c ∷ []) then form (Is (kinds.Mark both)) 2 else None) None))
    → ((u : List ℕ) → mark (b ∷ c ∷ u) ≡ form (Is (kinds.Mark both)) 2)
    → (bs : List ℕ) → first bs ≡ b → pair_form (slice_index bs 1 == c) both one ≡ mark bs
pair-law b c both one some some' by whole bs e =
    at_byte (λ u. pair_form (slice_index u 1 == c) both one ≡ mark u) b some (λ t. sym (pair-second b c both one t (first t == c) some' refl (by t) whole)) bs e

pub mark-colon : (bs : List ℕ) → first bs ≡ 58 → pair_form (slice_index bs 1 == 58) (marks.Operator binary.Complete) (Some marks.Colon) ≡ mark bs
mark-colon bs e = pair-law 58 58 (marks.Operator binary.Complete) (Some marks.Colon) (omega arith) (omega arith) (λ t. longest-joined_all (map (mark_form (58 ∷ t)) marks_all)) (λ u. refl) bs e

pub mark-minus : (bs : List ℕ) → first bs ≡ 45 → pair_form (slice_index bs 1 == 62) marks.Arrow None ≡ mark bs
mark-minus bs e = pair-law 45 62 marks.Arrow None (omega arith) (omega arith) (λ t. longest-joined_all (map (mark_form (45 ∷ t)) marks_all)) (λ u. refl) bs e

pub mark-plus : (bs : List ℕ) → first bs ≡ 43 → pair_form (slice_index bs 1 == 43) (marks.Operator binary.TextAppend) (Some (marks.Operator binary.Plus)) ≡ mark bs
mark-plus bs e =
    pair-law 43 43 (marks.Operator binary.TextAppend) (Some (marks.Operator binary.Plus)) (omega arith) (omega arith) (λ t. longest-joined_all (map (mark_form (43 ∷ t)) marks_all)) (λ u. refl) bs e

pub mark-bar : (bs : List ℕ) → first bs ≡ 124 → pair_form (slice_index bs 1 == 124) (marks.Operator binary.Or) (Some marks.Bar) ≡ mark bs
mark-bar bs e = pair-law 124 124 (marks.Operator binary.Or) (Some marks.Bar) (omega arith) (omega arith) (λ t. longest-joined_all (map (mark_form (124 ∷ t)) marks_all)) (λ u. refl) bs e

pub mark-and : (bs : List ℕ) → first bs ≡ 38 → pair_form (slice_index bs 1 == 38) (marks.Operator binary.And) None ≡ mark bs
mark-and bs e = pair-law 38 38 (marks.Operator binary.And) None (omega arith) (omega arith) (λ t. longest-joined_all (map (mark_form (38 ∷ t)) marks_all)) (λ u. refl) bs e

pub mark-not : (bs : List ℕ) → first bs ≡ 33 → pair_form (slice_index bs 1 == 61) (marks.Operator binary.NotEqual) None ≡ mark bs
mark-not bs e = pair-law 33 61 (marks.Operator binary.NotEqual) None (omega arith) (omega arith) (λ t. longest-joined_all (map (mark_form (33 ∷ t)) marks_all)) (λ u. refl) bs e

pub mark-lambda : (bs : List ℕ) → first bs ≡ 0xCE → pair_form (slice_index bs 1 == 0xBB) marks.Lambda None ≡ mark bs
mark-lambda bs e = pair-law 0xCE 0xBB marks.Lambda None (omega arith) (omega arith) (λ t. longest-joined_all (map (mark_form (0xCE ∷ t)) marks_all)) (λ u. refl) bs e

-- equals signs
abbrev one_sign : Option Form
one_sign = form (Is (kinds.Mark marks.Equals)) 1

abbrev two_signs : Option Form
two_signs = form (Is (kinds.Mark (marks.Operator binary.Equal))) 2

abbrev three_signs : Option Form
three_signs = form (Is (kinds.Mark (marks.Operator binary.Equivalent))) 3

pub equals-one : (bs : List ℕ) → first bs ≡ 61 → (slice_index bs 1 == 61) ≡ false → one_sign ≡ mark bs
equals-one bs e h =
    at_byte (λ u. (slice_index u 1 == 61) ≡ false → one_sign ≡ mark u) 61 (omega arith)
    (λ t no'. sym (longest-joined_all (map (mark_form (61 ∷ t)) marks_all)
    ∙ ap (λ (x : Bool). joined one_sign (joined (if x then two_signs else None) (joined (if starts_with nat_eq t (61 ∷ 61 ∷ []) then three_signs else None) None))) (starts-false 61 [] t no')
    ∙ ap (λ (x : Bool). joined one_sign (joined (if x then three_signs else None) None)) (starts-false 61 (61 ∷ []) t no'))) bs e h

pub equals-two : (bs : List ℕ) → first bs ≡ 61 → slice_index bs 1 ≡ 61 → (slice_index bs 2 == 61) ≡ false → two_signs ≡ mark bs
equals-two bs e f h =
    at_byte (λ u. slice_index u 1 ≡ 61 → (slice_index u 2 == 61) ≡ false → two_signs ≡ mark u) 61 (omega arith)
    (λ t second no'. at_byte (λ v. (slice_index v 1 == 61) ≡ false → two_signs ≡ mark (61 ∷ v)) 61 (omega arith)
    (λ w third. sym (longest-joined_all (map (mark_form (61 ∷ 61 ∷ w)) marks_all)
    ∙ ap (λ (x : Bool). joined one_sign (joined two_signs (joined (if x then three_signs else None) None))) (starts-false 61 [] w third))) t second no') bs e f h

pub equals-three : (bs : List ℕ) → first bs ≡ 61 → slice_index bs 1 ≡ 61 → slice_index bs 2 ≡ 61 → three_signs ≡ mark bs
equals-three bs e f g =
    at_byte (λ u. slice_index u 1 ≡ 61 → slice_index u 2 ≡ 61 → three_signs ≡ mark u) 61 (omega arith)
    (λ t second third. at_byte (λ v. slice_index v 1 ≡ 61 → three_signs ≡ mark (61 ∷ v)) 61 (omega arith)
    (λ w last. at_byte (λ x. three_signs ≡ mark (61 ∷ 61 ∷ x)) 61 (omega arith) (λ y. refl) w last) t second third) bs e f g

-- the rows of a table that begin with a byte
abbrev pub rows_at : ℕ → List Spelled → List Spelled
rows_at b [] = []
rows_at b (s ∷ ss) = if eqb (first s.bytes) b then s ∷ rows_at b ss else rows_at b ss

other-first : (b : ℕ) (bs cs : List ℕ) → eqb (first cs) b ≡ false → nat_lt 0 (length cs) ≡ true → starts_with nat_eq (b ∷ bs) cs ≡ false
other-first b bs [] e some = absurd (both_ways false refl some)
other-first b bs (c ∷ cs) e some = and_left (eqb c b) (starts_with nat_eq bs cs) e

not_there : (test : Bool) (f : Option Form) → test ≡ false → (if test then f else None) ≡ None
not_there test f e = ap (λ (b : Bool). if b then f else None) e

-- no other row has a mark there
rows-by : (b : ℕ) (bs : List ℕ) (s : Spelled) (kept ss : List Spelled) (yes' : Bool) → eqb (first s.bytes) b ≡ yes' → nat_lt 0 (length s.bytes) ≡ true
    → longest (map (mark_form (b ∷ bs)) kept) ≡ longest (map (mark_form (b ∷ bs)) ss)
    → longest (map (mark_form (b ∷ bs)) (if yes' then s ∷ kept else kept)) ≡ longest (map (mark_form (b ∷ bs)) (s ∷ ss))
rows-by b bs s kept ss true e some h =
    longest-cons (mark_form (b ∷ bs) s) (map (mark_form (b ∷ bs)) kept) ∙ ap (joined (mark_form (b ∷ bs) s)) h ∙ sym (longest-cons (mark_form (b ∷ bs) s) (map (mark_form (b ∷ bs)) ss))
rows-by b bs s kept ss false e some h =
    h ∙ sym (ap (λ f. longest (f ∷ map (mark_form (b ∷ bs)) ss)) (not_there (starts_with nat_eq (b ∷ bs) s.bytes) (form (Is (kinds.Mark s.mark)) (length s.bytes)) (other-first b bs s.bytes e some)))

rows-all : (b : ℕ) (bs : List ℕ) (ss : List Spelled) → list_all (λ (s : Spelled). nat_lt 0 (length s.bytes)) ss ≡ true
    → longest (map (mark_form (b ∷ bs)) (rows_at b ss)) ≡ longest (map (mark_form (b ∷ bs)) ss)
rows-all b bs [] h = refl
rows-all b bs (s ∷ ss) h =
    let parts = and_parts (nat_lt 0 (length s.bytes)) (list_all (λ (t : Spelled). nat_lt 0 (length t.bytes)) ss) h in
    rows-by b bs s (rows_at b ss) ss (eqb (first s.bytes) b) refl parts.0 (rows-all b bs ss parts.1)

-- the longest mark is among the rows at its first byte
pub rows-where : (k b : ℕ) → b ≡ k → (bs : List ℕ) → longest (map (mark_form (b ∷ bs)) (rows_at k marks_all)) ≡ mark (b ∷ bs)
rows-where k b is bs = ap (λ n. longest (map (mark_form (b ∷ bs)) (rows_at n marks_all))) (sym is) ∙ rows-all b bs marks_all refl

-- the same of a table, behind any first byte
pub rows-mark : (b : ℕ) (bs : List ℕ) (table : List (Bor (List ℕ) × Mark)) → 0 < length bs → b ≡ first bs → ((t : List ℕ) → longest_of (b ∷ t) table ≡ mark (b ∷ t)) → longest_of bs table ≡ mark bs
rows-mark b [] table some e h = absurd (omega (arith, some))
rows-mark b (x ∷ xs) table some e h =
    let P : ℕ → Type 0 = λ n. longest_of (n ∷ xs) table ≡ mark (n ∷ xs) in
    subst P e (h xs)

-- the mark of one byte, where it stands
pub alone-mark : (m : Mark) (b : ℕ) (bs : List ℕ) → 0 < length bs → b ≡ first bs → IsAlone m b → form (Is (kinds.Mark m)) 1 ≡ mark bs
alone-mark m b [] some e h = absurd (omega (arith, some))
alone-mark m b (x ∷ xs) some e h =
    let P : ℕ → Type 0 = λ n. form (Is (kinds.Mark m)) 1 ≡ mark (n ∷ xs) in
    subst P e (sym (h.1 xs))
