-- The indentation that lines share.
use Rattle.std.proofs.Common.{◌≡◌, ℕ, ◌+◌, ◌<◌, min, Bool, true, false, cond, eqb, nat_eq, List, [], ◌∷◌, ◌++◌, length, map, get_or, take, drop, inl, inr, one-add, ◌==◌, Option, Some, None, length-take-le, refl, ap, sym, ◌∙◌, arith}
use Rattle.std.proofs.lemmas.Bool.{cases_lt}
use Rattle.std.proofs.lemmas.Bool.Decides.{nat_tests}
use Rattle.std.proofs.lemmas.List.{drop_all, drop_more, map-append}
use Rattle.std.proofs.lemmas.List.Sums.{common_prefix_len-le}
use Rattle.std.specs.List.{common_prefix_len}
use Rattle.dh_syntax.specs.Text.Literals.{common, counted, counted_later, counted_lines, indentation, lines_of}
use Rattle.dh_syntax.specs.Text.Characters.{line_feed}
use Rattle.dh_literals.specs.Inside.Indentation.{common_with}
use Rattle.dh_literals.proofs.Lines.{one_line, first_line, HasFirst, has_first, has_first_counted, counted_empty, counted_full}
use Rattle.dh_literals.proofs.SplitParts.{Lacks, SplitAt}

none_common : (xs : List ℕ) → common_prefix_len nat_eq xs [] ≡ 0
none_common [] = refl
none_common (x ∷ xs) = refl

-- where one of two texts is at its end
common_at_end : (xs ys : List ℕ) (n : ℕ) → n ≡ min (length xs) (length ys) → common_prefix_len nat_eq (drop n xs) (drop n ys) ≡ 0
common_at_end xs ys n e = elim (cases_lt (length xs) (length ys)) [
  | inl h ↦ ap (λ l. common_prefix_len nat_eq l (drop n ys)) (drop_all n xs (omega arith))
  | inr h ↦ ap (common_prefix_len nat_eq (drop n xs)) (drop_all n ys (omega arith)) ∙ none_common (drop n xs)
]

pub common_fits : (xs ys : List ℕ) (n : ℕ) → n ≡ common_prefix_len nat_eq xs ys → n ≡ length (take n xs)
common_fits xs ys n e = sym (length-take-le n xs (let le = common_prefix_len-le nat_eq xs ys in omega (arith, le.0)))

pub common_whole : (xs ys : List ℕ) (n i : ℕ) → n ≡ min (length xs) (length ys) → i ≡ n → common_prefix_len nat_eq xs ys ≡ i + common_prefix_len nat_eq (drop i xs) (drop i ys) → n ≡ common_prefix_len nat_eq xs ys
common_whole xs ys n i e f h = let none = common_at_end xs ys i (f ∙ e) in omega (arith, h, none, f)

-- the common front of two texts
abbrev pub meet : List ℕ → List ℕ → List ℕ
meet x y = take (common_prefix_len nat_eq x y) x

meet-by : (same : Bool) (x n : ℕ) (xs : List ℕ) → take (cond same (1 + n) 0) (x ∷ xs) ≡ cond same (x ∷ take n xs) []
meet-by true x n xs = ap (λ k. take k (x ∷ xs)) (one-add n)
meet-by false x n xs = refl

meet-cons : (x y : ℕ) (xs ys : List ℕ) → meet (x ∷ xs) (y ∷ ys) ≡ cond (eqb x y) (x ∷ meet xs ys) []
meet-cons x y xs ys = meet-by (eqb x y) x (common_prefix_len nat_eq xs ys) xs

meet-none : (xs : List ℕ) → meet xs [] ≡ []
meet-none [] = refl
meet-none (x ∷ xs) = refl

-- for the first bytes x, y and z: whether x is y, y is z and x is z
meet_assoc-by : (x y z : ℕ) (xs ys zs : List ℕ) (p q : Bool) → eqb x y ≡ p → eqb y z ≡ q → meet (meet xs ys) zs ≡ meet xs (meet ys zs) → meet (cond p (x ∷ meet xs ys) []) (z ∷ zs) ≡ meet (x ∷ xs) (cond q (y ∷ meet ys zs) [])
meet_assoc-by x y z xs ys zs true true e f h =
    let third : eqb x z ≡ true = grind (arith, nat_tests) in
    meet-cons x z (meet xs ys) zs ∙ ap (λ b. cond b (x ∷ meet (meet xs ys) zs) []) third ∙ ap (λ l. x ∷ l) h ∙ sym (meet-cons x y xs (meet ys zs) ∙ ap (λ b. cond b (x ∷ meet xs (meet ys zs)) []) e)
meet_assoc-by x y z xs ys zs true false e f h =
    let third : eqb x z ≡ false = grind (arith, nat_tests) in
    meet-cons x z (meet xs ys) zs ∙ ap (λ b. cond b (x ∷ meet (meet xs ys) zs) []) third
meet_assoc-by x y z xs ys zs false true e f h = sym (meet-cons x y xs (meet ys zs) ∙ ap (λ b. cond b (x ∷ meet xs (meet ys zs)) []) e)
meet_assoc-by x y z xs ys zs false false e f h = refl

meet_assoc : (xs ys zs : List ℕ) → meet (meet xs ys) zs ≡ meet xs (meet ys zs)
meet_assoc [] ys zs = refl
meet_assoc (x ∷ xs) [] zs = refl
meet_assoc (x ∷ xs) (y ∷ ys) [] = meet-none (meet (x ∷ xs) (y ∷ ys)) ∙ sym (ap (meet (x ∷ xs)) (meet-none (y ∷ ys)))
meet_assoc (x ∷ xs) (y ∷ ys) (z ∷ zs) =
    ap (λ l. meet l (z ∷ zs)) (meet-cons x y xs ys)
    ∙ meet_assoc-by x y z xs ys zs (eqb x y) (eqb y z) refl refl (meet_assoc xs ys zs)
    ∙ sym (ap (meet (x ∷ xs)) (meet-cons y z ys zs))

common-meet : (a x : List ℕ) (xs : List (List ℕ)) → common (a ∷ x ∷ xs) ≡ common (meet a x ∷ xs)
common-meet a x [] = refl
common-meet a x (y ∷ ys) = sym (meet_assoc a x (common (y ∷ ys)))

-- one text more
pub common_with-more : (o : Option (List ℕ)) (x : List ℕ) (xs : List (List ℕ)) → common_with o (x ∷ xs) ≡ common_with (Some (common_with o (x ∷ []))) xs
common_with-more None x xs = refl
common_with-more (Some a) x xs = common-meet a x xs

-- several more
pub common_with-append : (a : List ℕ) (xs ys : List (List ℕ)) → common_with (Some a) (xs ++ ys) ≡ common_with (Some (common_with (Some a) xs)) ys
common_with-append a [] ys = refl
common_with-append a (x ∷ xs) ys =
    common_with-more (Some a) x (xs ++ ys)
    ∙ common_with-append (common_with (Some a) (x ∷ [])) xs ys
    ∙ ap (λ l. common_with (Some l) ys) (sym (common_with-more (Some a) x xs))

pub common-append : (x : List ℕ) (xs ys : List (List ℕ)) → common ((x ∷ xs) ++ ys) ≡ common_with (Some (common (x ∷ xs))) ys
common-append x xs ys = common_with-append x xs ys

-- the indentations of the lines of a text that count
abbrev pub indentations : List ℕ → List (List ℕ)
indentations text = map indentation (counted (lines_of text))

not_empty : (n : ℕ) → false ≡ (n == 0) → 0 < n
not_empty n h = grind (arith, nat_tests)

-- the first line read
pub shared_full : (o : Option (List ℕ)) (rest line more shared : List ℕ) → SplitAt line_feed rest line more → false ≡ (length line == 0) → shared ≡ common_with o (indentation line ∷ []) → common_with (Some shared) (indentations more) ≡ common_with o (indentations rest)
shared_full o rest line more shared split some e =
    ap (λ x. common_with (Some x) (indentations more)) e
    ∙ sym (common_with-more o (indentation line) (indentations more))
    ∙ sym (ap (λ ls. common_with o (map indentation ls)) (ap counted (first_line rest line more split) ∙ counted_full line (lines_of more) (has_first more) (not_empty (length line) some)))

pub shared_last : (o : Option (List ℕ)) (rest : List ℕ) → Lacks line_feed rest → common_with o (indentation rest ∷ []) ≡ common_with o (indentations rest)
shared_last o rest h = sym (ap (λ ls. common_with o (map indentation (counted ls))) (one_line rest h))

-- the lines of a piece after an interpolation
pub shared_later : (shared text line more : List ℕ) → SplitAt line_feed text line more → common (shared ∷ indentations more) ≡ common (shared ∷ map indentation (counted (drop 1 (lines_of text))))
shared_later shared text line more split = sym (ap (λ ls. common (shared ∷ map indentation (counted (drop 1 ls)))) (first_line text line more split))

pub shared_no_later : (shared text : List ℕ) → Lacks line_feed text → shared ≡ common (shared ∷ map indentation (counted (drop 1 (lines_of text))))
shared_no_later shared text h = sym (ap (λ ls. common (shared ∷ map indentation (counted (drop 1 ls)))) (one_line text h))

-- the indentations of the lines that begin in pieces after an interpolation
abbrev pub later_indentations : List (List ℕ) → List (List ℕ)
later_indentations pieces = map indentation (counted_later pieces)

-- the first piece
shared_first-by : (lines pieces : List (List ℕ)) → HasFirst lines → common (common (map indentation lines) ∷ later_indentations pieces) ≡ common (map indentation (lines ++ counted_later pieces))
shared_first-by lines pieces h =
    ap (λ ls. common (common (map indentation ls) ∷ later_indentations pieces)) h.is
    ∙ sym (common-append (indentation h.line) (map indentation h.later) (later_indentations pieces))
    ∙ sym (ap (λ ls. common (map indentation ls ++ later_indentations pieces)) h.is)
    ∙ sym (ap common (map-append indentation lines (counted_later pieces)))

pub shared_first : (pieces later : List (List ℕ)) (first shared : List ℕ) → pieces ≡ first ∷ later → shared ≡ common (indentations first) → common (shared ∷ later_indentations later) ≡ common (map indentation (counted_lines pieces))
shared_first pieces later first shared split e =
    ap (λ s. common (s ∷ later_indentations later)) e
    ∙ shared_first-by (counted (lines_of first)) later (has_first_counted first)
    ∙ sym (ap (λ ps. common (map indentation (counted_lines ps))) split)

-- one piece more
pub shared_more : (pieces : List (List ℕ)) (i : ℕ) (piece shared shared' : List ℕ) → i < length pieces → piece ≡ get_or pieces i piece → shared' ≡ common (shared ∷ map indentation (counted (drop 1 (lines_of piece)))) → common (shared' ∷ later_indentations (drop (i + 1) pieces)) ≡ common (shared ∷ later_indentations (drop i pieces))
shared_more pieces i piece shared shared' less at e =
    let here = map indentation (counted (drop 1 (lines_of piece))) in
    let rest = drop (i + 1) pieces in
    let parts : drop i pieces ≡ piece ∷ rest = drop_more pieces i piece less ∙ ap (λ p. p ∷ rest) (sym at) in
    ap (λ s. common (s ∷ later_indentations rest)) e
    ∙ sym (common_with-append shared here (later_indentations rest))
    ∙ sym (ap (λ ls. common (shared ∷ ls)) (map-append indentation (counted (drop 1 (lines_of piece))) (counted_later rest)))
    ∙ sym (ap (λ ps. common (shared ∷ later_indentations ps)) parts)
