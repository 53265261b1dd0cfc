-- Lines without what they are indented by.
use Rattle.std.proofs.Common.{◌≡◌, ℕ, zero, suc, ◌+◌, ◌<◌, ◌≤◌, min, Bool, true, leb, List, [], ◌∷◌, ◌++◌, length, map, get_or, take, drop, nat_eq, Result, Ok, Err, OnOk, if◌then◌else◌, ◌==◌, ◌&&◌, length-take-le, append_assoc, append-nil, refl, ap, sym, subst, ◌∙◌, arith}
use Rattle.std.proofs.lemmas.Bool.Decides.{nat_tests}
use Rattle.std.proofs.lemmas.List.{drop_more, drop_all}
use Rattle.std.proofs.lemmas.List.Sums.{common_prefix_len-le}
use Rattle.std.specs.List.{common_prefix_len, prefix_len, join_with_byte, list_all}
use Rattle.std.specs.Result.{is_ok}
use Rattle.std.specs.Str.{IsUtf8, IsCharBoundary}
use Rattle.dh_syntax.specs.Text.Characters.{line_feed}
use Rattle.dh_syntax.specs.Text.Literals.{common, counted, counted_later, counted_lines, indentation, indented_by, lines_of, cut, cut_later, cut_pieces, unindent}
use Rattle.dh_syntax.proofs.Numbers.{and-true_left, and-true_right}
use Rattle.dh_literals.specs.Inside.Indentation.{is_blank, is_blank_before}
use Rattle.dh_literals.proofs.Fronts.{front_passes, length-taken, all_front, passing_boundary}
use Rattle.dh_literals.proofs.Lines.{HasFirst, has_first, one_line, first_line}
use Rattle.dh_literals.proofs.SplitParts.{Lacks, SplitAt}

blank_ascii : (b : ℕ) → is_blank b ≡ true → b < 128
blank_ascii b h = grind (arith, nat_tests)

-- within its blanks a line may be cut
pub blank_boundary : (n m : ℕ) (line : List ℕ) → IsUtf8 line → is_blank_before n line ≡ true → m ≡ min n (length line) → IsCharBoundary line m
blank_boundary n m line u h e = let front = all_front is_blank n line h in passing_boundary is_blank blank_ascii m line u (omega (arith, front))

-- a line that is indented by so much
indented : (n : ℕ) (line : List ℕ) → n ≤ length (indentation line) → is_blank_before n line ≡ true
indented n line h =
    let size : length (indentation line) ≡ prefix_len is_blank line = length-taken is_blank (prefix_len is_blank line) line (omega arith) in
    let long : leb n (prefix_len is_blank line) ≡ true = grind (arith, nat_tests) in
    and-true_right (length (take n line) == n) (is_blank_before n line) (front_passes is_blank n line ∙ long)

blank_nothing : (n : ℕ) → is_blank_before n [] ≡ true
blank_nothing zero = refl
blank_nothing (suc n) = refl

both : (a b : Bool) → a ≡ true → b ≡ true → (a && b) ≡ true
both a b p q = cc

-- what several lines are indented by, each of them is
all_indented : (n : ℕ) (lines : List (List ℕ)) → n ≤ length (common (map indentation lines)) → list_all (is_blank_before n) lines ≡ true
all_indented n [] h = refl
all_indented n (l ∷ []) h = both (is_blank_before n l) true (indented n l h) refl
all_indented n (l ∷ m ∷ ls) h =
    let rest = common (map indentation (m ∷ ls)) in
    let le = common_prefix_len-le nat_eq (indentation l) rest in
    let size = length-take-le (common_prefix_len nat_eq (indentation l) rest) (indentation l) le.0 in
    both (is_blank_before n l) (list_all (is_blank_before n) (m ∷ ls)) (indented n l (omega (arith, h, size, le.0))) (all_indented n (m ∷ ls) (omega (arith, h, size, le.1)))

-- the lines that do not count are empty
all_counted : (n : ℕ) (lines : List (List ℕ)) → list_all (is_blank_before n) (counted lines) ≡ true → list_all (is_blank_before n) lines ≡ true
all_counted n [] h = refl
all_counted n (l ∷ []) h = h
all_counted n ([] ∷ m ∷ ls) h = both (is_blank_before n []) (list_all (is_blank_before n) (m ∷ ls)) (blank_nothing n) (all_counted n (m ∷ ls) h)
all_counted n ((b ∷ bs) ∷ m ∷ ls) h =
    let first = is_blank_before n (b ∷ bs) in
    let rest = list_all (is_blank_before n) (counted (m ∷ ls)) in
    both first (list_all (is_blank_before n) (m ∷ ls)) (and-true_left first rest h) (all_counted n (m ∷ ls) (and-true_right first rest h))

all_append : (n : ℕ) (xs ys : List (List ℕ)) → list_all (is_blank_before n) (xs ++ ys) ≡ true → (list_all (is_blank_before n) xs ≡ true) × (list_all (is_blank_before n) ys ≡ true)
all_append n [] ys h = (refl, h)
all_append n (x ∷ xs) ys h =
    let more = all_append n xs ys (and-true_right (is_blank_before n x) (list_all (is_blank_before n) (xs ++ ys)) h) in
    (both (is_blank_before n x) (list_all (is_blank_before n) xs) (and-true_left (is_blank_before n x) (list_all (is_blank_before n) (xs ++ ys)) h) more.0, more.1)

-- a text whose lines have lost so many bytes at their start
abbrev pub cut_text : ℕ → List ℕ → List ℕ
cut_text n text = join_with_byte line_feed (cut n (lines_of text))

-- a piece after an interpolation, likewise
abbrev pub cut_later_text : ℕ → List ℕ → List ℕ
cut_later_text n text = join_with_byte line_feed (cut_later n (lines_of text))

pub cut_last : (n : ℕ) (text : List ℕ) → Lacks line_feed text → cut_text n text ≡ drop n text
cut_last n text h = ap (λ ls. join_with_byte line_feed (cut n ls)) (one_line text h)

join-first : (x : List ℕ) (xs : List (List ℕ)) (n : ℕ) → HasFirst xs → join_with_byte line_feed (x ∷ cut n xs) ≡ x ++ (line_feed ∷ join_with_byte line_feed (cut n xs))
join-first x xs n h = ap (λ ls. join_with_byte line_feed (x ∷ cut n ls)) h.is ∙ sym (ap (λ ls. x ++ (line_feed ∷ join_with_byte line_feed (cut n ls))) h.is)

pub cut_first : (n : ℕ) (text line more : List ℕ) → SplitAt line_feed text line more → cut_text n text ≡ drop n line ++ (line_feed ∷ cut_text n more)
cut_first n text line more split = ap (λ ls. join_with_byte line_feed (cut n ls)) (first_line text line more split) ∙ join-first (drop n line) (lines_of more) n (has_first more)

pub cut_later_last : (n : ℕ) (text : List ℕ) → Lacks line_feed text → cut_later_text n text ≡ text
cut_later_last n text h = ap (λ ls. join_with_byte line_feed (cut_later n ls)) (one_line text h)

pub cut_later_first : (n : ℕ) (text line more : List ℕ) → SplitAt line_feed text line more → cut_later_text n text ≡ line ++ (line_feed ∷ cut_text n more)
cut_later_first n text line more split = ap (λ ls. join_with_byte line_feed (cut_later n ls)) (first_line text line more split) ∙ join-first line (lines_of more) n (has_first more)

-- the lines that may be cut, by the first of them
pub blank_first : (n : ℕ) (text line more : List ℕ) → SplitAt line_feed text line more → list_all (is_blank_before n) (lines_of text) ≡ true → (is_blank_before n line ≡ true) × (list_all (is_blank_before n) (lines_of more) ≡ true)
blank_first n text line more split h =
    let P : List (List ℕ) → Type 0 = λ ls. list_all (is_blank_before n) ls ≡ true in
    let all = subst P (first_line text line more split) h in
    (and-true_left (is_blank_before n line) (list_all (is_blank_before n) (lines_of more)) all, and-true_right (is_blank_before n line) (list_all (is_blank_before n) (lines_of more)) all)

pub blank_last : (n : ℕ) (text : List ℕ) → Lacks line_feed text → list_all (is_blank_before n) (lines_of text) ≡ true → is_blank_before n text ≡ true
blank_last n text none h =
    let P : List (List ℕ) → Type 0 = λ ls. list_all (is_blank_before n) ls ≡ true in
    and-true_left (is_blank_before n text) true (subst P (one_line text none) h)

pub blank_later : (n : ℕ) (text line more : List ℕ) → SplitAt line_feed text line more → list_all (is_blank_before n) (drop 1 (lines_of text)) ≡ true → list_all (is_blank_before n) (lines_of more) ≡ true
blank_later n text line more split h =
    let P : List (List ℕ) → Type 0 = λ ls. list_all (is_blank_before n) (drop 1 ls) ≡ true in
    subst P (first_line text line more split) h

-- one line more is written
pub written_more : (n : ℕ) (text line more so_far so_far' : List ℕ) → SplitAt line_feed text line more → so_far' ≡ so_far ++ drop n line ++ (line_feed ∷ []) → so_far' ++ cut_text n more ≡ so_far ++ cut_text n text
written_more n text line more so_far so_far' split e =
    ap (λ l. l ++ cut_text n more) e
    ∙ append_assoc (so_far ++ drop n line) (line_feed ∷ []) (cut_text n more)
    ∙ append_assoc so_far (drop n line) (line_feed ∷ cut_text n more)
    ∙ ap (λ l. so_far ++ l) (sym (cut_first n text line more split))

-- the last line is written
pub written_last : {E : Type 0} (n : ℕ) (text line so_far so_far' whole : List ℕ) (r : Result (Unit {0}) E) → Lacks line_feed text → line ≡ drop n text → so_far' ≡ (if is_ok r then so_far ++ line else so_far) → so_far ++ cut_text n text ≡ whole → OnOk r (so_far' ≡ whole)
written_last n text line so_far so_far' whole (Ok x) none cut e h = e ∙ ap (λ l. so_far ++ l) (cut ∙ sym (cut_last n text none)) ∙ h
written_last n text line so_far so_far' whole (Err x) none cut e h = tt

-- a piece after an interpolation is written
pub later_written : (n : ℕ) (text line more so_far whole : List ℕ) → SplitAt line_feed text line more → so_far ≡ line ++ (line_feed ∷ []) → whole ≡ so_far ++ cut_text n more → whole ≡ cut_later_text n text
later_written n text line more so_far whole split e f =
    f ∙ ap (λ l. l ++ cut_text n more) e ∙ append_assoc line (line_feed ∷ []) (cut_text n more) ∙ sym (cut_later_first n text line more split)

-- by what all lines of a text are indented, the lines of its pieces may be cut
pub blank_pieces : (pieces later : List (List ℕ)) (first : List ℕ) (n : ℕ) → pieces ≡ first ∷ later → n ≡ indented_by pieces → (list_all (is_blank_before n) (lines_of first) ≡ true) × (list_all (is_blank_before n) (counted_later later) ≡ true)
blank_pieces pieces later first n split e =
    let size = ap (λ ps. length (common (map indentation (counted_lines ps)))) split in
    let all = all_append n (counted (lines_of first)) (counted_later later) (all_indented n (counted (lines_of first) ++ counted_later later) (omega (arith, e, size))) in
    (all_counted n (lines_of first) all.0, all.1)

pub blank_piece : (pieces : List (List ℕ)) (i : ℕ) (piece : List ℕ) (n : ℕ) → i < length pieces → piece ≡ get_or pieces i piece → list_all (is_blank_before n) (counted_later (drop i pieces)) ≡ true → (list_all (is_blank_before n) (drop 1 (lines_of piece)) ≡ true) × (list_all (is_blank_before n) (counted_later (drop (i + 1) pieces)) ≡ true)
blank_piece pieces i piece n less at h =
    let rest = drop (i + 1) pieces in
    let parts : drop i pieces ≡ piece ∷ rest = drop_more pieces i piece less ∙ ap (λ p. p ∷ rest) (sym at) in
    let P : List (List ℕ) → Type 0 = λ ps. list_all (is_blank_before n) (counted_later ps) ≡ true in
    let all = all_append n (counted (drop 1 (lines_of piece))) (counted_later rest) (subst P parts h) in
    (all_counted n (drop 1 (lines_of piece)) all.0, all.1)

-- the pieces that were cut, and those that are left
pub cut_one : (pieces later none done : List (List ℕ)) (first made : List ℕ) (n : ℕ) → pieces ≡ first ∷ later → made ≡ cut_text n first → none ≡ [] → done ≡ none ++ (made ∷ []) → done ++ map (cut_later_text n) later ≡ cut_pieces n pieces
cut_one pieces later none done first made n split e f g =
    ap (λ l. l ++ map (cut_later_text n) later) (g ∙ ap (λ l. l ++ (made ∷ [])) f ∙ ap (λ p. p ∷ []) e) ∙ sym (ap (cut_pieces n) split)

pub cut_more : (pieces done done' whole : List (List ℕ)) (i : ℕ) (piece made : List ℕ) (n : ℕ) → i < length pieces → piece ≡ get_or pieces i piece → made ≡ cut_later_text n piece → done' ≡ done ++ (made ∷ []) → done ++ map (cut_later_text n) (drop i pieces) ≡ whole → done' ++ map (cut_later_text n) (drop (i + 1) pieces) ≡ whole
cut_more pieces done done' whole i piece made n less at e f h =
    let rest = drop (i + 1) pieces in
    let parts : drop i pieces ≡ piece ∷ rest = drop_more pieces i piece less ∙ ap (λ p. p ∷ rest) (sym at) in
    ap (λ l. l ++ map (cut_later_text n) rest) f
    ∙ append_assoc done (made ∷ []) (map (cut_later_text n) rest)
    ∙ ap (λ p. done ++ (p ∷ map (cut_later_text n) rest)) e
    ∙ sym (ap (λ ps. done ++ map (cut_later_text n) ps) parts)
    ∙ h

pub cut_all : (pieces later done : List (List ℕ)) (i n : ℕ) → length later ≤ i → n ≡ indented_by pieces → done ++ map (cut_later_text n) (drop i later) ≡ cut_pieces n pieces → done ≡ unindent pieces
cut_all pieces later done i n past e h =
    sym (append-nil done) ∙ sym (ap (λ ps. done ++ map (cut_later_text n) ps) (drop_all i later past)) ∙ h ∙ ap (λ k. cut_pieces k pieces) e
