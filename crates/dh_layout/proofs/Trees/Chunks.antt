-- Texts with their interpolations.
use Rattle.std.proofs.Common.{◌≡◌, ℕ, zero, suc, ◌+◌, Bool, true, false, ◌||◌, if◌then◌else◌, List, [], ◌∷◌, ◌++◌, length, nat_lt, codes, Some, None, append_assoc, append-nil, refl, sym, ap, subst, ◌∙◌, arith}
use Rattle.std.specs.Str.{IsUtf8}
use Rattle.dh_syntax.specs.declared.expressions.Op.TheVariants as ops
use Rattle.dh_syntax.specs.declared.tokens.TextForm.TheVariants.{DoubleQuoted}
use Rattle.dh_syntax.specs.declared.tokens.TokenKind.TheVariants as kinds
use Rattle.dh_syntax.specs.Text.Characters.{begins}
use Rattle.dh_syntax.specs.Text.Derivation as d
use Rattle.dh_syntax.specs.Text.Derivation.{Derivation, Chunks}
use Rattle.dh_syntax.specs.Text.Derived.{chunks_derived}
use Rattle.dh_syntax.specs.Text.LexForms.{Is, form, stretching}
use Rattle.dh_syntax.specs.Text.LexTexts.{closing_len, text_part, character_of}
use Rattle.dh_syntax.specs.Text.Lexing.{Place, Interpolated, Among, Other, form_or, no_form}
use Rattle.dh_syntax.specs.Text.Literals.{escape}
use Rattle.dh_syntax.specs.Text.Meaning.{meaning, parts, pieces, piece_of, interpolations}
use Rattle.dh_syntax.specs.Text.Printed.{layout, layouts, at, texts, interpolated}
use Rattle.dh_syntax.specs.Text.Stretches.{Ends, UpTo, by_character, stretch}
use Rattle.dh_syntax.specs.Expressions.Tree.{Row, Node, end, kid, Name, Var}
use Rattle.dh_syntax.specs.Text.Yield.{Written, token, yield, chunks_yield, piece_yield, free}
use Rattle.dh_layout.proofs.Trees.Good.{Good}
use Rattle.dh_layout.proofs.Trees.Trees.{tree_of, trees_of, piece_token, chunks_from}
use Rattle.dh_layout.proofs.Texts.Values.{HasNoNoncharacter, ArePieces}
use Rattle.dh_layout.proofs.Reading.Walks.{Lexes}
use Rattle.dh_layout.proofs.Reading.Walk.{given, give, calm_index, regrouped, close_interpolation}
use Rattle.dh_layout.proofs.Trees.Levels.{both, whole}
use Rattle.dh_layout.proofs.Trees.Rows.{AreGood, terms_of, row_again}
use Rattle.dh_layout.proofs.Reading.Pieces.{piece_at, piece_read}

-- where a piece ends
abbrev pub Stops : List ℕ → Type 0
Stops rest = stretch piece_at 0 rest ≡ UpTo [] 0

-- ---- a piece

part_by : (x : ℕ) (xs q : List ℕ) (b k : ℕ) (qs : List ℕ) (closes opens : Bool) → nat_lt 0 (closing_len DoubleQuoted (x ∷ xs)) ≡ closes → begins "${" (x ∷ xs) ≡ opens
    → stretch piece_at 0 (x ∷ xs) ≡ UpTo (b ∷ qs) (suc k) → text_part DoubleQuoted (x ∷ xs) ≡ Some (record { found = Is (kinds.TextPiece (b ∷ qs)); len = suc k })
part_by x xs q b k qs true opens c o e =
    let stops : UpTo [] 0 ≡ UpTo (b ∷ qs) (suc k) = sym (ap (λ (t : Bool). by_character (if t || begins "${" (x ∷ xs) then Ends else character_of DoubleQuoted (x ∷ xs)) (λ n. stretch piece_at n xs)) c) ∙ e in
    absurd (cc)
part_by x xs q b k qs false true c o e =
    let stops : UpTo [] 0 ≡ UpTo (b ∷ qs) (suc k) = sym (ap (λ (t : Bool). by_character (if t || begins "${" (x ∷ xs) then Ends else character_of DoubleQuoted (x ∷ xs)) (λ n. stretch piece_at n xs)) c ∙ ap (λ (t : Bool). by_character (if false || t then Ends else character_of DoubleQuoted (x ∷ xs)) (λ n. stretch piece_at n xs)) o) ∙ e in
    absurd (cc)
part_by x xs q b k qs false false c o e =
    let found : List ℕ → _ = λ text. Is (kinds.TextPiece text) in
    let size : 0 + suc k ≡ suc k = omega arith in
    ap (λ (t : Bool). if t then form (Is kinds.TextClose) (closing_len DoubleQuoted (x ∷ xs)) else if begins "${" (x ∷ xs) then form (Is kinds.InterpolationOpen) 2 else stretching found 0 (stretch piece_at 0 (x ∷ xs))) c
    ∙ ap (λ (t : Bool). if t then form (Is kinds.InterpolationOpen) 2 else stretching found 0 (stretch piece_at 0 (x ∷ xs))) o
    ∙ ap (stretching found 0) e
    ∙ ap (λ n. form (Is (kinds.TextPiece (b ∷ qs))) n) size

piece_lexes : (from : ℕ) (p : Place) (q rest : List ℕ) (n : ℕ) (ws : List Written) → IsUtf8 q → HasNoNoncharacter q → Stops rest → Lexes (Among DoubleQuoted from p) false rest ws
    → Lexes (Among DoubleQuoted from p) false (escape q ++ rest) (piece_yield n (piece_token q) ++ ws)
piece_lexes from p [] rest n ws u good stop h = h
piece_lexes from p (b ∷ qs) rest n ws u good stop h = by (escape (b ∷ qs)) refl (piece_read (b ∷ qs) rest u good stop)
  where
    by : (es : List ℕ) → escape (b ∷ qs) ≡ es → stretch piece_at 0 (escape (b ∷ qs) ++ rest) ≡ UpTo (b ∷ qs) (length (escape (b ∷ qs)))
        → Lexes (Among DoubleQuoted from p) false (escape (b ∷ qs) ++ rest) (token n free (kinds.TextPiece (b ∷ qs)) ∷ ws)
    by [] e read =
        let none : UpTo [] 0 ≡ UpTo (b ∷ qs) 0 = sym stop ∙ sym (ap (λ t. stretch piece_at 0 (t ++ rest)) e) ∙ read ∙ ap (λ t. UpTo (b ∷ qs) (length t)) e in
        absurd (cc)
    by (x ∷ xs) e read =
        let read' : stretch piece_at 0 (x ∷ xs ++ rest) ≡ UpTo (b ∷ qs) (suc (length xs)) = sym (ap (λ t. stretch piece_at 0 (t ++ rest)) e) ∙ read ∙ ap (λ t. UpTo (b ∷ qs) (length t)) e in
        let part = part_by x (xs ++ rest) [] b (length xs) qs (nat_lt 0 (closing_len DoubleQuoted (x ∷ xs ++ rest))) (begins "${" (x ∷ xs ++ rest)) refl refl read' in
        subst (λ t. Lexes (Among DoubleQuoted from p) false (t ++ rest) (token n free (kinds.TextPiece (b ∷ qs)) ∷ ws)) (sym e)
        (record {
          lexes = λ before gap calm gapped at.
              given (Among DoubleQuoted from p) before gap at x xs rest (kinds.TextPiece (b ∷ qs)) n false ws (ap (λ f. form_or f (no_form (x ∷ xs ++ rest))) part) (calm_index before (kinds.TextPiece (b ∷ qs)) calm) gapped
              (λ at'. h.lexes Other false tt refl at');
        })

close_text : (from : ℕ) (p : Place) (rest : List ℕ) (n : ℕ) (ws : List Written) → Lexes p false rest ws → Lexes (Among DoubleQuoted from p) false (34 ∷ rest) (token n free kinds.TextClose ∷ ws)
close_text from p rest n ws h = record {
  lexes = λ before gap calm gapped at.
      given (Among DoubleQuoted from p) before gap at 34 [] rest kinds.TextClose n false ws refl (calm_index before kinds.TextClose calm) gapped (λ at'. h.lexes Other false tt refl at');
}

open_interpolation : (from : ℕ) (p : Place) (rest : List ℕ) (n : ℕ) (ws : List Written) → Lexes (Interpolated zero DoubleQuoted from p) false rest ws
    → Lexes (Among DoubleQuoted from p) false (36 ∷ 123 ∷ rest) (token n free kinds.InterpolationOpen ∷ ws)
open_interpolation from p rest n ws h = record {
  lexes = λ before gap calm gapped at.
      given (Among DoubleQuoted from p) before gap at 36 (123 ∷ []) rest kinds.InterpolationOpen n false ws refl (calm_index before kinds.InterpolationOpen calm) gapped (λ at'. h.lexes Other false tt refl at');
}

-- ---- what follows the first piece

abbrev pub later_text : List (List ℕ) → Row Var Name → List ℕ
later_text (q ∷ qs) (kid b e r) = codes "${" ++ (at 0 (layout e) ++ (codes "}" ++ (escape q ++ later_text qs r)))
later_text _ _ = []

abbrev pub later_written : ℕ → List (List ℕ) → Row Var Name → List Written
later_written n (q ∷ qs) (kid b e r) =
    token n free kinds.InterpolationOpen ∷ (yield (suc n) free (tree_of e) ++ (token n free kinds.InterpolationClose ∷ (piece_yield n (piece_token q) ++ later_written n qs r)))
later_written n _ _ = []

-- one part fewer than pieces, none of them under a binder
abbrev pub Between : List (List ℕ) → Row Var Name → Type 0
Between [] end = Unit {0}
Between (q ∷ qs) (kid None e r) = Good e (tree_of e) × Between qs r
Between _ _ = ⊥

later_stops : (qs : List (List ℕ)) (r : Row Var Name) (rest : List ℕ) → Stops (later_text qs r ++ 34 ∷ rest)
later_stops [] r rest = refl
later_stops (q ∷ qs) end rest = refl
later_stops (q ∷ qs) (kid b e r) rest = refl

later_reads : (from : ℕ) (p : Place) (qs : List (List ℕ)) (r : Row Var Name) (rest : List ℕ) (n : ℕ) (ws : List Written) → ArePieces qs → Between qs r → Lexes p false rest ws
    → Lexes (Among DoubleQuoted from p) false (later_text qs r ++ 34 ∷ rest) (later_written n qs r ++ token n free kinds.TextClose ∷ ws)
later_reads from p [] end rest n ws good h after = close_text from p rest n ws after
later_reads from p [] (kid b e r) rest n ws good h after = absurd h
later_reads from p (q ∷ qs) end rest n ws good h after = absurd h
later_reads from p (q ∷ qs) (kid (Some x) e r) rest n ws good h after = absurd h
later_reads from p (q ∷ qs) (kid None e r) rest n ws good h after =
    let inner = later_reads from p qs r rest n ws good.1 h.1 after in
    let piece' = piece_lexes from p q (later_text qs r ++ 34 ∷ rest) n _ good.0.0 good.0.1 (later_stops qs r rest) inner in
    let closed = close_interpolation DoubleQuoted from p false _ n _ piece' in
    let e' = (whole e (tree_of e) h.0).reads (suc n) false (Interpolated zero DoubleQuoted from p) _ _ tt refl closed in
    let opened' = open_interpolation from p _ n _ e' in
    let t = at 0 (layout e) in
    let tail = escape q ++ later_text qs r in
    let text_shape : (t ++ (125 ∷ tail)) ++ 34 ∷ rest ≡ t ++ (125 ∷ (escape q ++ (later_text qs r ++ 34 ∷ rest))) =
    append_assoc t (125 ∷ tail) (34 ∷ rest) ∙ ap (λ u. t ++ (125 ∷ u)) (append_assoc (escape q) (later_text qs r) (34 ∷ rest)) in
    let y = yield (suc n) free (tree_of e) in
    let w = piece_yield n (piece_token q) in
    let close = token n free kinds.TextClose ∷ ws in
    let written_shape : (y ++ (token n free kinds.InterpolationClose ∷ (w ++ later_written n qs r))) ++ close ≡ y ++ (token n free kinds.InterpolationClose ∷ (w ++ (later_written n qs r ++ close))) =
    append_assoc y (token n free kinds.InterpolationClose ∷ (w ++ later_written n qs r)) close ∙ ap (λ u. y ++ (token n free kinds.InterpolationClose ∷ u)) (append_assoc w (later_written n qs r) close) in
    subst (λ u. Lexes (Among DoubleQuoted from p) false (36 ∷ 123 ∷ u) (token n free kinds.InterpolationOpen ∷ ((y ++ (token n free kinds.InterpolationClose ∷ (w ++ later_written n qs r))) ++ close))) (sym text_shape)
    (subst (λ u. Lexes (Among DoubleQuoted from p) false (36 ∷ 123 ∷ (t ++ (125 ∷ (escape q ++ (later_text qs r ++ 34 ∷ rest))))) (token n free kinds.InterpolationOpen ∷ u)) (sym written_shape) opened')

texts_shape : (q : List ℕ) (qs : List (List ℕ)) (r : Row Var Name) → Between qs r → interpolated (q ∷ qs) (texts (layouts r)) ≡ escape q ++ later_text qs r
texts_shape q [] end h = refl
texts_shape q [] (kid b e r) h = absurd h
texts_shape q (s ∷ qs) end h = absurd h
texts_shape q (s ∷ qs) (kid (Some x) e r) h = absurd h
texts_shape q (s ∷ qs) (kid None e r) h =
    let t = at 0 (layout e) in
    let more = escape s ++ later_text qs r in
    ap (λ u. escape q ++ codes "${" ++ t ++ codes "}" ++ u) (texts_shape s qs r h.1)
    ∙ append_assoc (escape q ++ codes "${" ++ t) (codes "}") more
    ∙ append_assoc (escape q ++ codes "${") t (codes "}" ++ more)
    ∙ append_assoc (escape q) (codes "${") (t ++ (codes "}" ++ more))

chunks_written : (n : ℕ) (cs : Chunks) (qs : List (List ℕ)) (r : Row Var Name) → Between qs r → chunks_yield n (chunks_from cs qs (trees_of r)) ≡ chunks_yield n cs ++ later_written n qs r
chunks_written n cs [] end h = sym (append-nil (chunks_yield n cs))
chunks_written n cs [] (kid b e r) h = absurd h
chunks_written n cs (q ∷ qs) end h = absurd h
chunks_written n cs (q ∷ qs) (kid (Some x) e r) h = absurd h
chunks_written n cs (q ∷ qs) (kid None e r) h =
    let y = yield (suc n) free (tree_of e) in
    let w = piece_yield n (piece_token q) in
    let c = chunks_yield n cs in
    let l = later_written n qs r in
    let opening = token n free kinds.InterpolationOpen in
    let closing = token n free kinds.InterpolationClose in
    chunks_written n (d.more_chunks cs (tree_of e) (piece_token q)) qs r h.1
    ∙ append_assoc (c ++ opening ∷ y) (closing ∷ w) l
    ∙ append_assoc c (opening ∷ y) (closing ∷ (w ++ l))

-- ---- meaning

piece_is : (q : List ℕ) → piece_of (piece_token q) ≡ q
piece_is [] = refl
piece_is (b ∷ q) = refl

pieces_mean : (cs : Chunks) (qs : List (List ℕ)) (r : Row Var Name) → Between qs r → pieces (chunks_from cs qs (trees_of r)) ≡ pieces cs ++ qs
pieces_mean cs [] end h = sym (append-nil (pieces cs))
pieces_mean cs [] (kid b e r) h = absurd h
pieces_mean cs (q ∷ qs) end h = absurd h
pieces_mean cs (q ∷ qs) (kid (Some x) e r) h = absurd h
pieces_mean cs (q ∷ qs) (kid None e r) h =
    pieces_mean (d.more_chunks cs (tree_of e) (piece_token q)) qs r h.1 ∙ append_assoc (pieces cs) (piece_of (piece_token q) ∷ []) qs ∙ ap (λ t. pieces cs ++ t ∷ qs) (piece_is q)

parts_mean : (cs : Chunks) (qs : List (List ℕ)) (r : Row Var Name) → Between qs r → interpolations (chunks_from cs qs (trees_of r)) ≡ interpolations cs ++ terms_of r
parts_mean cs [] end h = sym (append-nil (interpolations cs))
parts_mean cs [] (kid b e r) h = absurd h
parts_mean cs (q ∷ qs) end h = absurd h
parts_mean cs (q ∷ qs) (kid (Some x) e r) h = absurd h
parts_mean cs (q ∷ qs) (kid None e r) h =
    parts_mean (d.more_chunks cs (tree_of e) (piece_token q)) qs r h.1 ∙ append_assoc (interpolations cs) (meaning (tree_of e) ∷ []) (terms_of r) ∙ ap (λ t. interpolations cs ++ t ∷ terms_of r) h.0.means

chunks_are_derived : (cs : Chunks) (qs : List (List ℕ)) (r : Row Var Name) → Between qs r → chunks_derived cs ≡ true → chunks_derived (chunks_from cs qs (trees_of r)) ≡ true
chunks_are_derived cs [] end h t = t
chunks_are_derived cs [] (kid b e r) h t = absurd h
chunks_are_derived cs (q ∷ qs) end h t = absurd h
chunks_are_derived cs (q ∷ qs) (kid (Some x) e r) h t = absurd h
chunks_are_derived cs (q ∷ qs) (kid None e r) h t = chunks_are_derived (d.more_chunks cs (tree_of e) (piece_token q)) qs r h.1 (both t h.0.is_derived)

all_good : (qs : List (List ℕ)) (r : Row Var Name) → Between qs r → AreGood r
all_good [] end h = tt
all_good [] (kid b e r) h = absurd h
all_good (q ∷ qs) end h = absurd h
all_good (q ∷ qs) (kid (Some x) e r) h = absurd h
all_good (q ∷ qs) (kid None e r) h = (h.0, all_good qs r h.1)

pub good_text : (q : List ℕ) (qs : List (List ℕ)) (r : Row Var Name) → ArePieces (q ∷ qs) → Between qs r → Good (Node (ops.Text (q ∷ qs)) r) (d.text DoubleQuoted (chunks_from (d.start (piece_token q)) qs (trees_of r)))
good_text q qs r good h =
    let first' = d.start (piece_token q) in
    record {
      means =
          ap (λ ps. Node (ops.Text ps) (parts (interpolations (chunks_from first' qs (trees_of r))))) (pieces_mean first' qs r h ∙ ap (λ t. t ∷ qs) (piece_is q))
          ∙ ap (λ es. Node (ops.Text (q ∷ qs)) (parts es)) (parts_mean first' qs r h)
          ∙ ap (λ row. Node (ops.Text (q ∷ qs)) row) (row_again r (all_good qs r h));
      is_derived = chunks_are_derived first' qs r h refl;
      levels = refl;
      bares = refl;
      reads = λ n g p rest ws c seam after.
          let w = piece_yield n (piece_token q) in
          let close = token n free kinds.TextClose ∷ [] in
          subst (λ u. Lexes p g ((codes "\"" ++ interpolated (q ∷ qs) (texts (layouts r)) ++ codes "\"") ++ rest) ((token n g (kinds.TextOpen DoubleQuoted) ∷ u ++ close) ++ ws)) (sym (chunks_written n first' qs r h))
          (subst (λ t. Lexes p g ((codes "\"" ++ t ++ codes "\"") ++ rest) ((token n g (kinds.TextOpen DoubleQuoted) ∷ (w ++ later_written n qs r) ++ close) ++ ws)) (sym (texts_shape q qs r h))
          (regrouped p g (codes "\"") ((escape q ++ later_text qs r) ∷ codes "\"" ∷ []) rest (token n g (kinds.TextOpen DoubleQuoted) ∷ []) ((w ++ later_written n qs r) ∷ close ∷ []) ws
          (give p g 34 [] ((escape q ++ later_text qs r) ++ 34 ∷ rest) (kinds.TextOpen DoubleQuoted) n ((w ++ later_written n qs r) ++ token n free kinds.TextClose ∷ ws) c (λ b. tt) refl refl refl
          (λ at. subst (λ t. Lexes (Among DoubleQuoted at p) false t ((w ++ later_written n qs r) ++ token n free kinds.TextClose ∷ ws)) (sym (append_assoc (escape q) (later_text qs r) (34 ∷ rest)))
          (subst (λ t. Lexes (Among DoubleQuoted at p) false (escape q ++ (later_text qs r ++ 34 ∷ rest)) t) (sym (append_assoc w (later_written n qs r) (token n free kinds.TextClose ∷ ws)))
          (piece_lexes at p q _ n _ good.0.0 good.0.1 (later_stops qs r rest) (later_reads at p qs r rest n ws good.1 h after)))))));
    }
