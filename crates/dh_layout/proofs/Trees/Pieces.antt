-- Texts in a row, and their tokens.
use Rattle.std.specs.Prelude.{◌≡◌, ℕ, suc, true, false, List, [], ◌∷◌, ◌++◌, map, codes}
use Rattle.dh_syntax.specs.declared.tokens.Mark.TheVariants as marks
use Rattle.dh_syntax.specs.Text.Lexing.{Place}
use Rattle.dh_syntax.specs.Text.Printed.{layout, at, label}
use Rattle.dh_syntax.specs.Expressions.Tree.{Row, end, kid, Name, Var}
use Rattle.dh_syntax.specs.Text.Yield.{Written, mark, name, yield, free, apart}
use Rattle.dh_layout.proofs.Reading.Ends.{is_seam}
use Rattle.dh_layout.proofs.Trees.Trees.{tree_of, label_token}
use Rattle.dh_layout.proofs.Reading.Walks.{IsCode, Lexes}

pub record Piece : Type 0 where
  pub text : List ℕ
  pub written : List Written

abbrev pub piece : List ℕ → List Written → Piece
piece t w = record { text = t; written = w }

abbrev pub ReadsPiece : Piece → Type 0
ReadsPiece q = (p : Place) (rest : List ℕ) (ws : List Written) → IsCode p → is_seam 0 rest ≡ true → Lexes p false rest ws → Lexes p false (q.text ++ rest) (q.written ++ ws)

abbrev pub AllRead : List Piece → Type 0
AllRead [] = Unit {0}
AllRead (q ∷ qs) = ReadsPiece q × AllRead qs

abbrev pub piece_texts : List Piece → List (List ℕ)
piece_texts qs = map (λ (q : Piece). q.text) qs

abbrev pub more_text : List ℕ → List Piece → List ℕ
more_text s [] = []
more_text s (q ∷ qs) = s ++ (q.text ++ more_text s qs)

abbrev pub more_written : Written → List Piece → List Written
more_written m [] = []
more_written m (q ∷ qs) = m ∷ (q.written ++ more_written m qs)

-- the elements of a list
abbrev pub item_pieces : ℕ → Row Var Name → List Piece
item_pieces n end = []
item_pieces n (kid x e r) = piece (at 0 (layout e)) (yield (suc n) free (tree_of e)) ∷ item_pieces n r

-- labels
abbrev pub key_pieces : ℕ → List Name → List Piece
key_pieces n [] = []
key_pieces n (x ∷ xs) = piece (label x) (name n free (label_token x) ∷ []) ∷ key_pieces n xs

-- the fields of a record type, and the entries of a record
abbrev pub type_pieces : ℕ → List Name → Row Var Name → List Piece
type_pieces n (x ∷ xs) (kid b e r) = piece (label x ++ codes " : " ++ at 0 (layout e)) (name n free (label_token x) ∷ mark n free marks.Colon ∷ yield (suc n) apart (tree_of e)) ∷ type_pieces n xs r
type_pieces n _ _ = []

abbrev pub entry_pieces : ℕ → List Name → Row Var Name → List Piece
entry_pieces n (x ∷ xs) (kid b e r) = piece (label x ++ codes " = " ++ at 0 (layout e)) (name n free (label_token x) ∷ mark n free marks.Equals ∷ yield (suc n) free (tree_of e)) ∷ entry_pieces n xs r
entry_pieces n _ _ = []
