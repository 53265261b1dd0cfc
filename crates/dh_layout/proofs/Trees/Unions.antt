-- Unions.
use Rattle.std.proofs.Common.{◌≡◌, ℕ, suc, true, false, not, List, [], ◌∷◌, ◌++◌, Option, Some, None, codes, append_assoc, append-nil, refl, sym, ap, subst, ◌∙◌}
use Rattle.std.specs.List.{list_all}
use Rattle.dh_syntax.specs.declared.expressions.Alt.{Alt}
use Rattle.dh_syntax.specs.declared.expressions.Op.TheVariants as ops
use Rattle.dh_syntax.specs.declared.tokens.Mark.TheVariants as marks
use Rattle.dh_syntax.specs.declared.tokens.TokenKind.TheVariants as kinds
use Rattle.dh_syntax.specs.Text.Characters.{is_quoted_label_byte}
use Rattle.dh_syntax.specs.Text.Derivation as d
use Rattle.dh_syntax.specs.Text.Derivation.{Derivation, Alternatives}
use Rattle.dh_syntax.specs.Text.Derived.{alternatives_derived, alternative_labels, among}
use Rattle.dh_syntax.specs.Text.Meaning as m
use Rattle.dh_syntax.specs.Text.Meaning.{meaning}
use Rattle.dh_syntax.specs.Expressions.Order.{before, ascending}
use Rattle.dh_syntax.specs.Text.Printed.{layout, layouts, at, label, separated, texts, alternatives}
use Rattle.dh_syntax.specs.Expressions.Tree.{Row, Term, Node, end, kid, Name, Var}
use Rattle.dh_syntax.specs.Text.Yield.{mark, name, yield, alternatives_yield, free, apart}
use Rattle.dh_layout.proofs.Trees.Good.{Good}
use Rattle.dh_layout.proofs.Trees.Pieces.{Piece, piece, ReadsPiece, AllRead, piece_texts, more_written}
use Rattle.dh_layout.proofs.Trees.Trees.{tree_of, trees_of, alternatives_from, label_token, label_key, node_tree}
use Rattle.dh_layout.proofs.Reading.Walks.{Lexes}
use Rattle.dh_layout.proofs.Reading.Walk.{give, regrouped, space, loose}
use Rattle.dh_layout.proofs.Reading.Tokens.{mid, label_token_read, label_is, name_ends}
use Rattle.dh_layout.proofs.Trees.Levels.{both}
use Rattle.dh_layout.proofs.Trees.Rows.{Separates, row_read, Follows, follows, put_last, names_last, not_among, type_read}

-- alternatives with their types
pub data Choice : Type 0 where
  untyped : Name → Choice
  typed : Name → Term → Choice

abbrev pub alts_of : List Choice → List Alt
alts_of [] = []
alts_of (untyped x ∷ es) = record { label = x; typed = false } ∷ alts_of es
alts_of (typed x e ∷ es) = record { label = x; typed = true } ∷ alts_of es

abbrev pub row_of : List Choice → Row Var Name
row_of [] = end
row_of (untyped x ∷ es) = row_of es
row_of (typed x e ∷ es) = kid None e (row_of es)

abbrev pub pairs_of : List Choice → List (Name × Option Term)
pairs_of [] = []
pairs_of (untyped x ∷ es) = (x, None) ∷ pairs_of es
pairs_of (typed x e ∷ es) = (x, Some e) ∷ pairs_of es

abbrev pub choice_pieces : ℕ → List Choice → List Piece
choice_pieces n [] = []
choice_pieces n (untyped x ∷ es) = piece (label x) (name n free (label_token x) ∷ []) ∷ choice_pieces n es
choice_pieces n (typed x e ∷ es) = piece (label x ++ codes " : " ++ at 0 (layout e)) (name n free (label_token x) ∷ mark n free marks.Colon ∷ yield (suc n) apart (tree_of e)) ∷ choice_pieces n es

abbrev pub AreGoodChoices : List Choice → Type 0
AreGoodChoices [] = Unit {0}
AreGoodChoices (untyped x ∷ es) = (list_all is_quoted_label_byte x ≡ true) × AreGoodChoices es
AreGoodChoices (typed x e ∷ es) = (list_all is_quoted_label_byte x ≡ true) × Good e (tree_of e) × AreGoodChoices es

abbrev pub names_of : List Choice → List Name
names_of [] = []
names_of (untyped x ∷ es) = x ∷ names_of es
names_of (typed x e ∷ es) = x ∷ names_of es

choice_texts : (n : ℕ) (es : List Choice) → alternatives (alts_of es) (texts (layouts (row_of es))) ≡ piece_texts (choice_pieces n es)
choice_texts n [] = refl
choice_texts n (untyped x ∷ es) = ap (λ t. label x ∷ t) (choice_texts n es)
choice_texts n (typed x e ∷ es) = ap (λ t. (label x ++ codes " : " ++ at 0 (layout e)) ∷ t) (choice_texts n es)

choices_written : (n : ℕ) (as' : Alternatives) (es : List Choice) → alternatives_yield n (alternatives_from as' (alts_of es) (trees_of (row_of es))) ≡ alternatives_yield n as' ++ more_written (mark n free marks.Bar) (choice_pieces n es)
choices_written n as' [] = sym (append-nil (alternatives_yield n as'))
choices_written n as' (untyped x ∷ es) =
    choices_written n (d.more_alternatives as' (label_key x) d.untyped) es
    ∙ append_assoc (alternatives_yield n as') (mark n free marks.Bar ∷ name n free (label_token x) ∷ []) (more_written (mark n free marks.Bar) (choice_pieces n es))
choices_written n as' (typed x e ∷ es) =
    choices_written n (d.more_alternatives as' (label_key x) (d.typed (tree_of e))) es
    ∙ append_assoc (alternatives_yield n as') (mark n free marks.Bar ∷ name n free (label_token x) ∷ mark n free marks.Colon ∷ yield (suc n) apart (tree_of e)) (more_written (mark n free marks.Bar) (choice_pieces n es))

choices_read : (n : ℕ) (es : List Choice) → AreGoodChoices es → AllRead (choice_pieces n es)
choices_read n [] h = tt
choices_read n (untyped x ∷ es) h = (λ p rest ws c seam after. label_token_read p false x rest n ws c h.0 (name_ends 0 rest seam) after, choices_read n es h.1)
choices_read n (typed x e ∷ es) h = (type_read n x e h.0 h.1, choices_read n es h.2)

-- one more, behind those before it
one_more : (x : Name) (o u : Option Term) (es : List (Name × Option Term)) (ys : List Name) → m.names es ≡ ys → list_all (λ y. before y x) ys ≡ true → o ≡ u
    → m.insert (d.key_label (label_key x), o) es ≡ es ++ (x, u) ∷ []
one_more x o u es ys e f same =
    let k = d.key_label (label_key x) in
    let ordered : list_all (λ y. before y k) (m.names es) ≡ true = ap (λ n. list_all (λ y. before y k) n) e ∙ ap (λ n. list_all (λ y. before y n) ys) (label_is x) ∙ f in
    put_last (λ a b. a) (k, o) es ordered ∙ ap (λ n. es ++ (n, o) ∷ []) (label_is x) ∙ ap (λ v. es ++ (x, v) ∷ []) same

choices_mean : (as' : Alternatives) (ys : List Name) (es : List Choice) → m.names (m.alternatives as') ≡ ys → Follows ys (names_of es) → AreGoodChoices es
    → m.alternatives (alternatives_from as' (alts_of es) (trees_of (row_of es))) ≡ m.alternatives as' ++ pairs_of es
choices_mean as' ys [] e f h = sym (append-nil (m.alternatives as'))
choices_mean as' ys (untyped x ∷ es) e f h =
    let next = one_more x None None (m.alternatives as') ys e f.0 refl in
    choices_mean (d.more_alternatives as' (label_key x) d.untyped) (ys ++ x ∷ []) es (ap m.names next ∙ names_last (m.alternatives as') (x, None) ∙ ap (λ n. n ++ x ∷ []) e) f.1 h.1
    ∙ ap (λ l. l ++ pairs_of es) next ∙ append_assoc (m.alternatives as') ((x, None) ∷ []) (pairs_of es)
choices_mean as' ys (typed x t ∷ es) e f h =
    let next = one_more x (Some (meaning (tree_of t))) (Some t) (m.alternatives as') ys e f.0 (ap Some h.1.means) in
    choices_mean (d.more_alternatives as' (label_key x) (d.typed (tree_of t))) (ys ++ x ∷ []) es (ap m.names next ∙ names_last (m.alternatives as') (x, Some t) ∙ ap (λ n. n ++ x ∷ []) e) f.1 h.2
    ∙ ap (λ l. l ++ pairs_of es) next ∙ append_assoc (m.alternatives as') ((x, Some t) ∷ []) (pairs_of es)

choices_derived : (as' : Alternatives) (ys : List Name) (es : List Choice) → alternative_labels as' ≡ ys → Follows ys (names_of es) → AreGoodChoices es → alternatives_derived as' ≡ true
    → alternatives_derived (alternatives_from as' (alts_of es) (trees_of (row_of es))) ≡ true
choices_derived as' ys [] e f h t = t
choices_derived as' ys (untyped x ∷ es) e f h t =
    let k = d.key_label (label_key x) in
    let fresh : not (among k (alternative_labels as')) ≡ true = ap (λ l. not (among k l)) e ∙ ap (λ n. not (among n ys)) (label_is x) ∙ not_among x ys f.0 in
    choices_derived (d.more_alternatives as' (label_key x) d.untyped) (ys ++ x ∷ []) es (ap (λ l. l ++ k ∷ []) e ∙ ap (λ n. ys ++ n ∷ []) (label_is x)) f.1 h.1 (both (both t fresh) refl)
choices_derived as' ys (typed x u ∷ es) e f h t =
    let k = d.key_label (label_key x) in
    let fresh : not (among k (alternative_labels as')) ≡ true = ap (λ l. not (among k l)) e ∙ ap (λ n. not (among n ys)) (label_is x) ∙ not_among x ys f.0 in
    choices_derived (d.more_alternatives as' (label_key x) (d.typed (tree_of u))) (ys ++ x ∷ []) es (ap (λ l. l ++ k ∷ []) e ∙ ap (λ n. ys ++ n ∷ []) (label_is x)) f.1 h.2 (both (both t fresh) h.1.is_derived)

again_alts : (es : List Choice) → m.alternatives_of (pairs_of es) ≡ alts_of es
again_alts [] = refl
again_alts (untyped x ∷ es) = ap (λ t. record { label = x; typed = false } ∷ t) (again_alts es)
again_alts (typed x e ∷ es) = ap (λ t. record { label = x; typed = true } ∷ t) (again_alts es)

again_row : (es : List Choice) → m.types_of (pairs_of es) ≡ row_of es
again_row [] = refl
again_row (untyped x ∷ es) = again_row es
again_row (typed x e ∷ es) = ap (λ t. kid None e t) (again_row es)

bar : (n : ℕ) → Separates (codes " | ") (mark n free marks.Bar)
bar n p rest ws c h = mid p false 124 [] rest (kinds.Mark marks.Bar) n ws c (λ b. tt) (λ at. refl) refl refl refl (loose p rest ws h)

-- by the first alternative
by_first : (es : List Choice) (one : Alternatives) (x : Name) (q : ℕ → Piece) (e : Choice) → AreGoodChoices (e ∷ es) → names_of (e ∷ es) ≡ x ∷ names_of es → ascending (x ∷ names_of es) ≡ true
    → m.alternatives one ≡ pairs_of (e ∷ []) → pairs_of (e ∷ []) ++ pairs_of es ≡ pairs_of (e ∷ es) → m.names (pairs_of (e ∷ [])) ≡ x ∷ [] → alternative_labels one ≡ x ∷ [] → alternatives_derived one ≡ true
    → ((n : ℕ) → choice_pieces n (e ∷ es) ≡ q n ∷ choice_pieces n es) → ((n : ℕ) → alternatives_yield n one ≡ (q n).written) → ((n : ℕ) → ReadsPiece (q n)) → AllRead [] → AreGoodChoices es
    → (layout (Node (ops.Union (alts_of (e ∷ es))) (row_of (e ∷ es))) ≡ record { level = 17; text = codes "< " ++ separated (codes " | ") (alternatives (alts_of (e ∷ es)) (texts (layouts (row_of (e ∷ es))))) ++ codes " >"; bare = false })
    → Good (Node (ops.Union (alts_of (e ∷ es))) (row_of (e ∷ es))) (d.union false (alternatives_from one (alts_of es) (trees_of (row_of es))) false)
by_first es one x q e h names' up mean1 pairs' names1 labels1 derived1 pieces' yield1 read1 unit good shown =
    let f = follows x (names_of es) up in
    let mean' : m.alternatives (alternatives_from one (alts_of es) (trees_of (row_of es))) ≡ pairs_of (e ∷ es) = choices_mean one (x ∷ []) es (ap m.names mean1 ∙ names1) f good ∙ ap (λ l. l ++ pairs_of es) mean1 ∙ pairs' in
    record {
      means = ap (λ l. Node (ops.Union (m.alternatives_of l)) (m.types_of l)) mean' ∙ ap (λ l. Node (ops.Union l) (m.types_of (pairs_of (e ∷ es)))) (again_alts (e ∷ es)) ∙ ap (λ r. Node (ops.Union (alts_of (e ∷ es))) r) (again_row (e ∷ es));
      is_derived = choices_derived one (x ∷ []) es labels1 f good derived1;
      levels = ap (λ l. l.level) shown;
      bares = ap (λ l. l.bare) shown;
      reads = λ n g p rest ws c seam after.
          let qs = choice_pieces n es in
          let row = row_read (codes " | ") (mark n free marks.Bar) (q n) qs (bar n) (λ t. refl) (read1 n) (choices_read n es good) in
          let w = (q n).written ++ more_written (mark n free marks.Bar) qs in
          let close = mark n free marks.AngleClose ∷ [] in
          let texts' : alternatives (alts_of (e ∷ es)) (texts (layouts (row_of (e ∷ es)))) ≡ piece_texts (q n ∷ qs) = choice_texts n (e ∷ es) ∙ ap piece_texts (pieces' n) in
          let written' : alternatives_yield n (alternatives_from one (alts_of es) (trees_of (row_of es))) ≡ w = choices_written n one es ∙ ap (λ v. v ++ more_written (mark n free marks.Bar) qs) (yield1 n) in
          subst (λ l. Lexes p g (l.text ++ rest) (yield n g (d.union false (alternatives_from one (alts_of es) (trees_of (row_of es))) false) ++ ws)) (sym shown)
          (subst (λ t. Lexes p g ((codes "< " ++ separated (codes " | ") t ++ codes " >") ++ rest) (yield n g (d.union false (alternatives_from one (alts_of es) (trees_of (row_of es))) false) ++ ws)) (sym texts')
          (subst (λ v. Lexes p g ((codes "< " ++ separated (codes " | ") (piece_texts (q n ∷ qs)) ++ codes " >") ++ rest) ((mark n g marks.AngleOpen ∷ v ++ [] ++ close) ++ ws)) (sym written')
          (regrouped p g (codes "< ") (separated (codes " | ") (piece_texts (q n ∷ qs)) ∷ codes " >" ∷ []) rest (mark n g marks.AngleOpen ∷ []) (w ∷ [] ∷ close ∷ []) ws
          (give p g 60 [] _ (kinds.Mark marks.AngleOpen) n _ c (λ b. tt) refl refl refl (λ at.
          space p _ _ c (loose p _ _
          (row p _ _ c refl
          (space p _ _ c (loose p _ _
          (give p false 62 [] rest (kinds.Mark marks.AngleClose) n ws c (λ b. tt) refl refl refl (λ at. after)))))))))));
    }

pub good_choices : (e : Choice) (es : List Choice) → AreGoodChoices (e ∷ es) → ascending (names_of (e ∷ es)) ≡ true → Good (Node (ops.Union (alts_of (e ∷ es))) (row_of (e ∷ es))) (node_tree (ops.Union (alts_of (e ∷ es))) (trees_of (row_of (e ∷ es))))
good_choices (untyped x) es h up =
    by_first es (d.one_alternative (label_key x) d.untyped) x (λ n. piece (label x) (name n free (label_token x) ∷ [])) (untyped x) h refl up (ap (λ n. (n, None) ∷ []) (label_is x)) refl refl (ap (λ n. n ∷ []) (label_is x)) refl
    (λ n. refl) (λ n. refl) (λ n p rest ws c seam after. label_token_read p false x rest n ws c h.0 (name_ends 0 rest seam) after) tt h.1 refl
good_choices (typed x t) es h up =
    by_first es (d.one_alternative (label_key x) (d.typed (tree_of t))) x (λ n. piece (label x ++ codes " : " ++ at 0 (layout t)) (name n free (label_token x) ∷ mark n free marks.Colon ∷ yield (suc n) apart (tree_of t))) (typed x t) h refl up
    (ap (λ n. (n, Some (meaning (tree_of t))) ∷ []) (label_is x) ∙ ap (λ v. (x, Some v) ∷ []) h.1.means) refl refl (ap (λ n. n ∷ []) (label_is x)) h.1.is_derived
    (λ n. refl) (λ n. refl) (λ n. type_read n x t h.0 h.1) tt h.2 refl
