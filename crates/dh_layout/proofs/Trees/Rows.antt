-- Texts in a row are read as their tokens.
use Rattle.std.proofs.Common.{◌≡◌, ℕ, suc, Bool, true, false, not, ◌||◌, List, [], ◌∷◌, ◌++◌, map, cond, Some, None, codes, append_assoc, append-nil, refl, sym, ap, subst, ◌∙◌}
use Rattle.std.proofs.lemmas.Bool.{and_parts, both_ways}
use Rattle.std.specs.List.{list_all}
use Rattle.dh_syntax.specs.declared.expressions.Op.TheVariants as ops
use Rattle.dh_syntax.specs.declared.tokens.Keyword.TheVariants as keywords
use Rattle.dh_syntax.specs.declared.tokens.Mark.{Mark}
use Rattle.dh_syntax.specs.declared.tokens.Mark.TheVariants as marks
use Rattle.dh_syntax.specs.declared.tokens.TokenKind.TheVariants as kinds
use Rattle.dh_syntax.specs.Text.Characters.{is_quoted_label_byte}
use Rattle.dh_syntax.specs.Text.Derivation as d
use Rattle.dh_syntax.specs.Text.Derivation.{Derivation, Items, Keys, Fields, Entries}
use Rattle.dh_syntax.specs.Text.Derived.{items_derived, fields_derived, entries_derived, field_labels, among, distinct}
use Rattle.dh_syntax.specs.Text.Lexing.{Place, Outside, Interpolated, Among}
use Rattle.dh_syntax.specs.Text.Meaning as m
use Rattle.dh_syntax.specs.Text.Meaning.{meaning, parts, items}
use Rattle.dh_syntax.specs.Text.Printed.{layout, layouts, at, label, separated, texts, list_text, braced}
use Rattle.dh_syntax.specs.Expressions.Tree.{Row, Term, Node, end, kid, Name, Var}
use Rattle.dh_syntax.specs.Text.Yield.{Written, mark, keyword, name, yield, items_yield, keys_yield, fields_yield, entries_yield, free, apart}
use Rattle.dh_layout.proofs.Reading.Ends.{is_seam, is_name_end}
use Rattle.dh_layout.proofs.Trees.Good.{Good}
use Rattle.dh_layout.proofs.Trees.Pieces.{Piece, piece, ReadsPiece, AllRead, piece_texts, more_text, more_written, item_pieces, key_pieces, type_pieces, entry_pieces}
use Rattle.dh_layout.proofs.Trees.Trees.{bare, tree_of, trees_of, items_from, keys_from, fields_from, entries_from, entry_of, label_token, label_key, at_tree}
use Rattle.dh_layout.proofs.Reading.Walks.{IsCode, Lexes}
use Rattle.dh_syntax.specs.Text.Printed as printed
use Rattle.dh_syntax.specs.Expressions.Numbers as equal
use Rattle.dh_syntax.specs.Expressions.Order.{before, ascending}
use Rattle.dh_syntax.proofs.Order.{before_irreflexive, before-transitive}
use Rattle.dh_syntax.proofs.Numbers.{bytes_eq-true}
use Rattle.dh_layout.proofs.Reading.Walks.{braced as braced_place}
use Rattle.dh_layout.proofs.Reading.Walk.{give, text_regrouped, regrouped, space, loose, open_brace, close_brace}
use Rattle.dh_layout.proofs.Reading.Tokens.{mid, mid_word, label_token_read, label_is, dot_label, name_ends}
use Rattle.dh_layout.proofs.Trees.Levels.{both, fits, whole}

pub separated_is : (s : List ℕ) (q : Piece) (qs : List Piece) → separated s (piece_texts (q ∷ qs)) ≡ q.text ++ more_text s qs
separated_is s q [] = sym (append-nil q.text)
separated_is s q (r ∷ qs) = ap (λ t. q.text ++ s ++ t) (separated_is s r qs) ∙ append_assoc q.text s (r.text ++ more_text s qs)

more_seam : (s : List ℕ) (qs : List Piece) (rest : List ℕ) → ((t : List ℕ) → is_seam 0 (s ++ t) ≡ true) → is_seam 0 rest ≡ true → is_seam 0 (more_text s qs ++ rest) ≡ true
more_seam s [] rest h e = e
more_seam s (q ∷ qs) rest h e = subst (λ t. is_seam 0 t ≡ true) (sym (append_assoc s (q.text ++ more_text s qs) rest)) (h ((q.text ++ more_text s qs) ++ rest))

-- how a separator is read
abbrev pub Separates : List ℕ → Written → Type 0
Separates s v = (p : Place) (rest : List ℕ) (ws : List Written) → IsCode p → Lexes p false rest ws → Lexes p false (s ++ rest) (v ∷ ws)

more_read : (s : List ℕ) (v : Written) (qs : List Piece) → Separates s v → ((t : List ℕ) → is_seam 0 (s ++ t) ≡ true) → AllRead qs
    → (p : Place) (rest : List ℕ) (ws : List Written) → IsCode p → is_seam 0 rest ≡ true → Lexes p false rest ws → Lexes p false (more_text s qs ++ rest) (more_written v qs ++ ws)
more_read s v [] sep seam all p rest ws c e h = h
more_read s v (q ∷ qs) sep seam all p rest ws c e h =
    let inner = more_read s v qs sep seam all.1 p rest ws c e h in
    let here = all.0 p (more_text s qs ++ rest) (more_written v qs ++ ws) c (more_seam s qs rest seam e) inner in
    let texts' : (s ++ (q.text ++ more_text s qs)) ++ rest ≡ s ++ (q.text ++ (more_text s qs ++ rest)) =
    append_assoc s (q.text ++ more_text s qs) rest ∙ ap (λ t. s ++ t) (append_assoc q.text (more_text s qs) rest) in
    let written : (q.written ++ more_written v qs) ++ ws ≡ q.written ++ (more_written v qs ++ ws) = append_assoc q.written (more_written v qs) ws in
    subst (λ t. Lexes p false t (v ∷ ((q.written ++ more_written v qs) ++ ws))) (sym texts')
    (subst (λ w. Lexes p false (s ++ (q.text ++ (more_text s qs ++ rest))) (v ∷ w)) (sym written) (sep p _ _ c here))

-- a row with its separators
pub row_read : (s : List ℕ) (v : Written) (q : Piece) (qs : List Piece) → Separates s v → ((t : List ℕ) → is_seam 0 (s ++ t) ≡ true) → ReadsPiece q → AllRead qs
    → ReadsPiece (piece (separated s (piece_texts (q ∷ qs))) (q.written ++ more_written v qs))
row_read s v q qs sep seam one all p rest ws c e h =
    let inner = one p (more_text s qs ++ rest) (more_written v qs ++ ws) c (more_seam s qs rest seam e) (more_read s v qs sep seam all p rest ws c e h) in
    subst (λ t. Lexes p false (t ++ rest) ((q.written ++ more_written v qs) ++ ws)) (sym (separated_is s q qs))
    (subst (λ t. Lexes p false t ((q.written ++ more_written v qs) ++ ws)) (sym (append_assoc q.text (more_text s qs) rest))
    (subst (λ w. Lexes p false (q.text ++ (more_text s qs ++ rest)) w) (sym (append_assoc q.written (more_written v qs) ws)) inner))

comma : (n : ℕ) → Separates (codes ", ") (mark n free marks.Comma)
comma n p rest ws c h = give p false 44 [] _ (kinds.Mark marks.Comma) n ws c (λ b. tt) refl refl refl (λ at. space p rest ws c (loose p rest ws h))

-- ---- lists

-- every part, none under a binder, is as its tree says
abbrev pub AreGood : Row Var Name → Type 0
AreGood end = Unit {0}
AreGood (kid None e r) = Good e (tree_of e) × AreGood r
AreGood (kid (Some x) e r) = ⊥

abbrev pub terms_of : Row Var Name → List Term
terms_of end = []
terms_of (kid x e r) = e ∷ terms_of r

pub texts_are : (n : ℕ) (r : Row Var Name) → texts (layouts r) ≡ piece_texts (item_pieces n r)
texts_are n end = refl
texts_are n (kid None e r) = ap (λ t. at 0 (layout e) ∷ t) (texts_are n r)
texts_are n (kid (Some x) e r) = ap (λ t. at 0 (layout e) ∷ t) (texts_are n r)

items_written : (n : ℕ) (is : Items) (r : Row Var Name) → AreGood r → items_yield n (items_from is (trees_of r)) ≡ items_yield n is ++ more_written (mark n free marks.Comma) (item_pieces n r)
items_written n is end h = sym (append-nil (items_yield n is))
items_written n is (kid None e r) h =
    items_written n (d.more_items is (tree_of e)) r h.1
    ∙ append_assoc (items_yield n is) (mark n free marks.Comma ∷ yield (suc n) free (tree_of e)) (more_written (mark n free marks.Comma) (item_pieces n r))
items_written n is (kid (Some x) e r) h = absurd h

items_mean : (is : Items) (r : Row Var Name) → AreGood r → items (items_from is (trees_of r)) ≡ items is ++ terms_of r
items_mean is end h = sym (append-nil (items is))
items_mean is (kid None e r) h =
    items_mean (d.more_items is (tree_of e)) r h.1
    ∙ append_assoc (items is) (meaning (tree_of e) ∷ []) (terms_of r) ∙ ap (λ t. items is ++ t ∷ terms_of r) h.0.means
items_mean is (kid (Some x) e r) h = absurd h

items_are_derived : (is : Items) (r : Row Var Name) → AreGood r → items_derived is ≡ true → items_derived (items_from is (trees_of r)) ≡ true
items_are_derived is end h e = e
items_are_derived is (kid None t r) h e = items_are_derived (d.more_items is (tree_of t)) r h.1 (both e h.0.is_derived)
items_are_derived is (kid (Some x) t r) h e = absurd h

pub row_again : (r : Row Var Name) → AreGood r → parts (terms_of r) ≡ r
row_again end h = refl
row_again (kid None e r) h = ap (λ t. kid None e t) (row_again r h.1)
row_again (kid (Some x) e r) h = absurd h

items_read : (n : ℕ) (r : Row Var Name) → AreGood r → AllRead (item_pieces n r)
items_read n end h = tt
items_read n (kid None e r) h = (λ p rest ws c seam after. (whole e (tree_of e) h.0).reads (suc n) false p rest ws c seam after, items_read n r h.1)
items_read n (kid (Some x) e r) h = absurd h

pub good_list : (e : Term) (r : Row Var Name) → Good e (tree_of e) → AreGood r → Good (Node ops.List (kid None e r)) (d.list false (items_from (d.one_item (tree_of e)) (trees_of r)) false)
good_list e r ge gr =
    let t = tree_of e in
    let first' = d.one_item t in
    record {
      means = ap (λ es. Node ops.List (parts es)) (items_mean first' r gr ∙ ap (λ u. u ∷ terms_of r) ge.means) ∙ ap (λ row. Node ops.List (kid None e row)) (row_again r gr);
      is_derived = items_are_derived first' r gr ge.is_derived;
      levels = refl;
      bares = refl;
      reads = λ n g p rest ws c seam after.
          let q = piece (at 0 (layout e)) (yield (suc n) free t) in
          let qs = item_pieces n r in
          let row = row_read (codes ", ") (mark n free marks.Comma) q qs (comma n) (λ t. refl) (λ p rest ws c seam after. (whole e t ge).reads (suc n) false p rest ws c seam after) (items_read n r gr) in
          subst (λ w. Lexes p g (list_text (texts (layouts (kid None e r))) ++ rest) ((mark n g marks.BracketOpen ∷ w ++ [] ++ mark n free marks.BracketClose ∷ []) ++ ws)) (sym (items_written n first' r gr))
          (subst (λ ts. Lexes p g (list_text (at 0 (layout e) ∷ ts) ++ rest) ((mark n g marks.BracketOpen ∷ (q.written ++ more_written (mark n free marks.Comma) qs) ++ [] ++ mark n free marks.BracketClose ∷ []) ++ ws)) (sym (texts_are n r))
          (regrouped p g (codes "[ ") (separated (codes ", ") (piece_texts (q ∷ qs)) ∷ codes " ]" ∷ []) rest (mark n g marks.BracketOpen ∷ []) ((q.written ++ more_written (mark n free marks.Comma) qs) ∷ [] ∷ (mark n free marks.BracketClose ∷ []) ∷ []) ws
          (give p g 91 [] _ (kinds.Mark marks.BracketOpen) n _ c (λ b. tt) refl refl refl (λ at.
          space p _ _ c (loose p _ _
          (row p _ _ c refl
          (space p _ _ c (loose p _ _
          (give p false 93 [] rest (kinds.Mark marks.BracketClose) n ws c (λ b. tt) refl refl refl (λ at. after))))))))));
    }

-- ---- labels

keys_written : (n : ℕ) (g : Bool) (v : Mark) (ks : Keys) (xs : List Name) → keys_yield n g v (keys_from ks xs) ≡ keys_yield n g v ks ++ more_written (mark n free v) (key_pieces n xs)
keys_written n g v ks [] = sym (append-nil (keys_yield n g v ks))
keys_written n g v ks (x ∷ xs) =
    keys_written n g v (d.more_keys ks (label_key x)) xs
    ∙ append_assoc (keys_yield n g v ks) (mark n free v ∷ name n free (label_token x) ∷ []) (more_written (mark n free v) (key_pieces n xs))

key_texts : (n : ℕ) (xs : List Name) → map label xs ≡ piece_texts (key_pieces n xs)
key_texts n [] = refl
key_texts n (x ∷ xs) = ap (λ t. label x ∷ t) (key_texts n xs)

keys_read : (n : ℕ) (xs : List Name) → list_all (λ x. list_all is_quoted_label_byte x) xs ≡ true → AllRead (key_pieces n xs)
keys_read n [] h = tt
keys_read n (x ∷ xs) h =
    let parts' = and_parts (list_all is_quoted_label_byte x) (list_all (λ x. list_all is_quoted_label_byte x) xs) h in
    (λ p rest ws c seam after. label_token_read p false x rest n ws c parts'.0 (name_ends 0 rest seam) after, keys_read n xs parts'.1)

labels_mean : (ks : Keys) (xs : List Name) → d.labels (keys_from ks xs) ≡ d.labels ks ++ xs
labels_mean ks [] = sym (append-nil (d.labels ks))
labels_mean ks (x ∷ xs) = labels_mean (d.more_keys ks (label_key x)) xs ∙ append_assoc (d.labels ks) (d.key_label (label_key x) ∷ []) xs ∙ ap (λ t. d.labels ks ++ t ∷ xs) (label_is x)

-- labels with `.` between them
path_end : (n : ℕ) (xs : List Name) (rest : List ℕ) → is_name_end rest ≡ true → is_name_end (more_text (codes ".") (key_pieces n xs) ++ rest) ≡ true
path_end n [] rest h = h
path_end n (x ∷ xs) rest h = refl

path_read : (n : ℕ) (xs : List Name) (p : Place) (rest : List ℕ) (ws : List Written) → list_all (λ x. list_all is_quoted_label_byte x) xs ≡ true → IsCode p → is_name_end rest ≡ true
    → Lexes p false rest ws → Lexes p false (more_text (codes ".") (key_pieces n xs) ++ rest) (more_written (mark n free marks.Dot) (key_pieces n xs) ++ ws)
path_read n [] p rest ws q c e h = h
path_read n (x ∷ xs) p rest ws q c e h =
    let parts' = and_parts (list_all is_quoted_label_byte x) (list_all (λ x. list_all is_quoted_label_byte x) xs) q in
    let more = more_text (codes ".") (key_pieces n xs) in
    subst (λ t. Lexes p false (46 ∷ t) (mark n free marks.Dot ∷ name n free (label_token x) ∷ (more_written (mark n free marks.Dot) (key_pieces n xs) ++ ws))) (sym (append_assoc (label x) more rest))
    (dot_label p x (more ++ rest) n _ c (label_token_read p false x (more ++ rest) n _ c parts'.0 (path_end n xs rest e) (path_read n xs p rest ws parts'.1 c e h)))

pub good_update : (x : Name) (xs : List Name) (a b : Term) (s t : Derivation) → list_all (λ x. list_all is_quoted_label_byte x) (x ∷ xs) ≡ true → Good a s → Good b t
    → Good (Node (ops.With (x ∷ xs)) (kid None a (kid None b end))) (d.updates (d.one_update (at_tree 15 s) (keys_from (d.one_key (label_key x)) xs) (at_tree 1 t)))
good_update x xs a b s t q ga gb =
    let fa = fits 15 a s ga refl in
    let fb = fits 1 b t gb refl in
    let parts' = and_parts (list_all is_quoted_label_byte x) (list_all (λ x. list_all is_quoted_label_byte x) xs) q in
    let ks = keys_from (d.one_key (label_key x)) xs in
    record {
      means = let m = fa.means in let k = fb.means in let l = labels_mean (d.one_key (label_key x)) xs in let j = label_is x in cc;
      is_derived = both (both (both fa.level fb.level) fa.is_derived) fb.is_derived;
      levels = refl;
      bares = refl;
      reads = λ n g p rest ws c seam after.
          let key' = piece (label x) [] in
          let qs = key_pieces n xs in
          let shown = separated_is (codes ".") key' qs in
          subst (λ ts. Lexes p g ((at 15 (layout a) ++ codes " with " ++ separated (codes ".") (label x ∷ ts) ++ codes " = " ++ at 1 (layout b)) ++ rest) (yield n g (d.updates (d.one_update (at_tree 15 s) ks (at_tree 1 t))) ++ ws)) (sym (key_texts n xs))
          (subst (λ path. Lexes p g ((at 15 (layout a) ++ codes " with " ++ path ++ codes " = " ++ at 1 (layout b)) ++ rest) (yield n g (d.updates (d.one_update (at_tree 15 s) ks (at_tree 1 t))) ++ ws)) (sym shown)
          (subst (λ w. Lexes p g ((at 15 (layout a) ++ codes " with " ++ (label x ++ more_text (codes ".") qs) ++ codes " = " ++ at 1 (layout b)) ++ rest) ((yield n g (at_tree 15 s) ++ keyword n apart keywords.With ∷ w ++ mark n free marks.Equals ∷ yield n free (at_tree 1 t)) ++ ws)) (sym (keys_written n apart marks.Dot (d.one_key (label_key x)) xs))
          (regrouped p g (at 15 (layout a)) (codes " with " ∷ (label x ++ more_text (codes ".") qs) ∷ codes " = " ∷ at 1 (layout b) ∷ []) rest
          (yield n g (at_tree 15 s)) ((keyword n apart keywords.With ∷ name n apart (label_token x) ∷ more_written (mark n free marks.Dot) qs) ∷ (mark n free marks.Equals ∷ yield n free (at_tree 1 t)) ∷ []) ws
          (fa.reads n g p _ _ c refl
          (mid_word p true (codes "with") _ (kinds.Keyword keywords.With) n _ c refl refl (λ b. tt) (λ at. refl)
          (text_regrouped p true (label x) (more_text (codes ".") qs ∷ []) _ _
          (label_token_read p true x _ n _ c parts'.0 (path_end n xs _ refl)
          (path_read n xs p _ _ parts'.1 c refl
          (mid p false 61 [] _ (kinds.Mark marks.Equals) n _ c (λ b. tt) (λ at. refl) refl refl refl
          (loose p _ _ (fb.reads n false p rest ws c seam after)))))))))));
    }

-- ---- rows in the order of their labels

-- each of these labels comes behind those before it
abbrev pub Follows : List Name → List Name → Type 0
Follows ys [] = Unit {0}
Follows ys (x ∷ xs) = (list_all (λ y. before y x) ys ≡ true) × Follows (ys ++ x ∷ []) xs

later : (ys : List Name) (x z : Name) → list_all (λ y. before y x) ys ≡ true → before x z ≡ true → list_all (λ y. before y z) (ys ++ x ∷ []) ≡ true
later [] x z h b = both b refl
later (y ∷ ys) x z h b =
    let parts' = and_parts (before y x) (list_all (λ y. before y x) ys) h in
    both (before-transitive y x z parts'.0 b) (later ys x z parts'.1 b)

follows_from : (ys : List Name) (x : Name) (xs : List Name) → list_all (λ y. before y x) ys ≡ true → ascending (x ∷ xs) ≡ true → Follows (ys ++ x ∷ []) xs
follows_from ys x [] h a = tt
follows_from ys x (z ∷ zs) h a =
    let parts' = and_parts (before x z) (ascending (z ∷ zs)) a in
    let here = later ys x z h parts'.0 in
    (here, follows_from (ys ++ x ∷ []) z zs here parts'.1)

pub follows : (x : Name) (xs : List Name) → ascending (x ∷ xs) ≡ true → Follows (x ∷ []) xs
follows x xs a = follows_from [] x xs refl a

-- what comes before is another, and not behind
other : (y x : Name) → before y x ≡ true → equal.bytes_eq x y ≡ false
other y x b = by (equal.bytes_eq x y) refl
  where
    by : (t : Bool) → equal.bytes_eq x y ≡ t → equal.bytes_eq x y ≡ false
    by false e = e
    by true e = absurd (both_ways (before y x) (ap (before y) (bytes_eq-true x y e) ∙ before_irreflexive y) b)

behind : (y x : Name) → before y x ≡ true → before x y ≡ false
behind y x b = by (before x y) refl
  where
    by : (t : Bool) → before x y ≡ t → before x y ≡ false
    by false e = e
    by true e = absurd (both_ways (before y y) (before_irreflexive y) (before-transitive y x y b e))

pub put_last : {X : Type 0} (join : X → X → X) (p : Name × X) (es : List (Name × X)) → list_all (λ y. before y p.0) (m.names es) ≡ true → m.put join p es ≡ es ++ p ∷ []
put_last join p [] h = refl
put_last join p (e ∷ es) h =
    let parts' = and_parts (before e.0 p.0) (list_all (λ y. before y p.0) (m.names es)) h in
    ap (λ (b : Bool). cond b ((e.0, join e.1 p.1) ∷ es) (cond (before p.0 e.0) (p ∷ e ∷ es) (e ∷ m.put join p es))) (other e.0 p.0 parts'.0)
    ∙ ap (λ (b : Bool). cond b (p ∷ e ∷ es) (e ∷ m.put join p es)) (behind e.0 p.0 parts'.0)
    ∙ ap (λ t. e ∷ t) (put_last join p es parts'.1)

pub not_among : (x : Name) (ys : List Name) → list_all (λ y. before y x) ys ≡ true → not (among x ys) ≡ true
not_among x [] h = refl
not_among x (y ∷ ys) h =
    let parts' = and_parts (before y x) (list_all (λ y. before y x) ys) h in
    ap (λ (b : Bool). not (b || among x ys)) (other y x parts'.0) ∙ not_among x ys parts'.1

pub names_last : {X : Type 0} (es : List (Name × X)) (p : Name × X) → m.names (es ++ p ∷ []) ≡ m.names es ++ p.0 ∷ []
names_last [] p = refl
names_last (e ∷ es) p = ap (λ t. e.0 ∷ t) (names_last es p)

-- labels with their expressions
abbrev pub zipped : List Name → Row Var Name → List (Name × Term)
zipped (x ∷ xs) (kid b e r) = (x, e) ∷ zipped xs r
zipped _ _ = []

-- as many parts as labels
abbrev pub Fit : List Name → Row Var Name → Type 0
Fit [] end = Unit {0}
Fit (x ∷ xs) (kid None e r) = Good e (tree_of e) × Fit xs r
Fit _ _ = ⊥

-- ---- record types

fields_mean : (fs : Fields) (ys xs : List Name) (r : Row Var Name) → m.names (m.fields fs) ≡ ys → Follows ys xs → Fit xs r → m.fields (fields_from fs xs (trees_of r)) ≡ m.fields fs ++ zipped xs r
fields_mean fs ys [] end e f h = sym (append-nil (m.fields fs))
fields_mean fs ys [] (kid b t r) e f h = absurd h
fields_mean fs ys (x ∷ xs) end e f h = absurd h
fields_mean fs ys (x ∷ xs) (kid (Some y) t r) e f h = absurd h
fields_mean fs ys (x ∷ xs) (kid None t r) e f h =
    let k = d.key_label (label_key x) in
    let fs' = d.more_fields fs (label_key x) (tree_of t) in
    let pair : Name × Term = (k, meaning (tree_of t)) in
    let ordered : list_all (λ y. before y k) (m.names (m.fields fs)) ≡ true = ap (λ n. list_all (λ y. before y k) n) e ∙ ap (λ n. list_all (λ y. before y n) ys) (label_is x) ∙ f.0 in
    let last = put_last (λ a b. a) pair (m.fields fs) ordered in
    let names' : m.names (m.fields fs') ≡ ys ++ x ∷ [] = ap m.names last ∙ names_last (m.fields fs) pair ∙ ap (λ n. n ++ k ∷ []) e ∙ ap (λ n. ys ++ n ∷ []) (label_is x) in
    fields_mean fs' (ys ++ x ∷ []) xs r names' f.1 h.1
    ∙ ap (λ l. l ++ zipped xs r) last
    ∙ append_assoc (m.fields fs) (pair ∷ []) (zipped xs r)
    ∙ ap (λ n. m.fields fs ++ (n, meaning (tree_of t)) ∷ zipped xs r) (label_is x)
    ∙ ap (λ u. m.fields fs ++ (x, u) ∷ zipped xs r) h.0.means

zipped_names : (xs : List Name) (r : Row Var Name) → Fit xs r → m.names (zipped xs r) ≡ xs
zipped_names [] end h = refl
zipped_names [] (kid b e r) h = absurd h
zipped_names (x ∷ xs) end h = absurd h
zipped_names (x ∷ xs) (kid (Some y) e r) h = absurd h
zipped_names (x ∷ xs) (kid None e r) h = ap (λ t. x ∷ t) (zipped_names xs r h.1)

zipped_parts : (xs : List Name) (r : Row Var Name) → Fit xs r → parts (m.values (zipped xs r)) ≡ r
zipped_parts [] end h = refl
zipped_parts [] (kid b e r) h = absurd h
zipped_parts (x ∷ xs) end h = absurd h
zipped_parts (x ∷ xs) (kid (Some y) e r) h = absurd h
zipped_parts (x ∷ xs) (kid None e r) h = ap (λ t. kid None e t) (zipped_parts xs r h.1)

fields_are_derived : (fs : Fields) (ys xs : List Name) (r : Row Var Name) → field_labels fs ≡ ys → Follows ys xs → Fit xs r → fields_derived fs ≡ true → fields_derived (fields_from fs xs (trees_of r)) ≡ true
fields_are_derived fs ys [] end e f h t = t
fields_are_derived fs ys [] (kid b u r) e f h t = absurd h
fields_are_derived fs ys (x ∷ xs) end e f h t = absurd h
fields_are_derived fs ys (x ∷ xs) (kid (Some y) u r) e f h t = absurd h
fields_are_derived fs ys (x ∷ xs) (kid None u r) e f h t =
    let k = d.key_label (label_key x) in
    let fresh : not (among k (field_labels fs)) ≡ true = ap (λ l. not (among k l)) e ∙ ap (λ n. not (among n ys)) (label_is x) ∙ not_among x ys f.0 in
    fields_are_derived (d.more_fields fs (label_key x) (tree_of u)) (ys ++ x ∷ []) xs r (ap (λ l. l ++ k ∷ []) e ∙ ap (λ n. ys ++ n ∷ []) (label_is x)) f.1 h.1 (both (both t fresh) h.0.is_derived)

fields_written : (n : ℕ) (fs : Fields) (xs : List Name) (r : Row Var Name) → Fit xs r → fields_yield n (fields_from fs xs (trees_of r)) ≡ fields_yield n fs ++ more_written (mark n free marks.Comma) (type_pieces n xs r)
fields_written n fs [] end h = sym (append-nil (fields_yield n fs))
fields_written n fs [] (kid b e r) h = absurd h
fields_written n fs (x ∷ xs) end h = absurd h
fields_written n fs (x ∷ xs) (kid (Some y) e r) h = absurd h
fields_written n fs (x ∷ xs) (kid None e r) h =
    fields_written n (d.more_fields fs (label_key x) (tree_of e)) xs r h.1
    ∙ append_assoc (fields_yield n fs) (mark n free marks.Comma ∷ name n free (label_token x) ∷ mark n free marks.Colon ∷ yield (suc n) apart (tree_of e)) (more_written (mark n free marks.Comma) (type_pieces n xs r))

type_texts : (n : ℕ) (xs : List Name) (r : Row Var Name) → Fit xs r → printed.fields (codes " : ") xs (texts (layouts r)) ≡ piece_texts (type_pieces n xs r)
type_texts n [] end h = refl
type_texts n [] (kid b e r) h = absurd h
type_texts n (x ∷ xs) end h = absurd h
type_texts n (x ∷ xs) (kid (Some y) e r) h = absurd h
type_texts n (x ∷ xs) (kid None e r) h = ap (λ t. (label x ++ codes " : " ++ at 0 (layout e)) ∷ t) (type_texts n xs r h.1)

pub type_read : (n : ℕ) (x : Name) (e : Term) → list_all is_quoted_label_byte x ≡ true → Good e (tree_of e)
    → ReadsPiece (piece (label x ++ codes " : " ++ at 0 (layout e)) (name n free (label_token x) ∷ mark n free marks.Colon ∷ yield (suc n) apart (tree_of e)))
type_read n x e q g p rest ws c seam after =
    text_regrouped p false (label x) (codes " : " ∷ at 0 (layout e) ∷ []) rest _
    (label_token_read p false x _ n _ c q refl
    (mid p false 58 [] _ (kinds.Mark marks.Colon) n _ c (λ b. tt) (λ at. refl) refl refl refl
    ((whole e (tree_of e) g).reads (suc n) true p rest ws c seam after)))

types_read : (n : ℕ) (xs : List Name) (r : Row Var Name) → list_all (λ x. list_all is_quoted_label_byte x) xs ≡ true → Fit xs r → AllRead (type_pieces n xs r)
types_read n [] end q h = tt
types_read n [] (kid b e r) q h = absurd h
types_read n (x ∷ xs) end q h = absurd h
types_read n (x ∷ xs) (kid (Some y) e r) q h = absurd h
types_read n (x ∷ xs) (kid None e r) q h =
    let parts' = and_parts (list_all is_quoted_label_byte x) (list_all (λ x. list_all is_quoted_label_byte x) xs) q in
    (type_read n x e parts'.0 h.0, types_read n xs r parts'.1 h.1)

-- a row in braces
braced_read : (n : ℕ) (g : Bool) (p : Place) (t rest : List ℕ) (w ws : List Written) → ((p : Place) (rest : List ℕ) (ws : List Written) → IsCode p → is_seam 0 rest ≡ true → Lexes p false rest ws → Lexes p false (t ++ rest) (w ++ ws))
    → IsCode p → IsCode (braced_place p) → Lexes p false rest ws
    → Lexes p g ((codes "{ " ++ t ++ codes " }") ++ rest) ((mark n g marks.BraceOpen ∷ w ++ [] ++ mark n free marks.BraceClose ∷ []) ++ ws)
braced_read n g p t rest w ws row c k after =
    regrouped p g (codes "{ ") (t ∷ codes " }" ∷ []) rest (mark n g marks.BraceOpen ∷ []) (w ∷ [] ∷ (mark n free marks.BraceClose ∷ []) ∷ []) ws
    (open_brace p g _ n _ c refl
    (space (braced_place p) _ _ k (loose (braced_place p) _ _
    (row (braced_place p) _ _ k refl
    (space (braced_place p) _ _ k (loose (braced_place p) _ _
    (close_brace p false rest n ws c after)))))))

braced_code : (p : Place) → IsCode p → IsCode (braced_place p)
braced_code Outside c = tt
braced_code (Interpolated braces f from p) c = tt
braced_code (Among f from p) c = absurd c

pub good_record_type : (x : Name) (xs : List Name) (e : Term) (r : Row Var Name) → ascending (x ∷ xs) ≡ true → list_all (λ x. list_all is_quoted_label_byte x) (x ∷ xs) ≡ true → Good e (tree_of e) → Fit xs r
    → Good (Node (ops.RecordType (x ∷ xs)) (kid None e r)) (d.record_type false (fields_from (d.one_field (label_key x) (tree_of e)) xs (trees_of r)) false)
good_record_type x xs e r up q ge gr =
    let t = tree_of e in
    let one = d.one_field (label_key x) t in
    let f = follows x xs up in
    let parts' = and_parts (list_all is_quoted_label_byte x) (list_all (λ x. list_all is_quoted_label_byte x) xs) q in
    let front : m.fields one ≡ (x, e) ∷ [] = ap (λ n. (n, meaning t) ∷ []) (label_is x) ∙ ap (λ u. (x, u) ∷ []) ge.means in
    let row : m.fields (fields_from one xs (trees_of r)) ≡ (x, e) ∷ zipped xs r = fields_mean one (x ∷ []) xs r (ap m.names front) f gr ∙ ap (λ l. l ++ zipped xs r) front in
    record {
      means =
          ap (λ l. Node (ops.RecordType (m.names l)) (parts (m.values l))) row
          ∙ ap (λ l. Node (ops.RecordType (x ∷ l)) (kid None e (parts (m.values (zipped xs r))))) (zipped_names xs r gr)
          ∙ ap (λ u. Node (ops.RecordType (x ∷ xs)) (kid None e u)) (zipped_parts xs r gr);
      is_derived = fields_are_derived one (x ∷ []) xs r (ap (λ n. n ∷ []) (label_is x)) f gr ge.is_derived;
      levels = refl;
      bares = refl;
      reads = λ n g p rest ws c seam after.
          let q = piece (label x ++ codes " : " ++ at 0 (layout e)) (name n free (label_token x) ∷ mark n free marks.Colon ∷ yield (suc n) apart t) in
          let qs = type_pieces n xs r in
          let row = row_read (codes ", ") (mark n free marks.Comma) q qs (comma n) (λ t. refl) (type_read n x e parts'.0 ge) (types_read n xs r parts'.1 gr) in
          subst (λ w. Lexes p g (braced (printed.fields (codes " : ") (x ∷ xs) (texts (layouts (kid None e r)))) ++ rest) ((mark n g marks.BraceOpen ∷ w ++ [] ++ mark n free marks.BraceClose ∷ []) ++ ws)) (sym (fields_written n one xs r gr))
          (subst (λ ts. Lexes p g (braced (q.text ∷ ts) ++ rest) ((mark n g marks.BraceOpen ∷ (q.written ++ more_written (mark n free marks.Comma) qs) ++ [] ++ mark n free marks.BraceClose ∷ []) ++ ws)) (sym (type_texts n xs r gr))
          (braced_read n g p (separated (codes ", ") (piece_texts (q ∷ qs))) rest (q.written ++ more_written (mark n free marks.Comma) qs) ws row c (braced_code p c) after));
    }

-- ---- records

entries_mean : (es : Entries) (ys xs : List Name) (r : Row Var Name) → m.names (m.entries es) ≡ ys → Follows ys xs → Fit xs r → m.entries (entries_from es xs (trees_of r)) ≡ m.entries es ++ zipped xs r
entries_mean es ys [] end e f h = sym (append-nil (m.entries es))
entries_mean es ys [] (kid b t r) e f h = absurd h
entries_mean es ys (x ∷ xs) end e f h = absurd h
entries_mean es ys (x ∷ xs) (kid (Some y) t r) e f h = absurd h
entries_mean es ys (x ∷ xs) (kid None t r) e f h =
    let k = d.key_label (label_key x) in
    let es' = d.more_entries es (entry_of x (bare (tree_of t))) in
    let pair : Name × Term = (k, meaning (tree_of t)) in
    let ordered : list_all (λ y. before y k) (m.names (m.entries es)) ≡ true = ap (λ n. list_all (λ y. before y k) n) e ∙ ap (λ n. list_all (λ y. before y n) ys) (label_is x) ∙ f.0 in
    let last = put_last m.joined pair (m.entries es) ordered in
    let names' : m.names (m.entries es') ≡ ys ++ x ∷ [] = ap m.names last ∙ names_last (m.entries es) pair ∙ ap (λ n. n ++ k ∷ []) e ∙ ap (λ n. ys ++ n ∷ []) (label_is x) in
    entries_mean es' (ys ++ x ∷ []) xs r names' f.1 h.1
    ∙ ap (λ l. l ++ zipped xs r) last
    ∙ append_assoc (m.entries es) (pair ∷ []) (zipped xs r)
    ∙ ap (λ n. m.entries es ++ (n, meaning (tree_of t)) ∷ zipped xs r) (label_is x)
    ∙ ap (λ u. m.entries es ++ (x, u) ∷ zipped xs r) h.0.means

entries_are_derived : (es : Entries) (xs : List Name) (r : Row Var Name) → Fit xs r → entries_derived es ≡ true → entries_derived (entries_from es xs (trees_of r)) ≡ true
entries_are_derived es [] end h t = t
entries_are_derived es [] (kid b u r) h t = absurd h
entries_are_derived es (x ∷ xs) end h t = absurd h
entries_are_derived es (x ∷ xs) (kid (Some y) u r) h t = absurd h
entries_are_derived es (x ∷ xs) (kid None u r) h t = entries_are_derived (d.more_entries es (entry_of x (bare (tree_of u)))) xs r h.1 (both t h.0.is_derived)

entries_written : (n : ℕ) (es : Entries) (xs : List Name) (r : Row Var Name) → Fit xs r → entries_yield n (entries_from es xs (trees_of r)) ≡ entries_yield n es ++ more_written (mark n free marks.Comma) (entry_pieces n xs r)
entries_written n es [] end h = sym (append-nil (entries_yield n es))
entries_written n es [] (kid b e r) h = absurd h
entries_written n es (x ∷ xs) end h = absurd h
entries_written n es (x ∷ xs) (kid (Some y) e r) h = absurd h
entries_written n es (x ∷ xs) (kid None e r) h =
    entries_written n (d.more_entries es (entry_of x (bare (tree_of e)))) xs r h.1
    ∙ append_assoc (entries_yield n es) (mark n free marks.Comma ∷ name n free (label_token x) ∷ mark n free marks.Equals ∷ yield (suc n) free (tree_of e)) (more_written (mark n free marks.Comma) (entry_pieces n xs r))

entry_texts : (n : ℕ) (xs : List Name) (r : Row Var Name) → Fit xs r → printed.fields (codes " = ") xs (texts (layouts r)) ≡ piece_texts (entry_pieces n xs r)
entry_texts n [] end h = refl
entry_texts n [] (kid b e r) h = absurd h
entry_texts n (x ∷ xs) end h = absurd h
entry_texts n (x ∷ xs) (kid (Some y) e r) h = absurd h
entry_texts n (x ∷ xs) (kid None e r) h = ap (λ t. (label x ++ codes " = " ++ at 0 (layout e)) ∷ t) (entry_texts n xs r h.1)

entry_read : (n : ℕ) (x : Name) (e : Term) → list_all is_quoted_label_byte x ≡ true → Good e (tree_of e)
    → ReadsPiece (piece (label x ++ codes " = " ++ at 0 (layout e)) (name n free (label_token x) ∷ mark n free marks.Equals ∷ yield (suc n) free (tree_of e)))
entry_read n x e q g p rest ws c seam after =
    text_regrouped p false (label x) (codes " = " ∷ at 0 (layout e) ∷ []) rest _
    (label_token_read p false x _ n _ c q refl
    (mid p false 61 [] _ (kinds.Mark marks.Equals) n _ c (λ b. tt) (λ at. refl) refl refl refl
    (loose p _ _ ((whole e (tree_of e) g).reads (suc n) false p rest ws c seam after))))

entries_read : (n : ℕ) (xs : List Name) (r : Row Var Name) → list_all (λ x. list_all is_quoted_label_byte x) xs ≡ true → Fit xs r → AllRead (entry_pieces n xs r)
entries_read n [] end q h = tt
entries_read n [] (kid b e r) q h = absurd h
entries_read n (x ∷ xs) end q h = absurd h
entries_read n (x ∷ xs) (kid (Some y) e r) q h = absurd h
entries_read n (x ∷ xs) (kid None e r) q h =
    let parts' = and_parts (list_all is_quoted_label_byte x) (list_all (λ x. list_all is_quoted_label_byte x) xs) q in
    (entry_read n x e parts'.0 h.0, entries_read n xs r parts'.1 h.1)

pub good_record : (x : Name) (xs : List Name) (e : Term) (r : Row Var Name) → ascending (x ∷ xs) ≡ true → list_all (λ x. list_all is_quoted_label_byte x) (x ∷ xs) ≡ true → Good e (tree_of e) → Fit xs r
    → Good (Node (ops.Record (x ∷ xs)) (kid None e r)) (d.record_of false (entries_from (d.one_entry (entry_of x (bare (tree_of e)))) xs (trees_of r)) false)
good_record x xs e r up q ge gr =
    let t = tree_of e in
    let one = d.one_entry (entry_of x (bare t)) in
    let f = follows x xs up in
    let parts' = and_parts (list_all is_quoted_label_byte x) (list_all (λ x. list_all is_quoted_label_byte x) xs) q in
    let front : m.entries one ≡ (x, e) ∷ [] = ap (λ n. (n, meaning t) ∷ []) (label_is x) ∙ ap (λ u. (x, u) ∷ []) ge.means in
    let row : m.entries (entries_from one xs (trees_of r)) ≡ (x, e) ∷ zipped xs r = entries_mean one (x ∷ []) xs r (ap m.names front) f gr ∙ ap (λ l. l ++ zipped xs r) front in
    record {
      means =
          ap (λ l. Node (ops.Record (m.names l)) (parts (m.values l))) row
          ∙ ap (λ l. Node (ops.Record (x ∷ l)) (kid None e (parts (m.values (zipped xs r))))) (zipped_names xs r gr)
          ∙ ap (λ u. Node (ops.Record (x ∷ xs)) (kid None e u)) (zipped_parts xs r gr);
      is_derived = entries_are_derived one xs r gr ge.is_derived;
      levels = refl;
      bares = refl;
      reads = λ n g p rest ws c seam after.
          let q = piece (label x ++ codes " = " ++ at 0 (layout e)) (name n free (label_token x) ∷ mark n free marks.Equals ∷ yield (suc n) free t) in
          let qs = entry_pieces n xs r in
          let row = row_read (codes ", ") (mark n free marks.Comma) q qs (comma n) (λ t. refl) (entry_read n x e parts'.0 ge) (entries_read n xs r parts'.1 gr) in
          subst (λ w. Lexes p g (braced (printed.fields (codes " = ") (x ∷ xs) (texts (layouts (kid None e r)))) ++ rest) ((mark n g marks.BraceOpen ∷ w ++ [] ++ mark n free marks.BraceClose ∷ []) ++ ws)) (sym (entries_written n one xs r gr))
          (subst (λ ts. Lexes p g (braced (q.text ∷ ts) ++ rest) ((mark n g marks.BraceOpen ∷ (q.written ++ more_written (mark n free marks.Comma) qs) ++ [] ++ mark n free marks.BraceClose ∷ []) ++ ws)) (sym (entry_texts n xs r gr))
          (braced_read n g p (separated (codes ", ") (piece_texts (q ∷ qs))) rest (q.written ++ more_written (mark n free marks.Comma) qs) ws row c (braced_code p c) after));
    }

-- ---- projections

sorted_mean : (ks : Keys) (ys xs : List Name) → m.names (m.sorted ks) ≡ ys → Follows ys xs → m.names (m.sorted (keys_from ks xs)) ≡ ys ++ xs
sorted_mean ks ys [] e f = e ∙ sym (append-nil ys)
sorted_mean ks ys (x ∷ xs) e f =
    let k = d.key_label (label_key x) in
    let pair : Name × Unit {0} = (k, tt) in
    let ordered : list_all (λ y. before y k) (m.names (m.sorted ks)) ≡ true = ap (λ n. list_all (λ y. before y k) n) e ∙ ap (λ n. list_all (λ y. before y n) ys) (label_is x) ∙ f.0 in
    let last = put_last (λ a b. a) pair (m.sorted ks) ordered in
    let names' : m.names (m.sorted (d.more_keys ks (label_key x))) ≡ ys ++ x ∷ [] = ap m.names last ∙ names_last (m.sorted ks) pair ∙ ap (λ n. n ++ k ∷ []) e ∙ ap (λ n. ys ++ n ∷ []) (label_is x) in
    sorted_mean (d.more_keys ks (label_key x)) (ys ++ x ∷ []) xs names' f.1 ∙ append_assoc ys (x ∷ []) xs

keys_distinct : (ks : Keys) (ys xs : List Name) → d.labels ks ≡ ys → Follows ys xs → distinct ks ≡ true → distinct (keys_from ks xs) ≡ true
keys_distinct ks ys [] e f t = t
keys_distinct ks ys (x ∷ xs) e f t =
    let k = d.key_label (label_key x) in
    let fresh : not (among k (d.labels ks)) ≡ true = ap (λ l. not (among k l)) e ∙ ap (λ n. not (among n ys)) (label_is x) ∙ not_among x ys f.0 in
    keys_distinct (d.more_keys ks (label_key x)) (ys ++ x ∷ []) xs (ap (λ l. l ++ k ∷ []) e ∙ ap (λ n. ys ++ n ∷ []) (label_is x)) f.1 (both t fresh)

pub good_project : (x : Name) (xs : List Name) (a : Term) (s : Derivation) → ascending (x ∷ xs) ≡ true → list_all (λ x. list_all is_quoted_label_byte x) (x ∷ xs) ≡ true → Good a s
    → Good (Node (ops.Project (x ∷ xs)) (kid None a end)) (d.project (at_tree 16 s) false (keys_from (d.one_key (label_key x)) xs) false)
good_project x xs a s up q ga =
    let fa = fits 16 a s ga refl in
    let one = d.one_key (label_key x) in
    let f = follows x xs up in
    let parts' = and_parts (list_all is_quoted_label_byte x) (list_all (λ x. list_all is_quoted_label_byte x) xs) q in
    let front : d.key_label (label_key x) ∷ [] ≡ x ∷ [] = ap (λ n. n ∷ []) (label_is x) in
    record {
      means = let k = fa.means in let l = sorted_mean one (x ∷ []) xs front f in cc;
      is_derived = both (both fa.level fa.is_derived) (keys_distinct one (x ∷ []) xs front f refl);
      levels = refl;
      bares = refl;
      reads = λ n g p rest ws c seam after.
          let q = piece (label x) (name n free (label_token x) ∷ []) in
          let qs = key_pieces n xs in
          let row = row_read (codes ", ") (mark n free marks.Comma) q qs (comma n) (λ t. refl) (λ p rest ws c seam after. label_token_read p false x rest n ws c parts'.0 (name_ends 0 rest seam) after) (keys_read n xs parts'.1) in
          let keys' = q.written ++ more_written (mark n free marks.Comma) qs in
          let closing = mark n free marks.BraceClose ∷ [] in
          subst (λ w. Lexes p g ((at 16 (layout a) ++ codes "." ++ braced (label x ∷ map label xs)) ++ rest) ((yield n g (at_tree 16 s) ++ (mark n free marks.Dot ∷ mark n free marks.BraceOpen ∷ []) ++ w ++ [] ++ closing) ++ ws)) (sym (keys_written n free marks.Comma one xs))
          (subst (λ ts. Lexes p g ((at 16 (layout a) ++ codes "." ++ braced (label x ∷ ts)) ++ rest) ((yield n g (at_tree 16 s) ++ (mark n free marks.Dot ∷ mark n free marks.BraceOpen ∷ []) ++ keys' ++ [] ++ closing) ++ ws)) (sym (key_texts n xs))
          (regrouped p g (at 16 (layout a)) (codes "." ∷ braced (piece_texts (q ∷ qs)) ∷ []) rest (yield n g (at_tree 16 s)) ((mark n free marks.Dot ∷ mark n free marks.BraceOpen ∷ []) ∷ keys' ∷ [] ∷ closing ∷ []) ws
          (fa.reads n g p _ _ c refl
          (give p false 46 [] _ (kinds.Mark marks.Dot) n _ c (λ b. tt) refl refl refl (λ at.
          text_regrouped p false (codes "{ ") (separated (codes ", ") (piece_texts (q ∷ qs)) ∷ codes " }" ∷ []) rest _
          (open_brace p false _ n _ c refl
          (space (braced_place p) _ _ (braced_code p c) (loose (braced_place p) _ _
          (row (braced_place p) _ _ (braced_code p c) refl
          (space (braced_place p) _ _ (braced_code p c) (loose (braced_place p) _ _
          (close_brace p false rest n ws c after))))))))))));
    }
