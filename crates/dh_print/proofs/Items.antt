-- The parts of a node, one after the other.
use Rattle.std.proofs.Common.{◌≡◌, ℕ, zero, suc, ◌+◌, ◌<◌, ◌≤◌, true, false, List, [], ◌∷◌, ◌++◌, codes, map, length, drop, get_or, Option, Some, None, refl, sym, ap, subst, ◌∙◌, append_assoc, append-nil, arith}
use Rattle.std.specs.Borrow.{Bor}
use Rattle.std.proofs.lemmas.List.{drop_more, drop_all}
use Rattle.std.specs.Prelude.{nat_eq}
use Rattle.std.proofs.lemmas.Bool.{false≢true}
use Rattle.dh_syntax.specs.declared.expressions.Alt.{Alt}
use Rattle.dh_syntax.specs.declared.expressions.Kid.{Kid}
use Rattle.dh_syntax.specs.Expressions.Arity.{IsWellFormed, AreWellFormed, typed_count}
use Rattle.dh_syntax.specs.Expressions.Bridge.{term, row_of}
use Rattle.dh_syntax.specs.Expressions.Rows.{row_length}
use Rattle.dh_syntax.specs.Expressions.Tree.{Row, end, kid, Name, Var}
use Rattle.dh_syntax.specs.Text.Literals.{escape}
use Rattle.dh_syntax.specs.Text.Printed.{Layout, alternatives, at, braced, fields, interpolated, label, layout, layouts, part, part_text, separated, texts, union_text}
use Rattle.dh_syntax.proofs.Bridge.{row_of-cons}
use Rattle.dh_syntax.proofs.Rows.{row_of-drop_item, row_of-drop_all, row_length-row_of, row_of-two}
use Rattle.dh_print.specs.Inside.Parts.{fields_text, form_of, interpolated_later, led, parts_text, update_text}
use Rattle.dh_print.proofs.Appending.{carried}

part_is : (b : Option Name) (e : Layout) → part_text (part b e) ≡ at 0 e
part_is None e = refl
part_is (Some x) e = refl

pub texts_item : (ks : List Kid) (i : ℕ) (k : Kid) → i < length ks → k ≡ get_or ks i k →
    texts (layouts (row_of (drop i ks))) ≡ at 0 (layout (term k.body)) ∷ texts (layouts (row_of (drop (i + 1) ks)))
texts_item ks i k h e =
    ap (λ r. texts (layouts r)) (row_of-drop_item ks i k h e) ∙ ap (λ t. t ∷ texts (layouts (row_of (drop (i + 1) ks)))) (part_is k.binder (layout (term k.body)))

pub texts_end : (ks : List Kid) (i : ℕ) → length ks ≤ i → texts (layouts (row_of (drop i ks))) ≡ []
texts_end ks i h = ap (λ r. texts (layouts r)) (row_of-drop_all ks i h)

texts_length : (r : Row Var Name) → length (texts (layouts r)) ≡ row_length r
texts_length end = refl
texts_length (kid b e r) = ap suc (texts_length r)

pub texts_count : (ks : List Kid) → length (texts (layouts (row_of ks))) ≡ length ks
texts_count ks = texts_length (row_of ks) ∙ row_length-row_of ks

pub item_well_formed : (ks : List Kid) (i : ℕ) (k : Kid) → i < length ks → k ≡ get_or ks i k → AreWellFormed (row_of ks) → IsWellFormed (term k.body)
item_well_formed [] i k h e w = absurd (omega arith)
item_well_formed (j ∷ ks) zero k h e w = subst (λ (d : Kid). IsWellFormed (term d.body)) (sym e) (subst AreWellFormed (row_of-cons j ks) w).0
item_well_formed (j ∷ ks) (suc i) k h e w = item_well_formed ks i k (omega arith) e (subst AreWellFormed (row_of-cons j ks) w).1

pub item_at_well_formed : (ks : List Kid) (i : ℕ) (d : Kid) → i < length ks → AreWellFormed (row_of ks) → IsWellFormed (term (get_or ks i d).body)
item_at_well_formed [] i d h w = absurd (omega arith)
item_at_well_formed (j ∷ ks) zero d h w = (subst AreWellFormed (row_of-cons j ks) w).0
item_at_well_formed (j ∷ ks) (suc i) d h w = item_at_well_formed ks i d (omega arith) (subst AreWellFormed (row_of-cons j ks) w).1

drop_item : {A : Type 0} (xs : List A) (i : ℕ) (x : A) → i < length xs → x ≡ get_or xs i x → drop i xs ≡ x ∷ drop (i + 1) xs
drop_item xs i x h e = drop_more xs i x h ∙ ap (λ y. y ∷ drop (i + 1) xs) (sym e)

-- ---- parts after their texts

pub parts_step : (forms : List (Bor (List ℕ) × ℕ)) (ks : List Kid) (i : ℕ) (d : Bor (List ℕ) × ℕ) (k : Kid) (text new whole : List ℕ) →
    i < length forms → i < length ks → k ≡ get_or ks i k →
    text ++ parts_text (map form_of (drop i forms)) (row_of (drop i ks)) ≡ whole → new ≡ text ++ ((get_or forms i d).0.now ++ at (get_or forms i d).1 (layout (term k.body))) →
    new ++ parts_text (map form_of (drop (i + 1) forms)) (row_of (drop (i + 1) ks)) ≡ whole
parts_step forms ks i d k text new whole in_forms in_kids kid_is so_far pushed =
    let f = get_or forms i d in
    carried text new (f.0.now ++ at f.1 (layout (term k.body))) _ _ whole so_far
    (ap (λ fs. parts_text (map form_of fs) (row_of (drop i ks))) (drop_more forms i d in_forms)
    ∙ ap (λ r. parts_text (form_of f ∷ map form_of (drop (i + 1) forms)) r) (row_of-drop_item ks i k in_kids kid_is))
    pushed

parts_none : (fs : List (List ℕ × ℕ)) → parts_text fs end ≡ []
parts_none [] = refl
parts_none (f ∷ fs) = refl

pub parts_end : (forms : List (Bor (List ℕ) × ℕ)) (ks : List Kid) (i : ℕ) (text whole : List ℕ) → length ks ≤ i →
    text ++ parts_text (map form_of (drop i forms)) (row_of (drop i ks)) ≡ whole → text ≡ whole
parts_end forms ks i text whole h so_far =
    sym (append-nil text) ∙ ap (λ l. text ++ l) (sym (ap (parts_text (map form_of (drop i forms))) (row_of-drop_all ks i h) ∙ parts_none (map form_of (drop i forms)))) ∙ so_far

-- ---- texts in a row

led_on : (s : List ℕ) (t : List ℕ) (ts : List (List ℕ)) → led s s (t ∷ ts) ≡ s ++ separated s (t ∷ ts)
led_on s t [] = ap (λ l. s ++ l) (append-nil t)
led_on s t (u ∷ ts) = ap (λ l. s ++ (t ++ l)) (led_on s u ts) ∙ ap (λ l. s ++ l) (sym (append_assoc t s (separated s (u ∷ ts))))

pub led-separated : (s : List ℕ) (ts : List (List ℕ)) → led [] s ts ≡ separated s ts
led-separated s [] = refl
led-separated s (t ∷ []) = append-nil t
led-separated s (t ∷ u ∷ ts) = ap (λ l. t ++ l) (led_on s u ts) ∙ sym (append_assoc t s (separated s (u ∷ ts)))

-- ---- labels in a row

pub labels_step : (xs : List Name) (i : ℕ) (x first next text text1 new whole : List ℕ) → i < length xs → x ≡ get_or xs i x →
    text ++ led first next (map label (drop i xs)) ≡ whole → text1 ≡ text ++ first → new ≡ text1 ++ label x → new ++ led next next (map label (drop (i + 1) xs)) ≡ whole
labels_step xs i x first next text text1 new whole h e so_far one two =
    let later = led next next (map label (drop (i + 1) xs)) in
    carried text1 new (label x) _ later whole (carried text text1 first _ (label x ++ later) whole so_far (ap (λ ys. led first next (map label ys)) (drop_item xs i x h e)) one) refl two

pub labels_end : (xs : List Name) (i : ℕ) (first next text whole : List ℕ) → length xs ≤ i → text ++ led first next (map label (drop i xs)) ≡ whole → text ≡ whole
labels_end xs i first next text whole h so_far = sym (append-nil text) ∙ ap (λ l. text ++ l) (sym (ap (λ ys. led first next (map label ys)) (drop_all i xs h))) ∙ so_far

-- a row begins, where the text before it is written
pub row_begins : (text new start s : List ℕ) (ts : List (List ℕ)) → new ≡ text ++ start → new ++ led [] s ts ≡ (text ++ start) ++ separated s ts
row_begins text new start s ts e = ap (λ l. l ++ led [] s ts) e ∙ ap (λ l. (text ++ start) ++ l) (led-separated s ts)

-- a row ends, where none of its texts is left
pub row_ends : (first next : List ℕ) (ts : List (List ℕ)) (text old start row new close : List ℕ) → ts ≡ [] →
    text ++ led first next ts ≡ (old ++ start) ++ row → new ≡ text ++ close → new ≡ old ++ (start ++ row ++ close)
row_ends first next ts text old start row new close none so_far pushed =
    pushed ∙ ap (λ l. l ++ close) (sym (append-nil text) ∙ ap (λ us. text ++ led first next us) (sym none) ∙ so_far) ∙ regroup old start row close
  where
    regroup : (old start row close : List ℕ) → ((old ++ start) ++ row) ++ close ≡ old ++ (start ++ row ++ close)
    regroup old start row close = simp append_assoc

pub list_step : (ks : List Kid) (i : ℕ) (k : Kid) (first next text new whole : List ℕ) → i < length ks → k ≡ get_or ks i k →
    text ++ led first next (texts (layouts (row_of (drop i ks)))) ≡ whole → new ≡ text ++ (first ++ at 0 (layout (term k.body))) →
    new ++ led next next (texts (layouts (row_of (drop (i + 1) ks)))) ≡ whole
list_step ks i k first next text new whole h e so_far pushed =
    carried text new (first ++ at 0 (layout (term k.body))) _ _ whole so_far
    (ap (led first next) (texts_item ks i k h e) ∙ sym (append_assoc first (at 0 (layout (term k.body))) (led next next (texts (layouts (row_of (drop (i + 1) ks)))))))
    pushed

-- ---- fields

-- a field is written as the text before it, its label, its mark and its part
pub field_step : (labels : List Name) (ks : List Kid) (i : ℕ) (x : Name) (k : Kid) (mark first next text text1 text2 new whole : List ℕ) →
    i < length labels → i < length ks → x ≡ get_or labels i x → k ≡ get_or ks i k →
    text ++ led first next (fields mark (drop i labels) (texts (layouts (row_of (drop i ks))))) ≡ whole →
    text1 ≡ text ++ first → text2 ≡ text1 ++ label x → new ≡ text2 ++ (mark ++ at 0 (layout (term k.body))) →
    new ++ led next next (fields mark (drop (i + 1) labels) (texts (layouts (row_of (drop (i + 1) ks))))) ≡ whole
field_step labels ks i x k mark first next text text1 text2 new whole in_labels in_kids label_is kid_is so_far one two three =
    let later = led next next (fields mark (drop (i + 1) labels) (texts (layouts (row_of (drop (i + 1) ks))))) in
    let part = at 0 (layout (term k.body)) in
    carried text2 new (mark ++ part) _ later whole
    (carried text1 text2 (label x) _ ((mark ++ part) ++ later) whole
    (carried text text1 first _ (label x ++ ((mark ++ part) ++ later)) whole so_far
    (ap (λ xs. led first next (fields mark xs (texts (layouts (row_of (drop i ks)))))) (drop_item labels i x in_labels label_is)
    ∙ ap (λ ts. led first next (fields mark (x ∷ drop (i + 1) labels) ts)) (texts_item ks i k in_kids kid_is)
    ∙ regroup first (label x) mark part later)
    one)
    refl two)
    refl three
  where
    regroup : (first l m p later : List ℕ) → first ++ ((l ++ m ++ p) ++ later) ≡ first ++ (l ++ ((m ++ p) ++ later))
    regroup first l m p later = simp append_assoc

fields_none : (mark : List ℕ) (xs : List Name) → fields mark xs [] ≡ []
fields_none mark [] = refl
fields_none mark (x ∷ xs) = refl

pub fields_end : (labels : List Name) (ks : List Kid) (i : ℕ) (mark : List ℕ) → length ks ≤ i → fields mark (drop i labels) (texts (layouts (row_of (drop i ks)))) ≡ []
fields_end labels ks i mark h = ap (fields mark (drop i labels)) (texts_end ks i h) ∙ fields_none mark (drop i labels)

pub fields_some : (empty mark : List ℕ) (labels : List Name) (ts : List (List ℕ)) → nat_eq (length labels) 0 ≡ false → braced (fields mark labels ts) ≡ fields_text empty mark labels ts
fields_some empty mark [] ts h = absurd (false≢true (sym h))
fields_some empty mark (x ∷ xs) ts h = refl

-- ---- alternatives

typed_row : (alts : List Alt) (a : Alt) (rest : List Alt) (t : List ℕ) (ts : List (List ℕ)) → alts ≡ a ∷ rest → a.typed ≡ true →
    alternatives alts (t ∷ ts) ≡ (label a.label ++ codes " : " ++ t) ∷ alternatives rest ts
typed_row alts a rest t ts e h = ap (λ as'. alternatives as' (t ∷ ts)) e ∙ rw h refl

plain_row : (alts : List Alt) (a : Alt) (rest : List Alt) (ts : List (List ℕ)) → alts ≡ a ∷ rest → a.typed ≡ false →
    alternatives alts ts ≡ label a.label ∷ alternatives rest ts
plain_row alts a rest ts e h = ap (λ as'. alternatives as' ts) e ∙ rw h refl

pub typed_more : (alts : List Alt) (i : ℕ) (a : Alt) → i < length alts → a ≡ get_or alts i a → a.typed ≡ true → typed_count (drop i alts) ≡ suc (typed_count (drop (i + 1) alts))
typed_more alts i a h e t = ap typed_count (drop_item alts i a h e) ∙ rw t refl

pub plain_more : (alts : List Alt) (i : ℕ) (a : Alt) → i < length alts → a ≡ get_or alts i a → a.typed ≡ false → typed_count (drop i alts) ≡ typed_count (drop (i + 1) alts)
plain_more alts i a h e t = ap typed_count (drop_item alts i a h e) ∙ rw t refl

pub alternative_step : (alts : List Alt) (ks : List Kid) (i j j' : ℕ) (a : Alt) (first next text text1 new whole : List ℕ) →
    i < length alts → a ≡ get_or alts i a → a.typed ≡ false → j' ≡ j →
    text ++ led first next (alternatives (drop i alts) (texts (layouts (row_of (drop j ks))))) ≡ whole →
    text1 ≡ text ++ first → new ≡ text1 ++ label a.label →
    new ++ led next next (alternatives (drop (i + 1) alts) (texts (layouts (row_of (drop j' ks))))) ≡ whole
alternative_step alts ks i j j' a first next text text1 new whole h e t same so_far one two =
    let later : ℕ → List ℕ = λ (k : ℕ). led next next (alternatives (drop (i + 1) alts) (texts (layouts (row_of (drop k ks))))) in
    ap (λ k. new ++ later k) same
    ∙ carried text1 new (label a.label) _ (later j) whole
    (carried text text1 first _ (label a.label ++ later j) whole so_far
    (ap (led first next) (plain_row (drop i alts) a (drop (i + 1) alts) (texts (layouts (row_of (drop j ks)))) (drop_item alts i a h e) t))
    one)
    refl two

pub typed_step : (alts : List Alt) (ks : List Kid) (i j j' : ℕ) (a : Alt) (k : Kid) (first next text text1 text2 new whole : List ℕ) →
    i < length alts → a ≡ get_or alts i a → a.typed ≡ true → j < length ks → k ≡ get_or ks j k → j' ≡ j + 1 →
    text ++ led first next (alternatives (drop i alts) (texts (layouts (row_of (drop j ks))))) ≡ whole →
    text1 ≡ text ++ first → text2 ≡ text1 ++ label a.label → new ≡ text2 ++ (codes " : " ++ at 0 (layout (term (get_or ks j k).body))) →
    new ++ led next next (alternatives (drop (i + 1) alts) (texts (layouts (row_of (drop j' ks))))) ≡ whole
typed_step alts ks i j j' a k first next text text1 text2 new whole h e t in_kids kid_is same so_far one two three =
    let later : ℕ → List ℕ = λ (n : ℕ). led next next (alternatives (drop (i + 1) alts) (texts (layouts (row_of (drop n ks))))) in
    let part = at 0 (layout (term k.body)) in
    ap (λ n. new ++ later n) same
    ∙ carried text2 new (codes " : " ++ part) _ (later (j + 1)) whole
    (carried text1 text2 (label a.label) _ ((codes " : " ++ part) ++ later (j + 1)) whole
    (carried text text1 first _ (label a.label ++ ((codes " : " ++ part) ++ later (j + 1))) whole so_far
    (ap (λ ts. led first next (alternatives (drop i alts) ts)) (texts_item ks j k in_kids kid_is)
    ∙ ap (led first next) (typed_row (drop i alts) a (drop (i + 1) alts) part (texts (layouts (row_of (drop (j + 1) ks)))) (drop_item alts i a h e) t)
    ∙ regroup first (label a.label) (codes " : ") part (later (j + 1)))
    one)
    refl two)
    refl (three ∙ ap (λ (d : Kid). text2 ++ (codes " : " ++ at 0 (layout (term d.body)))) (sym kid_is))
  where
    regroup : (first l m p later : List ℕ) → first ++ ((l ++ m ++ p) ++ later) ≡ first ++ (l ++ ((m ++ p) ++ later))
    regroup first l m p later = simp append_assoc

pub alternatives_end : (alts : List Alt) (i : ℕ) (ts : List (List ℕ)) → length alts ≤ i → alternatives (drop i alts) ts ≡ []
alternatives_end alts i ts h = ap (λ as'. alternatives as' ts) (drop_all i alts h)

pub some_alternatives : (alts : List Alt) (ts : List (List ℕ)) → nat_eq (length alts) 0 ≡ false →
    codes "< " ++ separated (codes " | ") (alternatives alts ts) ++ codes " >" ≡ union_text alts ts
some_alternatives [] ts h = absurd (false≢true (sym h))
some_alternatives (a ∷ as') ts h = refl

-- ---- pieces of a text

interpolated_first : (p : List ℕ) (ps ts : List (List ℕ)) → length ps ≡ length ts → interpolated (p ∷ ps) ts ≡ escape p ++ interpolated_later ps ts
interpolated_first p [] [] h = refl
interpolated_first p [] (t ∷ ts) h = absurd (omega arith)
interpolated_first p (q ∷ qs) [] h = absurd (omega arith)
interpolated_first p (q ∷ qs) (t ∷ ts) h =
    ap (λ l. escape p ++ codes "${" ++ t ++ codes "}" ++ l) (interpolated_first q qs ts (omega arith)) ∙ regroup (escape p) (codes "${") t (codes "}") (escape q) (interpolated_later qs ts)
  where
    regroup : (p o t c q later : List ℕ) → p ++ o ++ t ++ c ++ (q ++ later) ≡ p ++ (o ++ t ++ c ++ q ++ later)
    regroup p o t c q later = simp append_assoc

pub text_begins : (pieces : List (List ℕ)) (ks : List Kid) (p text start new : List ℕ) → length pieces ≡ length ks + 1 → p ≡ get_or pieces 0 p → new ≡ (text ++ start) ++ escape p →
    new ++ interpolated_later (drop 1 pieces) (texts (layouts (row_of ks))) ≡ (text ++ start) ++ interpolated pieces (texts (layouts (row_of ks)))
text_begins [] ks p text start new h e pushed = absurd (omega arith)
text_begins (q ∷ qs) ks p text start new h e pushed =
    let ts = texts (layouts (row_of ks)) in
    let n = texts_count ks in
    ap (λ l. l ++ interpolated_later qs ts) pushed ∙ append_assoc (text ++ start) (escape p) (interpolated_later qs ts)
    ∙ ap (λ r. (text ++ start) ++ (escape r ++ interpolated_later qs ts)) e ∙ ap (λ l. (text ++ start) ++ l) (sym (interpolated_first q qs ts (omega arith)))

pub piece_step : (pieces : List (List ℕ)) (ks : List Kid) (i : ℕ) (k : Kid) (q text text1 text2 new whole : List ℕ) →
    i < length ks → k ≡ get_or ks i k → i + 1 < length pieces → q ≡ get_or pieces (i + 1) q →
    text ++ interpolated_later (drop (i + 1) pieces) (texts (layouts (row_of (drop i ks)))) ≡ whole →
    text1 ≡ text ++ (codes "${" ++ at 0 (layout (term k.body))) → text2 ≡ text1 ++ codes "}" → new ≡ text2 ++ escape q →
    new ++ interpolated_later (drop (i + 1 + 1) pieces) (texts (layouts (row_of (drop (i + 1) ks)))) ≡ whole
piece_step pieces ks i k q text text1 text2 new whole in_kids kid_is in_pieces piece_is so_far one two three =
    let later = interpolated_later (drop (i + 1 + 1) pieces) (texts (layouts (row_of (drop (i + 1) ks)))) in
    let part = at 0 (layout (term k.body)) in
    carried text2 new (escape q) _ later whole
    (carried text1 text2 (codes "}") _ (escape q ++ later) whole
    (carried text text1 (codes "${" ++ part) _ (codes "}" ++ (escape q ++ later)) whole so_far
    (ap (λ ps. interpolated_later ps (texts (layouts (row_of (drop i ks))))) (drop_item pieces (i + 1) q in_pieces piece_is)
    ∙ ap (interpolated_later (q ∷ drop (i + 1 + 1) pieces)) (texts_item ks i k in_kids kid_is)
    ∙ regroup (codes "${") part (codes "}") (escape q) later)
    one)
    refl two)
    refl three
  where
    regroup : (o t c q later : List ℕ) → o ++ t ++ c ++ q ++ later ≡ (o ++ t) ++ (c ++ (q ++ later))
    regroup o t c q later = simp append_assoc

later_none : (ps : List (List ℕ)) → interpolated_later ps [] ≡ []
later_none [] = refl
later_none (p ∷ ps) = refl

pub pieces_end : (pieces : List (List ℕ)) (ks : List Kid) (i : ℕ) → length ks ≤ i → interpolated_later (drop (i + 1) pieces) (texts (layouts (row_of (drop i ks)))) ≡ []
pieces_end pieces ks i h = ap (interpolated_later (drop (i + 1) pieces)) (texts_end ks i h) ∙ later_none (drop (i + 1) pieces)

-- what is written when nothing is left, closed
pub closed : (rest text old start row new close : List ℕ) → rest ≡ [] → text ++ rest ≡ (old ++ start) ++ row → new ≡ text ++ close → new ≡ old ++ (start ++ row ++ close)
closed rest text old start row new close none so_far pushed =
    pushed ∙ ap (λ l. l ++ close) (sym (append-nil text) ∙ ap (λ l. text ++ l) (sym none) ∙ so_far) ∙ regroup old start row close
  where
    regroup : (old start row close : List ℕ) → ((old ++ start) ++ row) ++ close ≡ old ++ (start ++ row ++ close)
    regroup old start row close = simp append_assoc

-- ---- two parts

two_kids : (ks : List Kid) (k j : Kid) → length ks ≡ 2 → k ≡ get_or ks 0 k → j ≡ get_or ks 1 j → row_of ks ≡ kid k.binder (term k.body) (kid j.binder (term j.body) end)
two_kids [] k j h e f = absurd (omega arith)
two_kids (a ∷ []) k j h e f = absurd (omega arith)
two_kids (a ∷ b ∷ []) k j h e f =
    row_of-two a b ∙ ap (λ (d : Kid). kid d.binder (term d.body) (kid b.binder (term b.body) end)) (sym e) ∙ ap (λ (d : Kid). kid k.binder (term k.body) (kid d.binder (term d.body) end)) (sym f)
two_kids (a ∷ b ∷ c ∷ ks) k j h e f = absurd (omega arith)

pub update_written : (ks : List Kid) (k j : Kid) (path : List Name) → length ks ≡ 2 → k ≡ get_or ks 0 k → j ≡ get_or ks 1 j →
    at 15 (layout (term (get_or ks 0 k).body)) ++ (codes " with " ++ (separated (codes ".") (map label path) ++ (codes " = " ++ at 1 (layout (term (get_or ks 1 j).body))))) ≡ update_text path (row_of ks)
update_written ks k j path h e f =
    ap (λ (d : Kid). at 15 (layout (term d.body)) ++ (codes " with " ++ (separated (codes ".") (map label path) ++ (codes " = " ++ at 1 (layout (term (get_or ks 1 j).body)))))) (sym e)
    ∙ ap (λ (d : Kid). at 15 (layout (term k.body)) ++ (codes " with " ++ (separated (codes ".") (map label path) ++ (codes " = " ++ at 1 (layout (term d.body)))))) (sym f)
    ∙ regroup (at 15 (layout (term k.body))) (codes " with ") (separated (codes ".") (map label path)) (codes " = ") (at 1 (layout (term j.body)))
    ∙ ap (update_text path) (sym (two_kids ks k j h e f))
  where
    regroup : (x y z w v : List ℕ) → x ++ (y ++ (z ++ (w ++ v))) ≡ x ++ y ++ z ++ w ++ v
    regroup x y z w v = simp append_assoc
