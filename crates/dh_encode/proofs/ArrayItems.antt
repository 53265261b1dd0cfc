-- Nodes, item by item.
use Rattle.std.specs.Prelude.{◌≡◌, ◌+◌, ◌<◌, ◌≤◌, ◌^◌, ◌&&◌, if◌then◌else◌, ℕ, suc, Bool, true, false, List, [], ◌∷◌, ◌++◌, length, drop, IsTrue, codes, refl}
use Rattle.std.specs.List.{concat}
use Rattle.std.proofs.Common.{sym, ap, ◌∙◌, arith, get_or, append_assoc, append-nil, subst as along}
use Rattle.std.proofs.lemmas.List.{drop_more, drop_all}
use Rattle.std.proofs.lemmas.List.Folds.{concat-append}
use Rattle.std.proofs.lemmas.Bool.{false≢true}
use Rattle.dh_syntax.specs.declared.expressions.Alt.{Alt}
use Rattle.dh_syntax.specs.declared.expressions.Kid.{Kid}
use Rattle.dh_syntax.specs.declared.expressions.Op.{Op}
use Rattle.dh_syntax.specs.declared.expressions.Op.TheVariants as ops
use Rattle.dh_syntax.specs.Bytes.Binary.{enc, interleaved, pairs, alternatives, variable_item}
use Rattle.dh_syntax.specs.Bytes.Cbor.{head, array, natural, text, null}
use Rattle.dh_syntax.specs.Expressions.Arity.{fits, plain, alt_labels, typed_count}
use Rattle.dh_syntax.specs.Expressions.Bridge.{term, row_of}
use Rattle.dh_syntax.specs.Expressions.Numbers.{bytes_eq}
use Rattle.dh_syntax.specs.Expressions.Order.{ascending}
use Rattle.dh_syntax.specs.Expressions.Tree.{Var, Name}
use Rattle.dh_encode.specs.Inside.Items.{row_items, behind}
use Rattle.dh_encode.proofs.Appends.{both}
use Rattle.dh_encode.proofs.Integers.{small}
use Rattle.dh_encode.proofs.KidsByPlace.{kids_plain}
use Rattle.dh_encode.proofs.RowItems.{items_next, items_none, more}

-- ---- variables

pub variable_blank : (v : Var) → bytes_eq v.name (codes "_") ≡ true → v.index < 2 ^ 64 → head 0 v.index ≡ variable_item v
variable_blank v h k = small v.index k ∙ sym (ap (λ b. if b then natural v.index else array (text v.name ∷ natural v.index ∷ [])) h)

pub variable_named : (v : Var) → bytes_eq v.name (codes "_") ≡ false → v.index < 2 ^ 64 → array (text v.name ∷ head 0 v.index ∷ []) ≡ variable_item v
variable_named v h k = ap (λ l. array (text v.name ∷ l ∷ [])) (small v.index k) ∙ sym (ap (λ b. if b then natural v.index else array (text v.name ∷ natural v.index ∷ [])) h)

-- ---- items of several kinds

pub both_items : (a b c : List ℕ) (xs ys : List (List ℕ)) → b ≡ a ++ concat xs → c ≡ b ++ concat ys → c ≡ a ++ concat (xs ++ ys)
both_items a b c xs ys p q = both a b c (concat xs) (concat ys) p q ∙ ap (λ l. a ++ l) (sym (concat-append xs ys))

-- ---- loops

-- one kid more
pub kid_written : (ks : List Kid) (i : ℕ) (k : Kid) (a b whole : List ℕ) → i < length ks → k ≡ get_or ks i k → b ≡ a ++ enc (term k.body)
    → a ++ concat (row_items (row_of (drop i ks))) ≡ whole → b ++ concat (row_items (row_of (drop (i + 1) ks))) ≡ whole
kid_written ks i k a b whole h e p so_far =
    more a b (enc (term k.body)) (concat (row_items (row_of (drop (i + 1) ks)))) whole p (ap (λ l. a ++ concat l) (sym (items_next ks i k h e)) ∙ so_far)

pub kids_written : (ks : List Kid) (i : ℕ) (a whole : List ℕ) → length ks ≤ i → a ++ concat (row_items (row_of (drop i ks))) ≡ whole → a ≡ whole
kids_written ks i a whole h so_far = sym (append-nil a) ∙ ap (λ l. a ++ concat l) (sym (items_none ks i h)) ∙ so_far

-- one field more
pub field_written : (xs : List Name) (ks : List Kid) (i : ℕ) (d : Name) (k : Kid) (a b c whole : List ℕ) → i < length xs → i < length ks → d ≡ get_or xs i d → k ≡ get_or ks i k
    → b ≡ a ++ text d → c ≡ b ++ enc (term k.body) → a ++ pairs (drop i xs) (row_items (row_of (drop i ks))) ≡ whole
    → c ++ pairs (drop (i + 1) xs) (row_items (row_of (drop (i + 1) ks))) ≡ whole
field_written xs ks i d k a b c whole h g e f p q so_far =
    let rest = pairs (drop (i + 1) xs) (row_items (row_of (drop (i + 1) ks))) in
    let next : pairs (drop i xs) (row_items (row_of (drop i ks))) ≡ text d ++ enc (term k.body) ++ rest =
    ap (λ l. pairs l (row_items (row_of (drop i ks)))) (drop_more xs i d h) ∙ ap (λ l. pairs (get_or xs i d ∷ drop (i + 1) xs) l) (items_next ks i k g f)
    ∙ ap (λ y. text y ++ enc (term k.body) ++ rest) (sym e) in
    more a c (text d ++ enc (term k.body)) rest whole (both a b c (text d) (enc (term k.body)) p q) (ap (λ l. a ++ l) (sym next) ∙ so_far)

pub fields_written : (xs : List Name) (ks : List Kid) (i : ℕ) (a whole : List ℕ) → length xs ≤ i → a ++ pairs (drop i xs) (row_items (row_of (drop i ks))) ≡ whole → a ≡ whole
fields_written xs ks i a whole h so_far = sym (append-nil a) ∙ ap (λ l. a ++ pairs l (row_items (row_of (drop i ks)))) (sym (drop_all i xs h)) ∙ so_far

-- one interpolation more, with the piece behind it
behind_next : (p : List ℕ) (ps es : List (List ℕ)) → interleaved (p ∷ ps) es ≡ text p ∷ behind ps es
behind_next p ps [] = refl
behind_next p ps (e ∷ es) = refl

pub interpolation_written : (ps : List (List ℕ)) (ks : List Kid) (i : ℕ) (d : List ℕ) (k : Kid) (a b c whole : List ℕ) → i + 1 < length ps → i < length ks → d ≡ get_or ps (i + 1) d → k ≡ get_or ks i k
    → b ≡ a ++ enc (term k.body) → c ≡ b ++ text d → a ++ concat (behind (drop (i + 1) ps) (row_items (row_of (drop i ks)))) ≡ whole
    → c ++ concat (behind (drop (i + 1 + 1) ps) (row_items (row_of (drop (i + 1) ks)))) ≡ whole
interpolation_written ps ks i d k a b c whole h g e f p q so_far =
    let rest = behind (drop (i + 1 + 1) ps) (row_items (row_of (drop (i + 1) ks))) in
    let next : behind (drop (i + 1) ps) (row_items (row_of (drop i ks))) ≡ enc (term k.body) ∷ text d ∷ rest =
    ap (λ l. behind (drop (i + 1) ps) l) (items_next ks i k g f) ∙ ap (λ l. enc (term k.body) ∷ interleaved l (row_items (row_of (drop (i + 1) ks)))) (drop_more ps (i + 1) d h)
    ∙ ap (λ l. enc (term k.body) ∷ l) (behind_next (get_or ps (i + 1) d) (drop (i + 1 + 1) ps) (row_items (row_of (drop (i + 1) ks)))) ∙ ap (λ y. enc (term k.body) ∷ text y ∷ rest) (sym e) in
    more a c (enc (term k.body) ++ text d) (concat rest) whole (both a b c (enc (term k.body)) (text d) p q)
    (ap (λ l. a ++ l) (append_assoc (enc (term k.body)) (text d) (concat rest)) ∙ ap (λ l. a ++ concat l) (sym next) ∙ so_far)

pub text_written : (ps : List (List ℕ)) (ks : List Kid) (i : ℕ) (a whole : List ℕ) → length ks ≤ i → length ps ≤ i + 1 → a ++ concat (behind (drop (i + 1) ps) (row_items (row_of (drop i ks)))) ≡ whole → a ≡ whole
text_written ps ks i a whole h g so_far =
    sym (append-nil a) ∙ ap (λ l. a ++ concat (behind l [])) (sym (drop_all (i + 1) ps g)) ∙ ap (λ l. a ++ concat (behind (drop (i + 1) ps) l)) (sym (items_none ks i h)) ∙ so_far

-- a text from its first piece on
pub text_items : (ps : List (List ℕ)) (es : List (List ℕ)) (d : List ℕ) → 0 < length ps → d ≡ get_or ps 0 d → interleaved ps es ≡ text d ∷ behind (drop 1 ps) es
text_items [] es d h e = absurd (omega arith)
text_items (p ∷ ps) es d h e = behind_next p ps es ∙ ap (λ y. text y ∷ behind ps es) (sym e)

pub text_count : (ps : List (List ℕ)) (es : List (List ℕ)) → length ps ≡ length es + 1 → length (interleaved ps es) ≡ length ps + length es
text_count [] es h = absurd (omega arith)
text_count (p ∷ []) [] h = refl
text_count (p ∷ q ∷ ps) [] h = absurd (omega arith)
text_count (p ∷ ps) (e ∷ es) h = let ih = text_count ps es (omega arith) in omega arith

-- one alternative more
pub typed_written : (alts : List Alt) (ks : List Kid) (i j : ℕ) (d : Alt) (k : Kid) (a b c whole : List ℕ) → i < length alts → j < length ks → d ≡ get_or alts i d → k ≡ get_or ks j k → d.typed ≡ true
    → b ≡ a ++ text d.label → c ≡ b ++ enc (term k.body) → a ++ alternatives (drop i alts) (row_items (row_of (drop j ks))) ≡ whole
    → c ++ alternatives (drop (i + 1) alts) (row_items (row_of (drop (j + 1) ks))) ≡ whole
typed_written alts ks i j d k a b c whole h g e f t p q so_far =
    let rest = alternatives (drop (i + 1) alts) (row_items (row_of (drop (j + 1) ks))) in
    let next : alternatives (drop i alts) (row_items (row_of (drop j ks))) ≡ text d.label ++ (enc (term k.body) ++ rest) =
    ap (λ l. alternatives l (row_items (row_of (drop j ks)))) (drop_more alts i d h ∙ ap (λ x. x ∷ drop (i + 1) alts) (sym e))
    ∙ ap (λ l. alternatives (d ∷ drop (i + 1) alts) l) (items_next ks j k g f) ∙ with_type d (drop (i + 1) alts) (enc (term k.body)) (row_items (row_of (drop (j + 1) ks))) t in
    more a c (text d.label ++ enc (term k.body)) rest whole (both a b c (text d.label) (enc (term k.body)) p q)
    (ap (λ l. a ++ l) (append_assoc (text d.label) (enc (term k.body)) rest ∙ sym next) ∙ so_far)
  where
    with_type : (d : Alt) (alts : List Alt) (e : List ℕ) (es : List (List ℕ)) → d.typed ≡ true → alternatives (d ∷ alts) (e ∷ es) ≡ text d.label ++ (e ++ alternatives alts es)
    with_type d alts e es t = rw t refl

pub untyped_written : (alts : List Alt) (ks : List Kid) (i j : ℕ) (d : Alt) (a b c whole : List ℕ) → i < length alts → d ≡ get_or alts i d → d.typed ≡ false
    → b ≡ a ++ text d.label → c ≡ b ++ null → a ++ alternatives (drop i alts) (row_items (row_of (drop j ks))) ≡ whole
    → c ++ alternatives (drop (i + 1) alts) (row_items (row_of (drop j ks))) ≡ whole
untyped_written alts ks i j d a b c whole h e t p q so_far =
    let rest = alternatives (drop (i + 1) alts) (row_items (row_of (drop j ks))) in
    let next : alternatives (drop i alts) (row_items (row_of (drop j ks))) ≡ text d.label ++ (null ++ rest) =
    ap (λ l. alternatives l (row_items (row_of (drop j ks)))) (drop_more alts i d h ∙ ap (λ x. x ∷ drop (i + 1) alts) (sym e))
    ∙ without_type d (drop (i + 1) alts) (row_items (row_of (drop j ks))) t in
    more a c (text d.label ++ null) rest whole (both a b c (text d.label) null p q)
    (ap (λ l. a ++ l) (append_assoc (text d.label) null rest ∙ sym next) ∙ so_far)
  where
    without_type : (d : Alt) (alts : List Alt) (es : List (List ℕ)) → d.typed ≡ false → alternatives (d ∷ alts) es ≡ text d.label ++ (null ++ alternatives alts es)
    without_type d alts es t = rw t refl

pub alternatives_written : (alts : List Alt) (es : List (List ℕ)) (i : ℕ) (a whole : List ℕ) → length alts ≤ i → a ++ alternatives (drop i alts) es ≡ whole → a ≡ whole
alternatives_written alts es i a whole h so_far = sym (append-nil a) ∙ ap (λ l. a ++ alternatives l es) (sym (drop_all i alts h)) ∙ so_far

typed_next : (alts : List Alt) (i : ℕ) (d : Alt) → i < length alts → d ≡ get_or alts i d → typed_count (drop i alts) ≡ typed_count (d ∷ drop (i + 1) alts)
typed_next alts i d h e = ap typed_count (drop_more alts i d h ∙ ap (λ x. x ∷ drop (i + 1) alts) (sym e))

pub typed_less : (alts : List Alt) (i : ℕ) (d : Alt) → i < length alts → d ≡ get_or alts i d → d.typed ≡ true → typed_count (drop i alts) ≡ suc (typed_count (drop (i + 1) alts))
typed_less alts i d h e t = typed_next alts i d h e ∙ rw t refl

pub typed_same : (alts : List Alt) (i : ℕ) (d : Alt) → i < length alts → d ≡ get_or alts i d → d.typed ≡ false → typed_count (drop i alts) ≡ typed_count (drop (i + 1) alts)
typed_same alts i d h e t = typed_next alts i d h e ∙ rw t refl

-- ---- counts by what fits

second_of : (a b : Bool) → (a && b) ≡ true → b ≡ true
second_of true b h = h
second_of false b h = absurd (false≢true h)

pub record_type_count : (op : Op) (xs ls : List Name) (ks : List Kid) → op ≡ ops.RecordType xs → ls ≡ xs → IsTrue (fits op (row_of ks)) → length ls ≡ length ks
record_type_count op xs ls ks p q h =
    let fit : IsTrue (fits (ops.RecordType xs) (row_of ks)) = along (λ o. IsTrue (fits o (row_of ks))) p h in
    ap length q ∙ sym (kids_plain (length xs) ks (second_of (ascending xs) (plain (length xs) (row_of ks)) fit))

pub record_count : (op : Op) (xs ls : List Name) (ks : List Kid) → op ≡ ops.Record xs → ls ≡ xs → IsTrue (fits op (row_of ks)) → length ls ≡ length ks
record_count op xs ls ks p q h =
    let fit : IsTrue (fits (ops.Record xs) (row_of ks)) = along (λ o. IsTrue (fits o (row_of ks))) p h in
    ap length q ∙ sym (kids_plain (length xs) ks (second_of (ascending xs) (plain (length xs) (row_of ks)) fit))

pub union_count : (op : Op) (xs ls : List Alt) (ks : List Kid) → op ≡ ops.Union xs → ls ≡ xs → IsTrue (fits op (row_of ks)) → typed_count ls ≡ length ks
union_count op xs ls ks p q h =
    let fit : IsTrue (fits (ops.Union xs) (row_of ks)) = along (λ o. IsTrue (fits o (row_of ks))) p h in
    ap typed_count q ∙ sym (kids_plain (typed_count xs) ks (second_of (ascending (alt_labels xs)) (plain (typed_count xs) (row_of ks)) fit))

pub text_fit : (ps : List (List ℕ)) (ks : List Kid) → IsTrue (fits (ops.Text ps) (row_of ks)) → length ps ≡ length ks + 1
text_fit [] ks h = absurd (false≢true h)
text_fit (p ∷ ps) ks h = let n = kids_plain (length ps) ks h in omega arith
