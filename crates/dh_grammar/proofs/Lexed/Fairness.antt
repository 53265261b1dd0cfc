-- What is derived of good tokens is well formed, can be spelled, and has values in range; its nesting apart.
use Rattle.std.proofs.Common.{arith, ◌≡◌, ℕ, suc, ◌≤◌, ◌^◌, Bool, true, false, List, [], ◌∷◌, ◌++◌, length, refl, sym, ◌∙◌, ap, subst, leb-false, le-leb}
use Rattle.std.specs.Prelude.{IsTrue, ⊤, not, nat_le, Option, Some, None, codes}
use Rattle.std.specs.List.{list_all}
use Rattle.std.proofs.lemmas.List.Folds.{list_all-append}
use Rattle.dh_syntax.specs.declared.expressions.Op.TheVariants as ops
use Rattle.dh_syntax.specs.declared.locations.Digest.{Digest}
use Rattle.dh_syntax.specs.declared.locations.Mode.{Mode}
use Rattle.dh_syntax.specs.declared.operators.Builtin.{Builtin}
use Rattle.dh_syntax.specs.declared.operators.Builtin.TheVariants as builtins
use Rattle.dh_syntax.specs.declared.tokens.Mark.TheVariants.{Comma, Dot, At}
use Rattle.dh_syntax.specs.declared.tokens.TokenKind.TheVariants as kinds
use Rattle.dh_syntax.specs.Expressions.Arity.{loc_fits, has_some}
use Rattle.dh_syntax.specs.Text.Derivation.{name_label, key_label, NameToken, plain, quoted, Key, name_key, truth_key, builtin_key, some_key, Keys, one_key, more_keys, labels, ImportType, path, url, environment, missing, Derivation, lambda, pi, arrow, choice, lets, updates, merge_as, to_map_as, empty_list, assertion, annotation, operation, application, merging, some_of, to_map, import, field, project_none, project, project_by, natural, integer, truth, builtin, variable, text, brackets, list, union_none, union, record_type_none, record_type, record_none, record_of, Note, untyped, typed, Lets, one_let, more_lets, Updates, one_update, more_updates, Chunks, start, more_chunks, Items, one_item, more_items, Alternatives, one_alternative, more_alternatives, Fields, one_field, more_fields, Entry, alone, given, Entries, one_entry, more_entries}
use Rattle.dh_syntax.specs.Text.Lexing.{Before, before_after, is_wide_index}
use Rattle.dh_syntax.specs.Text.Meaning.{meaning, note, items, alternatives, fields, entry, entries, pieces, interpolations, lets_around, updated, dotted, location, names, sorted, joined, variable_term, record_term, parts}
use Rattle.dh_syntax.specs.Expressions.Operators.{builtin_name}
use Rattle.dh_syntax.specs.Expressions.Order.{ascending}
use Rattle.dh_syntax.specs.Expressions.Spellable.{is_label, location_spellable}
use Rattle.dh_syntax.specs.Limits.{most_index}
use Rattle.dh_syntax.specs.Expressions.Tree.{Leaf, end, Name, Term}
use Rattle.dh_syntax.specs.Text.Yield.{Written, token, mark, keyword, name, name_kind, key_kind, import_type_kind, apart, free, separator, keys_yield, digest_yield, yield, note_yield, lets_yield, updates_yield, chunks_yield, items_yield, alternatives_yield, fields_yield, entry_yield, entries_yield}
use Rattle.dh_grammar.specs.Inside.SoundTokens.{good_kind, sound, written_kinds}
use Rattle.dh_syntax.specs.Expressions.Values.{digest_if}
use Rattle.dh_grammar.proofs.Lexed.FairParts.{Fair, AllFair, FairNote, Fairly, fair_end, fair_kid, fair_part, fair_node, fair_one, fair_two, fair_three, all_last, fair_parts, some_parts, some_last, length_last, fair_text, put_fairly, none_fairly, fair_record, fair_record_type, fair_joined, fair_union, fair_let}
use Rattle.dh_grammar.proofs.TruthValues.{both, left_of, right_of}

-- ---- good tokens

pub record Good (ws : List Written) : Type 0 where
  pub before : Before
  pub are : IsTrue (sound before (written_kinds ws))

pub head : {w : Written} {ws : List Written} → Good (w ∷ ws) → IsTrue (good_kind w.kind)
head {w = w} h = left_of (good_kind w.kind) _ h.are

pub tail : {w : Written} {ws : List Written} → Good (w ∷ ws) → Good ws
tail {w = w} h = record { before = before_after w.kind h.before; are = right_of (not (is_wide_index h.before w.kind)) _ (right_of (good_kind w.kind) _ h.are) }

left_sound : (xs ys : List Written) (b : Before) → IsTrue (sound b (written_kinds (xs ++ ys))) → IsTrue (sound b (written_kinds xs))
left_sound [] ys b h = refl
left_sound (x ∷ xs) ys b h =
    let h' = right_of (good_kind x.kind) _ h in
    both (good_kind x.kind) _ (left_of (good_kind x.kind) _ h)
    (both (not (is_wide_index b x.kind)) _ (left_of (not (is_wide_index b x.kind)) _ h') (left_sound xs ys (before_after x.kind b) (right_of (not (is_wide_index b x.kind)) _ h')))

pub left : (xs ys : List Written) → Good (xs ++ ys) → Good xs
left xs ys h = record { before = h.before; are = left_sound xs ys h.before h.are }

right_sound : (xs ys : List Written) → Good (xs ++ ys) → Good ys
right_sound [] ys h = h
right_sound (x ∷ xs) ys h = right_sound xs ys (tail h)

pub right : (xs ys : List Written) → Good (xs ++ ys) → Good ys
right xs ys h = right_sound xs ys h

-- ---- labels

name_ok : (w : NameToken) → IsTrue (good_kind (name_kind w)) → IsTrue (is_label (name_label w))
name_ok (plain x) h = h
name_ok (quoted x) h = h

builtin_label : (b : Builtin) → IsTrue (is_label (builtin_name b))
builtin_label builtins.TypeConst = refl
builtin_label _ = refl

key_ok : (k : Key) → IsTrue (good_kind (key_kind k)) → IsTrue (is_label (key_label k))
key_ok (name_key w) h = name_ok w h
key_ok (truth_key true) h = refl
key_ok (truth_key false) h = refl
key_ok (builtin_key b) h = builtin_label b
key_ok some_key h = refl

labels_last : (xs : List Name) (x : Name) → IsTrue (list_all is_label xs) → IsTrue (is_label x) → IsTrue (list_all is_label (xs ++ x ∷ []))
labels_last xs x h l = list_all-append is_label xs (x ∷ []) ∙ both (list_all is_label xs) (list_all is_label (x ∷ [])) h (both (is_label x) true l refl)

keys_ok : (n : ℕ) (g : Bool) (m : _) (ks : Keys) → Good (keys_yield n g m ks) → IsTrue (list_all is_label (labels ks))
keys_ok n g m (one_key k) h = both (is_label (key_label k)) true (key_ok k (head h)) refl
keys_ok n g m (more_keys ks k) h = labels_last (labels ks) (key_label k) (keys_ok n g m ks (left _ _ h)) (key_ok k (head (tail (right (keys_yield n g m ks) _ h))))

some_labels : (ks : Keys) → IsTrue (has_some (labels ks))
some_labels (one_key k) = refl
some_labels (more_keys ks k) = some_last (labels ks) (key_label k)

-- the labels of a projection
sorted_ok : (ks : Keys) → IsTrue (list_all is_label (labels ks)) → Fairly (λ u. ⊤) (sorted ks)
sorted_ok (one_key k) h = put_fairly (λ u. ⊤) (λ a b. a) (λ a b c d. tt) (key_label k, tt) [] (left_of (is_label (key_label k)) true h) tt (none_fairly (λ u. ⊤))
sorted_ok (more_keys ks k) h =
    let e = sym (list_all-append is_label (labels ks) (key_label k ∷ [])) ∙ h in
    put_fairly (λ u. ⊤) (λ a b. a) (λ a b c d. tt) (key_label k, tt) (sorted ks)
    (left_of (is_label (key_label k)) true (right_of (list_all is_label (labels ks)) (list_all is_label (key_label k ∷ [])) e)) tt
    (sorted_ok ks (left_of (list_all is_label (labels ks)) (list_all is_label (key_label k ∷ [])) e))

-- ---- leaves

leaf_fair : (x : Name) (i : Option ℕ) (j : ℕ) → variable_term x i ≡ Leaf (record { name = x; index = j }) → IsTrue (is_label x) → j ≤ most_index → Fair (variable_term x i)
leaf_fair x i j e l h = subst Fair (sym e) (record { well = tt; named = both (is_label x) (nat_le j most_index) l (le-leb j most_index h); valued = refl })

-- an index behind a name and `@`
not_is : (b : Bool) → IsTrue (not b) → b ≡ false
not_is true h = cc
not_is false h = refl

low : (i : ℕ) → IsTrue (not (nat_le (2 ^ 31) i)) → i ≤ most_index
low i h = let g = leb-false (2 ^ 31) i (not_is (nat_le (2 ^ 31) i) h) in omega arith

index_low : (w : NameToken) (i : ℕ) (b : Before) → IsTrue (sound b (name_kind w ∷ kinds.Mark At ∷ kinds.Natural i ∷ [])) → i ≤ most_index
index_low (plain x) i b h = low i (left_of (not (nat_le (2 ^ 31) i)) _ (right_of (good_kind (kinds.Natural i)) _ (right_of (not (is_wide_index b (kinds.Name x))) _ (right_of (is_label x) _ h))))
index_low (quoted x) i b h = low i (left_of (not (nat_le (2 ^ 31) i)) _ (right_of (good_kind (kinds.Natural i)) _ (right_of (not (is_wide_index b (kinds.Quoted x))) _ (right_of (is_label x) _ h))))

variable_fair : (n : ℕ) (g : Bool) (w : NameToken) (i : Option ℕ) → Good (yield n g (variable w i)) → Fair (variable_term (name_label w) i)
variable_fair n g w None h = leaf_fair (name_label w) None 0 refl (name_ok w (head h)) (omega arith)
variable_fair n g w (Some i) h = leaf_fair (name_label w) (Some i) i refl (name_ok w (head h)) (index_low w i h.before h.are)

location_ok : (i : ImportType) → IsTrue (good_kind (import_type_kind i)) → IsTrue (loc_fits (location i)) × IsTrue (location_spellable (location i))
location_ok (path l) h = (left_of (loc_fits l) (location_spellable l) h, right_of (loc_fits l) (location_spellable l) h)
location_ok (url l) h = (left_of (loc_fits l) (location_spellable l) h, right_of (loc_fits l) (location_spellable l) h)
location_ok (environment x) h = (refl, h)
location_ok missing h = (refl, refl)

digest_ok : (n : ℕ) (d : Option Digest) → Good (digest_yield n d) → IsTrue (digest_if d)
digest_ok n None h = refl
digest_ok n (Some d) h = head h

import_fair : (n : ℕ) (g : Bool) (i : ImportType) (d : Option Digest) (m : Mode) → Good (yield n g (import i d m)) → Fair (meaning (import i d m))
import_fair n g i d m h =
    let l = location_ok i (head h) in
    fair_node (ops.Import (record { loc = location i; mode = m; digest = d })) end (both (loc_fits (location i)) true l.0 refl) l.1 (digest_ok n d (left _ _ (tail h))) fair_end

-- ---- entries

dotted_fair : (ks : Keys) (v : Term) → IsTrue (list_all is_label (labels ks)) → Fair v → IsTrue (is_label (dotted ks v).0) × Fair (dotted ks v).1
dotted_fair (one_key k) v h f = (left_of (is_label (key_label k)) true h, f)
dotted_fair (more_keys ks k) v h f =
    let e = sym (list_all-append is_label (labels ks) (key_label k ∷ [])) ∙ h in
    let l = left_of (is_label (key_label k)) true (right_of (list_all is_label (labels ks)) (list_all is_label (key_label k ∷ [])) e) in
    dotted_fair ks (record_term ((key_label k, v) ∷ [])) (left_of (list_all is_label (labels ks)) (list_all is_label (key_label k ∷ [])) e)
    (fair_record ((key_label k, v) ∷ []) (put_fairly Fair joined fair_joined (key_label k, v) [] l f (none_fairly Fair)))

pieces_count : (cs : Chunks) → length (pieces cs) ≡ suc (length (interpolations cs))
pieces_count (start p) = refl
pieces_count (more_chunks cs e p) = length_last (pieces cs) _ ∙ ap suc (pieces_count cs ∙ sym (length_last (interpolations cs) (meaning e)))

items_some : (is : Items) → IsTrue (has_some (items is))
items_some (one_item e) = refl
items_some (more_items is e) = some_last (items is) (meaning e)

-- ---- trees

mutual
  pub fair : (n : ℕ) (g : Bool) (d : Derivation) → Good (yield n g d) → Fair (meaning d)
  fair n g (lambda w a b) h =
      let t = tail (tail (tail (tail h))) in
      fair_node ops.Lam _ refl refl refl (fair_part (meaning a) _ (fair (suc n) apart a (left _ _ t)) (fair_kid (Some (name_label w)) (meaning b) end (name_ok w (head (tail (tail h)))) (fair (suc n) free b (tail (tail (right (yield (suc n) apart a) _ t)))) fair_end))
  fair n g (pi w a b) h =
      let t = tail (tail (tail (tail h))) in
      fair_node ops.Pi _ refl refl refl (fair_part (meaning a) _ (fair (suc n) apart a (left _ _ t)) (fair_kid (Some (name_label w)) (meaning b) end (name_ok w (head (tail (tail h)))) (fair (suc n) free b (tail (tail (right (yield (suc n) apart a) _ t)))) fair_end))
  fair n g (arrow a b) h = fair_node ops.Pi _ refl refl refl (fair_part (meaning a) _ (fair n g a (left _ _ h)) (fair_kid (Some (codes "_")) (meaning b) end refl (fair (suc n) free b (tail (right (yield n g a) _ h))) fair_end))
  fair n g (choice p t e) h =
      let u = tail h in
      let l : Good (yield (suc n) apart p ++ (keyword n free _ ∷ yield (suc n) apart t)) = left _ _ u in
      fair_three ops.If (meaning p) (meaning t) (meaning e) refl refl refl (fair (suc n) apart p (left _ _ l)) (fair (suc n) apart t (tail (right (yield (suc n) apart p) _ l)))
      (fair (suc n) apart e (tail (right (yield (suc n) apart p ++ (keyword n free _ ∷ yield (suc n) apart t)) _ u)))
  fair n g (lets ls b) h = fair_lets n g ls (meaning b) (left _ _ h) (fair (suc n) apart b (tail (right (lets_yield n g ls) _ h)))
  fair n g (updates us) h = fair_updates n g us h
  fair n g (merge_as t u a) h =
      let v = tail h in
      let l : Good (yield n apart t ++ yield n apart u) = left _ _ v in
      fair_three (ops.Merge true) (meaning t) (meaning u) (meaning a) refl refl refl (fair n apart t (left _ _ l)) (fair n apart u (right (yield n apart t) _ l)) (fair (suc n) apart a (tail (right (yield n apart t ++ yield n apart u) _ v)))
  fair n g (to_map_as t a) h = fair_two (ops.ToMap true) (meaning t) (meaning a) refl refl refl (fair n apart t (left _ _ (tail h))) (fair (suc n) apart a (tail (right (yield n apart t) _ (tail h))))
  fair n g (empty_list c a) h = fair_one ops.EmptyList (meaning a) refl refl refl (fair (suc n) apart a (tail (tail (right (separator n c Comma) _ (tail h)))))
  fair n g (assertion a) h = fair_one ops.Assert (meaning a) refl refl refl (fair (suc n) apart a (tail (tail h)))
  fair n g (annotation t a) h = fair_two ops.Annot (meaning t) (meaning a) refl refl refl (fair n g t (left _ _ h)) (fair (suc n) apart a (tail (right (yield n g t) _ h)))
  fair n g (operation o l r) h = fair_two (ops.Bin o) (meaning l) (meaning r) refl refl refl (fair n g l (left _ _ h)) (fair n _ r (tail (right (yield n g l) _ h)))
  fair n g (application f x) h = fair_two ops.App (meaning f) (meaning x) refl refl refl (fair n g f (left _ _ h)) (fair n apart x (right (yield n g f) _ h))
  fair n g (merging t u) h = fair_two (ops.Merge false) (meaning t) (meaning u) refl refl refl (fair n apart t (left _ _ (tail h))) (fair n apart u (right (yield n apart t) _ (tail h)))
  fair n g (some_of t) h = fair_one ops.Some (meaning t) refl refl refl (fair n apart t (tail h))
  fair n g (to_map t) h = fair_one (ops.ToMap false) (meaning t) refl refl refl (fair n apart t (tail h))
  fair n g (import i d m) h = import_fair n g i d m h
  fair n g (field t k) h = fair_one (ops.Field (key_label k)) (meaning t) refl (key_ok k (head (tail (right (yield n g t) _ h)))) refl (fair n g t (left _ _ h))
  fair n g (project_none t c) h = fair_one (ops.Project []) (meaning t) refl refl refl (fair n g t (left _ _ (left _ _ h)))
  fair n g (project t c ks d) h =
      let l = left _ _ (left _ _ h) in
      let s = sorted_ok ks (keys_ok n free Comma ks (right (yield n g t ++ (mark n free Dot ∷ mark n free _ ∷ separator n c Comma)) _ l)) in
      fair_one (ops.Project (names (sorted ks))) (meaning t) (both (ascending (names (sorted ks))) true s.order refl) s.labels refl (fair n g t (left _ _ (left _ _ l)))
  fair n g (project_by t a) h =
      let l = left _ _ h in
      fair_two ops.ProjectType (meaning t) (meaning a) refl refl refl (fair n g t (left _ _ l)) (fair (suc n) free a (tail (tail (right (yield n g t) _ l))))
  fair n g (natural i) h = fair_node (ops.Nat i) end refl refl (head h) fair_end
  fair n g (integer z) h = fair_node (ops.Int z) end refl refl (head h) fair_end
  fair n g (truth b) h = fair_node (ops.Bool b) end refl refl refl fair_end
  fair n g (builtin b) h = fair_node (ops.Builtin b) end refl refl refl fair_end
  fair n g (variable w i) h = variable_fair n g w i h
  fair n g (text f cs) h = fair_text f (pieces cs) (interpolations cs) (pieces_count cs) (fair_chunks n cs (left _ _ (tail h)))
  fair n g (brackets e) h = fair (suc n) free e (left _ _ (tail h))
  fair n g (list c is d) h =
      let l = left _ _ (left _ _ (tail h)) in
      fair_node ops.List (parts (items is)) (some_parts (items is) (items_some is)) refl refl (fair_parts (items is) (fair_items n is (right (separator n c Comma) _ l)))
  fair n g (union_none c) h = fair_node (ops.Union []) end refl refl refl fair_end
  fair n g (union c as' d) h = fair_union (alternatives as') (fair_alternatives n as' (right (separator n c _) _ (left _ _ (left _ _ (tail h)))))
  fair n g (record_type_none c) h = fair_node (ops.RecordType []) end refl refl refl fair_end
  fair n g (record_type c fs d) h = fair_record_type (fields fs) (fair_fields n fs (right (separator n c _) _ (left _ _ (left _ _ (tail h)))))
  fair n g (record_none c d) h = fair_record [] (none_fairly Fair)
  fair n g (record_of c es d) h = fair_record (entries es) (fair_entries n es (right (separator n c _) _ (left _ _ (left _ _ (tail h)))))

  pub fair_note : (n : ℕ) (a : Note) → Good (note_yield n a) → FairNote (note a)
  fair_note n untyped h = tt
  fair_note n (typed a) h = fair (suc n) apart a (tail h)

  pub fair_lets : (n : ℕ) (g : Bool) (ls : Lets) (e : Term) → Good (lets_yield n g ls) → Fair e → Fair (lets_around ls e)
  fair_lets n g (one_let w a v) e h f =
      let t = tail (tail h) in
      fair_let (name_label w) (note a) (meaning v) e (name_ok w (head (tail h))) (fair_note n a (left _ _ t)) (fair (suc n) free v (tail (right (note_yield n a) _ t))) f
  fair_lets n g (more_lets ls w a v) e h f =
      let l : Good (lets_yield n g ls ++ (keyword n apart _ ∷ name n apart w ∷ note_yield n a)) = left _ _ h in
      let r = right (lets_yield n g ls) _ l in
      fair_lets n g ls _ (left _ _ l) (fair_let (name_label w) (note a) (meaning v) e (name_ok w (head (tail r))) (fair_note n a (tail (tail r))) (fair (suc n) free v (tail (right (lets_yield n g ls ++ (keyword n apart _ ∷ name n apart w ∷ note_yield n a)) _ h))) f)

  pub fair_updates : (n : ℕ) (g : Bool) (us : Updates) → Good (updates_yield n g us) → Fair (updated us)
  fair_updates n g (one_update t ks v) h =
      let l : Good (yield n g t ++ (keyword n apart _ ∷ keys_yield n apart Dot ks)) = left _ _ h in
      fair_two (ops.With (labels ks)) (meaning t) (meaning v) (both (has_some (labels ks)) true (some_labels ks) refl) (keys_ok n apart Dot ks (tail (right (yield n g t) _ l))) refl (fair n g t (left _ _ l))
      (fair n free v (tail (right (yield n g t ++ (keyword n apart _ ∷ keys_yield n apart Dot ks)) _ h)))
  fair_updates n g (more_updates us ks v) h =
      let l : Good (updates_yield n g us ++ (keyword n apart _ ∷ keys_yield n apart Dot ks)) = left _ _ h in
      fair_two (ops.With (labels ks)) (updated us) (meaning v) (both (has_some (labels ks)) true (some_labels ks) refl) (keys_ok n apart Dot ks (tail (right (updates_yield n g us) _ l))) refl (fair_updates n g us (left _ _ l))
      (fair n free v (tail (right (updates_yield n g us ++ (keyword n apart _ ∷ keys_yield n apart Dot ks)) _ h)))

  pub fair_chunks : (n : ℕ) (cs : Chunks) → Good (chunks_yield n cs) → AllFair (interpolations cs)
  fair_chunks n (start p) h = tt
  fair_chunks n (more_chunks cs e p) h =
      let l : Good (chunks_yield n cs ++ (token n free kinds.InterpolationOpen ∷ yield (suc n) free e)) = left _ _ h in
      all_last (interpolations cs) (meaning e) (fair_chunks n cs (left _ _ l)) (fair (suc n) free e (tail (right (chunks_yield n cs) _ l)))

  pub fair_items : (n : ℕ) (is : Items) → Good (items_yield n is) → AllFair (items is)
  fair_items n (one_item e) h = (fair (suc n) free e h, tt)
  fair_items n (more_items is e) h = all_last (items is) (meaning e) (fair_items n is (left _ _ h)) (fair (suc n) free e (tail (right (items_yield n is) _ h)))

  pub fair_alternatives : (n : ℕ) (as' : Alternatives) → Good (alternatives_yield n as') → Fairly FairNote (alternatives as')
  fair_alternatives n (one_alternative k a) h = put_fairly FairNote (λ a b. a) (λ a b f g. f) (key_label k, note a) [] (key_ok k (head h)) (fair_note n a (tail h)) (none_fairly FairNote)
  fair_alternatives n (more_alternatives as' k a) h =
      let r = tail (right (alternatives_yield n as') _ h) in
      put_fairly FairNote (λ a b. a) (λ a b f g. f) (key_label k, note a) (alternatives as') (key_ok k (head r)) (fair_note n a (tail r)) (fair_alternatives n as' (left _ _ h))

  pub fair_fields : (n : ℕ) (fs : Fields) → Good (fields_yield n fs) → Fairly Fair (fields fs)
  fair_fields n (one_field k a) h = put_fairly Fair (λ a b. a) (λ a b f g. f) (key_label k, meaning a) [] (key_ok k (head h)) (fair (suc n) apart a (tail (tail h))) (none_fairly Fair)
  fair_fields n (more_fields fs k a) h =
      let r = tail (right (fields_yield n fs) _ h) in
      put_fairly Fair (λ a b. a) (λ a b f g. f) (key_label k, meaning a) (fields fs) (key_ok k (head r)) (fair (suc n) apart a (tail (tail r))) (fair_fields n fs (left _ _ h))

  pub fair_entry : (n : ℕ) (e : Entry) → Good (entry_yield n e) → IsTrue (is_label (entry e).0) × Fair (entry e).1
  fair_entry n (alone k) h = let l = key_ok k (head h) in (l, leaf_fair (key_label k) None 0 refl l (omega arith))
  fair_entry n (given ks v) h = dotted_fair ks (meaning v) (keys_ok n free Dot ks (left _ _ h)) (fair (suc n) free v (tail (right (keys_yield n free Dot ks) _ h)))

  pub fair_entries : (n : ℕ) (es : Entries) → Good (entries_yield n es) → Fairly Fair (entries es)
  fair_entries n (one_entry e) h = let f = fair_entry n e h in put_fairly Fair joined fair_joined (entry e) [] f.0 f.1 (none_fairly Fair)
  fair_entries n (more_entries es e) h =
      let f = fair_entry n e (tail (right (entries_yield n es) _ h)) in
      put_fairly Fair joined fair_joined (entry e) (entries es) f.0 f.1 (fair_entries n es (left _ _ h))
