-- The machine reads every derived tree.
use Rattle.std.proofs.Common.{◌≡◌, ℕ, suc, ◌<◌, ◌≤◌, Bool, true, false, [], ◌∷◌, ◌++◌, refl, ◌∙◌, ap, arith, leb-true, ltb-true}
use Rattle.std.specs.Prelude.{IsTrue, Option, Some, None}
use Rattle.dh_syntax.specs.declared.tokens.Keyword.TheVariants as keywords
use Rattle.dh_syntax.specs.declared.tokens.Mark.TheVariants.{ParenClose, Comma, Dot, Colon, Equals, Arrow, Operator}
use Rattle.dh_syntax.specs.declared.tokens.TextForm.{TextForm}
use Rattle.dh_syntax.specs.declared.tokens.TokenKind.TheVariants as kinds
use Rattle.dh_syntax.specs.Text.Derivation.{NameToken, Key, Derivation, lambda, pi, arrow, choice, lets, updates, merge_as, to_map_as, empty_list, assertion, annotation, operation, application, merging, some_of, to_map, import, field, project_none, project, project_by, natural, integer, truth, builtin, variable, text, brackets, list, union_none, union, record_type_none, record_type, record_none, record_of, Note, untyped, typed, Lets, one_let, more_lets, Updates, one_update, more_updates, Chunks, start, more_chunks, Items, one_item, more_items, Alternatives, one_alternative, more_alternatives, Fields, one_field, more_fields, Entry, alone, given, Entries, one_entry, more_entries}
use Rattle.dh_syntax.specs.Text.Derived.{binds, is_imp, note_derived, lets_derived, updates_derived, chunks_derived, items_derived, alternatives_derived, fields_derived, entry_derived, entries_derived}
use Rattle.dh_syntax.specs.Expressions.Levels.{level_of, left_level}
use Rattle.dh_syntax.specs.Text.Yield.{token, mark, keyword, name, apart, free, gap_after, keys_yield, digest_yield, mode_yield, yield, note_yield, lets_yield, updates_yield, chunks_yield, items_yield, alternatives_yield, fields_yield, entry_yield, entries_yield}
use Rattle.dh_grammar.specs.Machine.{left, applied, merged, somed, mapped, update, body, target, otherwise, bound, noted, emptied, asserted, opening, behind, bracket, domain, condition, branch, let_type, let_value, selected, first, items, alternative_type, field_type, entry_value, chunk, «open», shut, imported, ready, asserting, letting, lettered, dotted, union_start, alternative, record_start, entry_comma, text_front, need, have, wait}
use Rattle.dh_grammar.specs.Trees.{Stack, State, noting, add_alternative, add_entry, after, least}
use Rattle.dh_grammar.specs.Running.{run}
use Rattle.dh_grammar.specs.Inside.Valid.{D}
use Rattle.dh_grammar.proofs.TruthValues.{left_of, right_of, not_false}
use Rattle.dh_grammar.proofs.Grammar.ReadTokens.{run-append, ReadTo, read_as, in_frame, at_once, ready_now, join_low, left_above, reads_operator, reads_dot, reads_arrow, fits_in, ends, operation_left, argues, argued, applies, IsEntryStart, record_entry, comma_entry, reads_entry_keys, reads_field, union_first, begins_import}
use Rattle.dh_grammar.proofs.Grammar.ReadLists.{ends_as, LetsRead, ItemsRead, AlternativesRead, FieldsRead, EntriesRead, ChunksRead, UpdatesRead, front_read, let_ends, item_ends, alternative_ends, field_ends, entry_ends, noting_plain, read_is, quantifying, part_then, merging_read, to_map_read, noted_read, indexed_read, import_read, union_none_read, record_type_none_read, record_none_read, project_none_read, project_none_shape, choice_steps, empty_steps, merge_noted, map_noted, project_steps, project_by_steps, list_steps, union_steps, record_type_steps, record_of_steps, let_steps, more_let_steps, update_at, update_read, more_update_read, chunk_steps, alternative_steps, field_steps}

mutual
  pub reads : (d : Derivation) (st : Stack) (n : ℕ) (g : Bool) (k : ℕ) → D d → least st ≤ binds d → k ≤ binds d → ReadTo (run (need st) (yield n g d)) k st d
  reads (lambda w a b) st n g k d l m =
      read_as _ (run (need («open» (body true w a) ∷ st)) (yield (suc n) free b)) k st (lambda w a b)
      (quantifying true w a b st n g l (reads a (shut (domain true w) ∷ st) (suc n) apart 0 (left_of _ _ d) (omega arith) (omega arith)))
      (in_frame _ k (body true w a) st b m (reads b («open» (body true w a) ∷ st) (suc n) free k (right_of _ _ d) (omega arith) (omega arith)))
  reads (pi w a b) st n g k d l m =
      read_as _ (run (need («open» (body false w a) ∷ st)) (yield (suc n) free b)) k st (pi w a b)
      (quantifying false w a b st n g l (reads a (shut (domain false w) ∷ st) (suc n) apart 0 (left_of _ _ d) (omega arith) (omega arith)))
      (in_frame _ k (body false w a) st b m (reads b («open» (body false w a) ∷ st) (suc n) free k (right_of _ _ d) (omega arith) (omega arith)))
  reads (arrow a b) st n g k d l m =
      let isop = leb-true 1 (binds a) (left_of _ _ (left_of _ _ d)) in
      let r = reads a st n g 1 (right_of _ _ (left_of _ _ d)) (omega arith) isop in
      read_as _ (run (need («open» (target a) ∷ st)) (yield (suc n) free b)) k st (arrow a b)
      (part_then (need st) (yield n g a) _ (mark n free Arrow) (need («open» (target a) ∷ st)) (reads_arrow _ st a r l))
      (in_frame _ k (target a) st b m (reads b («open» (target a) ∷ st) (suc n) free k (right_of _ _ d) (omega arith) (omega arith)))
  reads (choice p t e) st n g k d l m =
      let rp = reads p (shut condition ∷ st) (suc n) apart 0 (left_of _ _ (left_of _ _ d)) (omega arith) (omega arith) in
      let rt = reads t (shut (branch p) ∷ st) (suc n) apart 0 (right_of _ _ (left_of _ _ d)) (omega arith) (omega arith) in
      let ep : after (kinds.Keyword keywords.Then) (run (need (shut condition ∷ st)) (yield (suc n) apart p)) ≡ need (shut (branch p) ∷ st) = ends (kinds.Keyword keywords.Then) condition _ st p (λ st h. refl) refl rp in
      let et : after (kinds.Keyword keywords.Else) (run (need (shut (branch p) ∷ st)) (yield (suc n) apart t)) ≡ need («open» (otherwise p t) ∷ st) = ends (kinds.Keyword keywords.Else) (branch p) _ st t (λ st h. refl) refl rt in
      read_as _ (run (need («open» (otherwise p t) ∷ st)) (yield (suc n) apart e)) k st (choice p t e)
      (choice_steps p t e st n g l ep et)
      (in_frame _ k (otherwise p t) st e m (reads e («open» (otherwise p t) ∷ st) (suc n) apart k (right_of _ _ d) (omega arith) (omega arith)))
  reads (lets ls b) st n g k d l m =
      read_as _ (run (need («open» (bound ls) ∷ st)) (yield (suc n) apart b)) k st (lets ls b)
      (part_then (need st) (lets_yield n g ls) _ (keyword n apart keywords.In) (need («open» (bound ls) ∷ st)) (reads_lets ls st n g (left_of _ _ d) l).off)
      (in_frame _ k (bound ls) st b m (reads b («open» (bound ls) ∷ st) (suc n) apart k (right_of _ _ d) (omega arith) (omega arith)))
  reads (updates us) st n g k d l m = update_at k (run (need st) (updates_yield n g us)) st us m (reads_updates us st n g d l)
  reads (merge_as t u a) st n g k d l m =
      let dm : D (merging t u) = left_of _ _ d in
      let r = reads t (shut first ∷ st) n apart 14 (right_of _ _ (left_of _ _ dm)) (leb-true 15 (binds t) (left_of _ _ (left_of _ _ (left_of _ _ dm)))) (let b = leb-true 15 (binds t) (left_of _ _ (left_of _ _ (left_of _ _ dm))) in omega arith) in
      let q = reads u («open» (merged t) ∷ st) n apart 1 (right_of _ _ dm) (leb-true 15 (binds u) (right_of _ _ (left_of _ _ (left_of _ _ dm)))) (let b = leb-true 15 (binds u) (right_of _ _ (left_of _ _ (left_of _ _ dm))) in omega arith) in
      merge_noted t u a st n g k m l (merging_read t u st n g 1 dm (omega arith) (omega arith) r q) (reads a («open» (noted (merging t u)) ∷ st) (suc n) apart k (right_of _ _ d) (omega arith) (omega arith))
  reads (to_map_as t a) st n g k d l m =
      let dm : D (to_map t) = left_of _ _ d in
      let q = reads t («open» mapped ∷ st) n apart 1 (right_of _ _ dm) (leb-true 15 (binds t) (left_of _ _ dm)) (let b = leb-true 15 (binds t) (left_of _ _ dm) in omega arith) in
      map_noted t a st n g k m l (to_map_read t st n g 1 (omega arith) (omega arith) q) (reads a («open» (noted (to_map t)) ∷ st) (suc n) apart k (right_of _ _ d) (omega arith) (omega arith))
  reads (empty_list c a) st n g k d l m =
      read_as _ (run (need («open» (emptied c) ∷ st)) (yield (suc n) apart a)) k st (empty_list c a)
      (empty_steps c a st n g l)
      (in_frame _ k (emptied c) st a m (reads a («open» (emptied c) ∷ st) (suc n) apart k d (omega arith) (omega arith)))
  reads (assertion a) st n g k d l m =
      read_as _ (run (need («open» asserted ∷ st)) (yield (suc n) apart a)) k st (assertion a)
      (ap (λ s. run s (mark n free Colon ∷ yield (suc n) apart a)) (fits_in 0 st (wait asserting st) l))
      (in_frame _ k asserted st a m (reads a («open» asserted ∷ st) (suc n) apart k d (omega arith) (omega arith)))
  reads (annotation t a) st n g k d l m =
      let isop = leb-true 1 (binds t) (left_of _ _ (left_of _ _ (left_of _ _ d))) in
      read_is _ k st (noting t a) (annotation t a) (noting_plain t a (not_false _ (right_of _ _ (left_of _ _ (left_of _ _ d)))))
      (noted_read t a (yield n g t) st n k m l (reads t st n g 1 (right_of _ _ (left_of _ _ d)) (omega arith) isop) (reads a («open» (noted t) ∷ st) (suc n) apart k (right_of _ _ d) (omega arith) (omega arith)))
  reads (operation o x y) st n g k d l m =
      let bl = operation_left o x y d in let above = left_above o in
      let br : level_of o < binds y = ltb-true (level_of o) (binds y) (right_of _ _ (left_of _ _ (left_of _ _ d))) in
      let r = reads x st n g (left_level o) (right_of _ _ (left_of _ _ d)) (omega arith) bl in
      read_as _ (run (need («open» (left x o) ∷ st)) (yield n (gap_after o) y)) k st (operation o x y)
      (part_then (need st) (yield n g x) _ (mark n free (Operator o)) (need («open» (left x o) ∷ st)) (reads_operator o _ st x r l bl))
      (in_frame _ k (left x o) st y m (reads y («open» (left x o) ∷ st) n (gap_after o) k (right_of _ _ d) br (omega arith)))
  reads (application f x) st n g k d l m =
      let bf = leb-true 14 (binds f) (left_of _ _ (left_of _ _ (left_of _ _ d))) in
      let bx = leb-true 15 (binds x) (right_of _ _ (left_of _ _ (left_of _ _ d))) in
      let r = reads f st n g 14 (right_of _ _ (left_of _ _ d)) (omega arith) bf in
      read_as _ (run (need («open» (applied f) ∷ st)) (yield n apart x)) k st (application f x)
      (run-append (need st) (yield n g f) (yield n apart x)
      ∙ argued (yield n apart x) _ st f («open» (applied f) ∷ st) (argues x n apart (right_of _ _ d) bx) r (join_low 14 st f (omega arith) l) (λ k. applies k st f l))
      (in_frame _ k (applied f) st x m (reads x («open» (applied f) ∷ st) n apart k (right_of _ _ d) bx (omega arith)))
  reads (merging t u) st n g k d l m =
      let bt = leb-true 15 (binds t) (left_of _ _ (left_of _ _ (left_of _ _ d))) in
      let bu = leb-true 15 (binds u) (right_of _ _ (left_of _ _ (left_of _ _ d))) in
      merging_read t u st n g k d l m (reads t (shut first ∷ st) n apart 14 (right_of _ _ (left_of _ _ d)) bt (omega arith)) (reads u («open» (merged t) ∷ st) n apart k (right_of _ _ d) bu (omega arith))
  reads (some_of t) st n g k d l m =
      let bt = leb-true 15 (binds t) (left_of _ _ d) in
      read_as _ (run (need («open» somed ∷ st)) (yield n apart t)) k st (some_of t) (ap (λ s. run s (yield n apart t)) (fits_in 14 st (need («open» somed ∷ st)) l))
      (in_frame _ k somed st t m (reads t («open» somed ∷ st) n apart k (right_of _ _ d) bt (omega arith)))
  reads (to_map t) st n g k d l m =
      let bt = leb-true 15 (binds t) (left_of _ _ d) in
      to_map_read t st n g k l m (reads t («open» mapped ∷ st) n apart k (right_of _ _ d) bt (omega arith))
  reads (import i x y) st n g k d l m =
      read_as _ (run (have st (imported i None)) (digest_yield n x ++ mode_yield n y)) k st (import i x y)
      (ap (λ s. run s (digest_yield n x ++ mode_yield n y)) (begins_import st i ∙ fits_in 15 st _ l)) (import_read i x y st n k)
  reads (field t y) st n g k d l m =
      let bt = leb-true 16 (binds t) (left_of _ _ d) in
      ready_now _ k st (field t y)
      (part_then (need st) (yield n g t) _ (mark n free Dot) (wait (dotted t) st) (reads_dot _ st t (reads t st n g 16 (right_of _ _ d) (omega arith) bt) bt) ∙ reads_field t st y)
  reads (project_none t c) st n g k d l m =
      let bt = leb-true 16 (binds t) (left_of _ _ d) in
      ready_now _ k st (project_none t c)
      (ap (run (need st)) (project_none_shape n g t c) ∙ part_then (need st) (yield n g t) _ (mark n free Dot) (wait (dotted t) st) (reads_dot _ st t (reads t st n g 16 (right_of _ _ d) (omega arith) bt) bt) ∙ project_none_read t c st n)
  reads (project t c ks e) st n g k d l m =
      let bt = leb-true 16 (binds t) (left_of _ _ (left_of _ _ d)) in
      ready_now _ k st (project t c ks e)
      (project_steps t c ks e st n g (reads_dot _ st t (reads t st n g 16 (right_of _ _ (left_of _ _ d)) (omega arith) bt) bt) (right_of _ _ d))
  reads (project_by t a) st n g k d l m =
      let bt = leb-true 16 (binds t) (left_of _ _ (left_of _ _ d)) in
      let r = reads a (shut (selected t) ∷ st) (suc n) free 0 (right_of _ _ d) (omega arith) (omega arith) in
      ready_now _ k st (project_by t a)
      (project_by_steps t a st n g (reads_dot _ st t (reads t st n g 16 (right_of _ _ (left_of _ _ d)) (omega arith) bt) bt) (ends (kinds.Mark ParenClose) (selected t) _ st a (λ st h. refl) refl r))
  reads (natural i) st n g k d l m = at_once k st (ready (natural i))
  reads (integer z) st n g k d l m = at_once k st (ready (integer z))
  reads (truth b) st n g k d l m = at_once k st (ready (truth b))
  reads (builtin b) st n g k d l m = at_once k st (ready (builtin b))
  reads (variable w i) st n g k d l m = indexed_read w i st n g k
  reads (text f cs) st n g k d l m =
      ready_now _ k st (text f cs)
      (part_then (wait (text_front f opening) st) (chunks_yield n cs) [] (token n free kinds.TextClose) (have st (ready (text f cs))) (reads_chunks cs f st n d).off)
  reads (brackets e) st n g k d l m =
      let r = reads e (shut bracket ∷ st) (suc n) free 0 d (omega arith) (omega arith) in
      ready_now _ k st (brackets e)
      (part_then (need (shut bracket ∷ st)) (yield (suc n) free e) [] (mark n free ParenClose) (have st (ready (brackets e))) (ends (kinds.Mark ParenClose) bracket _ st e (λ st h. refl) refl r))
  reads (list c is e) st n g k d l m = ready_now _ k st (list c is e) (list_steps c is e st n g (reads_items is c st n d))
  reads (union_none c) st n g k d l m = ready_now _ k st (union_none c) (union_none_read c st n g)
  reads (union c as' e) st n g k d l m = ready_now _ k st (union c as' e) (union_steps c as' e st n g (reads_alternatives as' c st n d))
  reads (record_type_none c) st n g k d l m = ready_now _ k st (record_type_none c) (record_type_none_read c st n g)
  reads (record_type c fs e) st n g k d l m = ready_now _ k st (record_type c fs e) (record_type_steps c fs e st n g (reads_fields fs c st n d))
  reads (record_none c e) st n g k d l m = ready_now _ k st (record_none c e) (record_none_read c e st n g)
  reads (record_of c es e) st n g k d l m = ready_now _ k st (record_of c es e) (record_of_steps c es e st n g (reads_entries es c st n d))

  reads_note : (a : Note) (ls : Option Lets) (w : NameToken) (st : Stack) (n : ℕ) → IsTrue (note_derived a) → after (kinds.Mark Equals) (run (wait (lettered ls w) st) (note_yield n a)) ≡ need (shut (let_value ls w a) ∷ st)
  reads_note untyped ls w st n d = refl
  reads_note (typed t) ls w st n d = ends (kinds.Mark Equals) (let_type ls w) _ st t (λ st h. refl) refl (reads t (shut (let_type ls w) ∷ st) (suc n) apart 0 d (omega arith) (omega arith))

  reads_lets : (ls : Lets) (st : Stack) (n : ℕ) (g : Bool) → IsTrue (lets_derived ls) → least st ≤ 0 → LetsRead (run (need st) (lets_yield n g ls)) st ls
  reads_lets (one_let w a v) st n g d l =
      ends_as _ _ _ _ _ _ (ap (λ s. run s (name n apart w ∷ note_yield n a ++ mark n free Equals ∷ yield (suc n) free v)) (fits_in 0 st (wait (letting None) st) l) ∙ let_steps None w a v st n (reads_note a None w st n (left_of _ _ d)))
      (let_ends _ None w a st v (reads v (shut (let_value None w a) ∷ st) (suc n) free 0 (right_of _ _ d) (omega arith) (omega arith)))
  reads_lets (more_lets ls w a v) st n g d l =
      ends_as _ _ _ _ _ _ (more_let_steps ls w a v st n g (reads_lets ls st n g (left_of _ _ (left_of _ _ d)) l).on ∙ let_steps (Some ls) w a v st n (reads_note a (Some ls) w st n (right_of _ _ (left_of _ _ d))))
      (let_ends _ (Some ls) w a st v (reads v (shut (let_value (Some ls) w a) ∷ st) (suc n) free 0 (right_of _ _ d) (omega arith) (omega arith)))

  reads_updates : (us : Updates) (st : Stack) (n : ℕ) (g : Bool) → IsTrue (updates_derived us) → least st ≤ 0 → UpdatesRead (run (need st) (updates_yield n g us)) st us
  reads_updates (one_update t ks v) st n g d l =
      let it : IsTrue (is_imp t) = left_of _ _ (left_of _ _ (left_of _ _ d)) in
      let bt = leb-true 15 (binds t) it in
      let bv = leb-true 1 (binds v) (right_of _ _ (left_of _ _ (left_of _ _ d))) in
      let dv = right_of _ _ d in
      let r = reads t st n g 1 (right_of _ _ (left_of _ _ d)) (omega arith) (omega arith) in
      update_read t ks v st n g l it r (reads v («open» (update t ks) ∷ st) n free 1 dv bv bv) (reads v («open» (update t ks) ∷ st) n free 0 dv bv (omega arith))
  reads_updates (more_updates us ks v) st n g d l =
      let bv = leb-true 1 (binds v) (left_of _ _ (left_of _ _ d)) in
      let dv = right_of _ _ d in
      more_update_read us ks v st n g (reads_updates us st n g (right_of _ _ (left_of _ _ d)) l).again (reads v («open» (update (updates us) ks) ∷ st) n free 1 dv bv bv) (reads v («open» (update (updates us) ks) ∷ st) n free 0 dv bv (omega arith))

  reads_chunks : (cs : Chunks) (f : TextForm) (st : Stack) (n : ℕ) → IsTrue (chunks_derived cs) → ChunksRead (run (wait (text_front f opening) st) (chunks_yield n cs)) f st cs
  reads_chunks (start p) f st n d = front_read f opening p st n
  reads_chunks (more_chunks cs e p) f st n d =
      let c = (reads_chunks cs f st n (left_of _ _ d)).on in
      let r = reads e (shut (chunk f cs) ∷ st) (suc n) free 0 (right_of _ _ d) (omega arith) (omega arith) in
      ends_as _ _ _ _ _ _ (chunk_steps cs e p f st n c (ends kinds.InterpolationClose (chunk f cs) _ st e (λ st h. refl) refl r)) (front_read f (behind cs e) p st n)

  reads_items : (is : Items) (c : Bool) (st : Stack) (n : ℕ) → IsTrue (items_derived is) → ItemsRead (run (need (shut (items c None) ∷ st)) (items_yield n is)) c st is
  reads_items (one_item e) c st n d = item_ends _ c None st e (reads e (shut (items c None) ∷ st) (suc n) free 0 d (omega arith) (omega arith))
  reads_items (more_items is e) c st n d =
      ends_as _ _ _ _ _ _ (part_then (need (shut (items c None) ∷ st)) (items_yield n is) _ (mark n free Comma) (need (shut (items c (Some is)) ∷ st)) (reads_items is c st n (left_of _ _ d)).on)
      (item_ends _ c (Some is) st e (reads e (shut (items c (Some is)) ∷ st) (suc n) free 0 (right_of _ _ d) (omega arith) (omega arith)))

  reads_alternative : (a : Note) (c : Bool) (as' : Option Alternatives) (k : Key) (st : Stack) (n : ℕ) → IsTrue (note_derived a) → AlternativesRead (run (wait (alternative c as' k) st) (note_yield n a)) c st (add_alternative as' k a)
  reads_alternative untyped c as' k st n d = record { on = refl; off = refl }
  reads_alternative (typed t) c as' k st n d = alternative_ends _ c as' k st t (reads t (shut (alternative_type c as' k) ∷ st) (suc n) apart 0 d (omega arith) (omega arith))

  reads_alternatives : (as' : Alternatives) (c : Bool) (st : Stack) (n : ℕ) → IsTrue (alternatives_derived as') → AlternativesRead (run (wait (union_start c) st) (alternatives_yield n as')) c st as'
  reads_alternatives (one_alternative k a) c st n d = ends_as _ _ _ _ _ _ (ap (λ s. run s (note_yield n a)) (union_first c st k)) (reads_alternative a c None k st n d)
  reads_alternatives (more_alternatives as' k a) c st n d =
      ends_as _ _ _ _ _ _ (alternative_steps as' k a c st n (reads_alternatives as' c st n (left_of _ _ (left_of _ _ d))).on (right_of _ _ (left_of _ _ d))) (reads_alternative a c (Some as') k st n (right_of _ _ d))

  reads_fields : (fs : Fields) (c : Bool) (st : Stack) (n : ℕ) → IsTrue (fields_derived fs) → FieldsRead (run (wait (record_start c) st) (fields_yield n fs)) c st fs
  reads_fields (one_field k a) c st n d =
      ends_as _ _ _ _ _ _ (ap (λ s. run s (mark n free Colon ∷ yield (suc n) apart a)) (record_entry c st k)) (field_ends _ c None k st a (reads a (shut (field_type c None k) ∷ st) (suc n) apart 0 d (omega arith) (omega arith)))
  reads_fields (more_fields fs k a) c st n d =
      ends_as _ _ _ _ _ _ (field_steps fs k a c st n (reads_fields fs c st n (left_of _ _ (left_of _ _ d))).on (right_of _ _ (left_of _ _ d)))
      (field_ends _ c (Some fs) k st a (reads a (shut (field_type c (Some fs) k) ∷ st) (suc n) apart 0 (right_of _ _ d) (omega arith) (omega arith)))

  reads_entry : (e : Entry) (s : State) (c : Bool) (es : Option Entries) (st : Stack) (n : ℕ) → IsEntryStart s c es st → IsTrue (entry_derived e) → EntriesRead (run s (entry_yield n e)) c st (add_entry es e)
  reads_entry (alone k) s c es st n h d = ends_as _ _ _ _ _ _ (h k) (record { on = refl; off = refl })
  reads_entry (given ks v) s c es st n h d =
      ends_as _ _ _ _ _ _ (part_then s (keys_yield n free Dot ks) _ (mark n free Equals) (need (shut (entry_value c es ks) ∷ st)) (ap (after (kinds.Mark Equals)) (reads_entry_keys ks n s c es st h)))
      (entry_ends _ c es ks st v (reads v (shut (entry_value c es ks) ∷ st) (suc n) free 0 d (omega arith) (omega arith)))

  reads_entries : (es : Entries) (c : Bool) (st : Stack) (n : ℕ) → IsTrue (entries_derived es) → EntriesRead (run (wait (record_start c) st) (entries_yield n es)) c st es
  reads_entries (one_entry e) c st n d = reads_entry e _ c None st n (record_entry c st) d
  reads_entries (more_entries es e) c st n d =
      ends_as _ _ _ _ _ _ (part_then (wait (record_start c) st) (entries_yield n es) (entry_yield n e) (mark n free Comma) (wait (entry_comma c es) st) (reads_entries es c st n (left_of _ _ d)).on)
      (reads_entry e _ c (Some es) st n (comma_entry c es st) (right_of _ _ d))
