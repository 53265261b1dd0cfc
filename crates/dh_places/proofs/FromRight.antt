-- What is noted of several parts, taken from the last one on.
use Rattle.std.proofs.Common.{◌≡◌, ℕ, suc, List, [], ◌∷◌, ◌++◌, map, refl, ap, sym, ◌∙◌}
use Rattle.dh_syntax.specs.Expressions.Tree.{Name}
use Rattle.dh_syntax.specs.Text.Meaning.{values}
use Rattle.dh_syntax.specs.Text.Noting.{Noting, concat, stands, records_round, lets_round}
use Rattle.dh_places.specs.declared.parts.Pending.{Pending}
use Rattle.dh_places.specs.declared.parts.Stand.{Stand}
use Rattle.dh_places.specs.Inside.Later.{later, position}
use Rattle.dh_places.specs.Parts.{pending_of, labelled, stands_under}

module _ (notes : Noting) where
  -- some rows before others
  abbrev pub before : List notes.row → notes.row → notes.row
  before [] r = r
  before (x ∷ xs) r = notes.joined x (before xs r)

  pub concat-before : (xs : List notes.row) → concat notes xs ≡ before xs notes.none
  concat-before [] = refl
  concat-before (x ∷ xs) = ap (notes.joined x) (concat-before xs)

  records-last : (xs : List ℕ) (x to : ℕ) (v : notes.row) → records_round notes (xs ++ x ∷ []) to v ≡ records_round notes xs to (notes.node x to v)
  records-last [] x to v = refl
  records-last (y ∷ xs) x to v = ap (notes.node y to) (records-last xs x to v)

  -- one record more round a value
  pub record_more : (n m from to : ℕ) (v w : notes.row) → n ≡ suc m → w ≡ notes.node (position m from) to v →
      records_round notes (later m from) to w ≡ records_round notes (later n from) to v
  record_more n m from to v w e f =
      ap (records_round notes (later m from) to) f ∙ sym (records-last (later m from) (position m from) to v) ∙ ap (λ k. records_round notes (later k from) to v) (sym e)

  module _ {R : Type 0} (view : R → notes.row) where
    lets-last : (ps : List (Pending R)) (p : Pending R) (to : ℕ) (body : notes.row) →
        lets_round notes (map (pending_of notes view) (ps ++ p ∷ [])) to body
        ≡ lets_round notes (map (pending_of notes view) ps) to (notes.node p.from to (notes.joined (view p.parts) body))
    lets-last [] p to body = refl
    lets-last (q ∷ ps) p to body = ap (λ r. notes.node q.from to (notes.joined (view q.parts) r)) (lets-last ps p to body)

    -- one binding more round a body
    pub let_more : (old new : List (Pending R)) (p : Pending R) (to : ℕ) (body w : notes.row) → old ≡ new ++ p ∷ [] →
        w ≡ notes.node p.from to (notes.joined (view p.parts) body) →
        lets_round notes (map (pending_of notes view) new) to w ≡ lets_round notes (map (pending_of notes view) old) to body
    let_more old new p to body w e f =
        ap (lets_round notes (map (pending_of notes view) new) to) f ∙ sym (lets-last new p to body) ∙ ap (λ ps. lets_round notes (map (pending_of notes view) ps) to body) (sym e)

    rows-last : (rs : List (Name × R)) (r : Name × R) (end : notes.row) →
        before (values (labelled notes view (rs ++ r ∷ []))) end ≡ before (values (labelled notes view rs)) (notes.joined (view r.1) end)
    rows-last [] r end = refl
    rows-last (q ∷ rs) r end = ap (notes.joined (view q.1)) (rows-last rs r end)

    -- one row more before those that are joined
    pub row_more : (old new : List (Name × R)) (r : Name × R) (end w : notes.row) → old ≡ new ++ r ∷ [] → w ≡ notes.joined (view r.1) end →
        before (values (labelled notes view new)) w ≡ before (values (labelled notes view old)) end
    row_more old new r end w e f =
        ap (before (values (labelled notes view new))) f ∙ sym (rows-last new r end) ∙ ap (λ rs. before (values (labelled notes view rs)) end) (sym e)

    -- what stands under labels
    abbrev pub stand_rows : List (Name × Stand R) → List notes.row
    stand_rows [] = []
    stand_rows (e ∷ es) = view e.1.value ∷ stand_rows es

    pub stands-before : (es : List (Name × Stand R)) → stands notes (stands_under notes view es) ≡ before (stand_rows es) notes.none
    stands-before [] = refl
    stands-before (e ∷ es) = ap (notes.joined (view e.1.value)) (stands-before es)

    stands-last : (es : List (Name × Stand R)) (e : Name × Stand R) (end : notes.row) →
        before (stand_rows (es ++ e ∷ [])) end ≡ before (stand_rows es) (notes.joined (view e.1.value) end)
    stands-last [] e end = refl
    stands-last (d ∷ es) e end = ap (notes.joined (view d.1.value)) (stands-last es e end)

    pub stand_more : (old new : List (Name × Stand R)) (e : Name × Stand R) (end w : notes.row) → old ≡ new ++ e ∷ [] → w ≡ notes.joined (view e.1.value) end →
        before (stand_rows new) w ≡ before (stand_rows old) end
    stand_more old new e end w h f =
        ap (before (stand_rows new)) f ∙ sym (stands-last new e end) ∙ ap (λ es. before (stand_rows es) end) (sym h)
