-- The rows of the operators on records, of record completion, selection, projection and `with`, on grafted expressions.
use Rattle.std.specs.Prelude.{◌≡◌, ℕ, List, [], ◌∷◌, Option, Some, None, option_map, unwrap_or, refl, true}
use Rattle.std.proofs.Common.{ap, ◌∙◌}
use Rattle.dh_syntax.specs.declared.operators.BinOp.TheVariants as bins
use Rattle.dh_syntax.specs.Normalising.ContractRecords.{combine, prefer, combine_types, record_completion, select_beside, select_preferred, select_combined, select, project_preferred, project, project_type, update_record, with_path}
use Rattle.dh_syntax.specs.Normalising.Contraction.{Gives}
use Rattle.dh_syntax.specs.Expressions.Forms as form
use Rattle.dh_syntax.specs.Expressions.Forms.{Fields, labels_of}
use Rattle.dh_syntax.specs.Expressions.Labels.{field_at, fields_among, add_field, all_fields, labels_without}
use Rattle.dh_syntax.specs.Expressions.Numbers.{le}
use Rattle.dh_laws.specs.Grafts.{Graft, grafted, Shown}
use Rattle.dh_syntax.specs.Expressions.Tree.{Tree, Name}
use Rattle.dh_laws.proofs.Contracting.GraftedCases.{Commutes, or-carried, when-carried, from-carried, on-carried, on-known-carried}
use Rattle.dh_laws.proofs.Contracting.GraftedFields.{has_others-grafted, field_at-grafted, fields_at-grafted, fields_among-grafted, add_field-grafted, all_fields-grafted}
use Rattle.dh_laws.proofs.Contracting.GraftedViews.{grafted_fields, grafted_two, labels_of-grafted, record_literal-grafted, record_type-grafted, as_record-grafted, is_empty_record-grafted, as_record_type-grafted, is_empty_record_type-grafted, as_projection-grafted, as_prefer-grafted, as_combine-grafted, prefer-shown, combine-shown}

module _ {S A B C D : Type 0} (m : Graft S A B C D) (s : S) where
  abbrev f : Tree A B → Tree C D
  f e = grafted m s e

  abbrev all : Fields A B → Fields C D
  all fs = grafted_fields m s fs

  unwrap_or-grafted : (o : Option (Tree A B)) (d : Tree A B) → unwrap_or (option_map f o) (f d) ≡ f (unwrap_or o d)
  unwrap_or-grafted (Some e) d = refl
  unwrap_or-grafted None d = refl

  -- ---- operators

  pub combine-grafted : (stage : ℕ) (l r : Tree A B) → (le 1 stage ≡ true → Shown m s l) → (le 2 stage ≡ true → Shown m s r) → Commutes f (combine stage (f l) (f r)) (combine stage l r)
  combine-grafted stage l r hl hr =
      from-carried f 1 stage _ _
      (λ q1. or-carried f _ _ _ _ (when-carried f _ _ _ _ (is_empty_record-grafted m s l (hl q1)) refl)
      (from-carried f 2 stage _ _
      (λ q2. or-carried f _ _ _ _ (when-carried f _ _ _ _ (is_empty_record-grafted m s r (hr q2)) refl)
      (on-carried f all _ _ _ _ (as_record-grafted m s l (hl q1)) λ fs. on-carried f all _ _ _ _ (as_record-grafted m s r (hr q2)) λ gs.
      let join : Tree A B → Tree A B → Tree A B = λ d e. form.operator bins.Combine d e in
      ap (λ hs. Gives (form.record_literal hs)) (all_fields-grafted m s join (λ d e. form.operator bins.Combine d e) (λ d e. refl) fs gs)
      ∙ ap Gives (record_literal-grafted m s (all_fields join fs gs))))))

  pub prefer-grafted : (stage : ℕ) (l r : Tree A B) → (le 1 stage ≡ true → Shown m s l) → (le 2 stage ≡ true → Shown m s r) → Commutes f (prefer stage (f l) (f r)) (prefer stage l r)
  prefer-grafted stage l r hl hr =
      from-carried f 1 stage _ _
      (λ q1. or-carried f _ _ _ _ (when-carried f _ _ _ _ (is_empty_record-grafted m s l (hl q1)) refl)
      (from-carried f 2 stage _ _
      (λ q2. or-carried f _ _ _ _ (when-carried f _ _ _ _ (is_empty_record-grafted m s r (hr q2)) refl)
      (or-carried f _ _ _ _
      (on-carried f all _ _ _ _ (as_record-grafted m s l (hl q1)) λ fs. on-carried f all _ _ _ _ (as_record-grafted m s r (hr q2)) λ gs.
      let join : Tree A B → Tree A B → Tree A B = λ d e. e in
      ap (λ hs. Gives (form.record_literal hs)) (all_fields-grafted m s join (λ d e. e) (λ d e. refl) fs gs)
      ∙ ap Gives (record_literal-grafted m s (all_fields join fs gs)))
      refl))))

  pub combine_types-grafted : (stage : ℕ) (l r : Tree A B) → (le 1 stage ≡ true → Shown m s l) → (le 2 stage ≡ true → Shown m s r) → Commutes f (combine_types stage (f l) (f r)) (combine_types stage l r)
  combine_types-grafted stage l r hl hr =
      from-carried f 1 stage _ _
      (λ q1. or-carried f _ _ _ _ (when-carried f _ _ _ _ (is_empty_record_type-grafted m s l (hl q1)) refl)
      (from-carried f 2 stage _ _
      (λ q2. or-carried f _ _ _ _ (when-carried f _ _ _ _ (is_empty_record_type-grafted m s r (hr q2)) refl)
      (on-carried f all _ _ _ _ (as_record_type-grafted m s l (hl q1)) λ fs. on-carried f all _ _ _ _ (as_record_type-grafted m s r (hr q2)) λ gs.
      let join : Tree A B → Tree A B → Tree A B = λ d e. form.operator bins.CombineTypes d e in
      ap (λ hs. Gives (form.record_type hs)) (all_fields-grafted m s join (λ d e. form.operator bins.CombineTypes d e) (λ d e. refl) fs gs)
      ∙ ap Gives (record_type-grafted m s (all_fields join fs gs))))))

  pub record_completion-grafted : (t r : Tree A B) → Commutes f (record_completion (f t) (f r)) (record_completion t r)
  record_completion-grafted t r = refl

  -- ---- selection and projection

  select_beside-grafted : (x : Name) (fs : Fields A B) (other : Tree A B) (narrowed : Tree A B → Tree A B) (narrowed' : Tree C D → Tree C D)
      → ((n : Tree A B) → narrowed' (f n) ≡ f (narrowed n)) → (o : Option (Tree A B))
      → Commutes f (select_beside x (all fs) (f other) narrowed' (option_map f o)) (select_beside x fs other narrowed o)
  select_beside-grafted x fs other narrowed narrowed' h None = refl
  select_beside-grafted x fs other narrowed narrowed' h (Some e) =
      when-carried f _ _ _ _ (has_others-grafted m s fs) (ap (λ n. Gives (form.field n x)) (h (form.record_literal ((x, e) ∷ []))))

  -- where the literal has these fields
  select_beside_fields-grafted : (x : Name) (fs : Fields A B) (other : Tree A B) (narrowed : Tree A B → Tree A B) (narrowed' : Tree C D → Tree C D)
      → ((n : Tree A B) → narrowed' (f n) ≡ f (narrowed n))
      → Commutes f (select_beside x (all fs) (f other) narrowed' (field_at x (all fs))) (select_beside x fs other narrowed (field_at x fs))
  select_beside_fields-grafted x fs other narrowed narrowed' h =
      ap (select_beside x (all fs) (f other) narrowed') (field_at-grafted m s x fs) ∙ select_beside-grafted x fs other narrowed narrowed' h (field_at x fs)

  select_preferred-grafted : (x : Name) (l r : Tree A B) → Shown m s l → Shown m s r → Commutes f (select_preferred x (f l) (f r)) (select_preferred x l r)
  select_preferred-grafted x l r hl hr =
      or-carried f _ _ _ _
      (on-carried f all _ _ _ _ (as_record-grafted m s r hr) λ gs.
      ap (λ o. Gives (unwrap_or o (form.field (f l) x))) (field_at-grafted m s x gs) ∙ ap Gives (unwrap_or-grafted (field_at x gs) (form.field l x)))
      (on-carried f all _ _ _ _ (as_record-grafted m s l hl) λ fs.
      select_beside_fields-grafted x fs r (λ n. form.operator bins.Prefer n r) (λ n. form.operator bins.Prefer n (f r)) (λ n. refl))

  select_combined-grafted : (x : Name) (l r : Tree A B) → Shown m s l → Shown m s r → Commutes f (select_combined x (f l) (f r)) (select_combined x l r)
  select_combined-grafted x l r hl hr =
      or-carried f _ _ _ _
      (on-carried f all _ _ _ _ (as_record-grafted m s l hl) λ fs.
      select_beside_fields-grafted x fs r (λ n. form.operator bins.Combine n r) (λ n. form.operator bins.Combine n (f r)) (λ n. refl))
      (on-carried f all _ _ _ _ (as_record-grafted m s r hr) λ gs.
      select_beside_fields-grafted x gs l (λ n. form.operator bins.Combine l n) (λ n. form.operator bins.Combine (f l) n) (λ n. refl))

  pub select-grafted : (stage : ℕ) (e : Tree A B) (x : Name) → (le 1 stage ≡ true → Shown m s e) → Commutes f (select stage (f e) x) (select stage e x)
  select-grafted stage e x he =
      from-carried f 1 stage _ _
      (λ q1. or-carried f _ _ _ _
      (on-carried f all _ _ _ _ (as_record-grafted m s e (he q1)) λ fs. on-carried f f _ _ _ _ (field_at-grafted m s x fs) λ v. refl)
      (or-carried f _ _ _ _ (on-carried f f _ _ _ _ (as_projection-grafted m s e (he q1)) λ d. refl)
      (or-carried f _ _ _ _
      (on-known-carried f (grafted_two m s) _ _ _ _ (as_prefer-grafted m s e (he q1)) λ p h. let k = prefer-shown m s e p h (he q1) in select_preferred-grafted x p.0 p.1 k.0 k.1)
      (on-known-carried f (grafted_two m s) _ _ _ _ (as_combine-grafted m s e (he q1)) λ p h. let k = combine-shown m s e p h (he q1) in select_combined-grafted x p.0 p.1 k.0 k.1))))

  project_preferred-grafted : (xs : List Name) (l r : Tree A B) → Shown m s r → Commutes f (project_preferred xs (f l) (f r)) (project_preferred xs l r)
  project_preferred-grafted xs l r hr =
      on-carried f all _ _ _ _ (as_record-grafted m s r hr) λ gs.
      let p = labels_of-grafted m s gs in
      let q = fields_among-grafted m s xs gs in
      let t = record_literal-grafted m s (fields_among xs gs) in
      ap (λ ks. Gives (form.operator bins.Prefer (form.projection (f l) (labels_without ks xs)) (form.record_literal (fields_among xs (all gs))))) p
      ∙ ap (λ hs. Gives (form.operator bins.Prefer (form.projection (f l) (labels_without (labels_of gs) xs)) (form.record_literal hs))) q
      ∙ ap (λ d. Gives (form.operator bins.Prefer (form.projection (f l) (labels_without (labels_of gs) xs)) d)) t

  pub project-grafted : (stage : ℕ) (e : Tree A B) (xs : List Name) → (le 1 stage ≡ true → Shown m s e) → Commutes f (project stage (f e) xs) (project stage e xs)
  project-grafted stage e xs he =
      or-carried f _ _ _ _ (when-carried f _ _ _ _ refl refl)
      (from-carried f 1 stage _ _
      (λ q1. or-carried f _ _ _ _
      (on-carried f all _ _ _ _ (as_record-grafted m s e (he q1)) λ fs. on-carried f all _ _ _ _ (fields_at-grafted m s xs fs) λ gs. ap Gives (record_literal-grafted m s gs))
      (or-carried f _ _ _ _ (on-carried f f _ _ _ _ (as_projection-grafted m s e (he q1)) λ d. refl)
      (on-known-carried f (grafted_two m s) _ _ _ _ (as_prefer-grafted m s e (he q1)) λ p h. project_preferred-grafted xs p.0 p.1 (prefer-shown m s e p h (he q1)).1))))

  pub project_type-grafted : (stage : ℕ) (e t : Tree A B) → (le 1 stage ≡ true → Shown m s t) → Commutes f (project_type stage (f e) (f t)) (project_type stage e t)
  project_type-grafted stage e t ht =
      from-carried f 1 stage _ _ (λ q1. on-carried f all _ _ _ _ (as_record_type-grafted m s t (ht q1)) λ fs.
      ap (λ ks. Gives (form.projection (f e) ks)) (labels_of-grafted m s fs))

  -- ---- update

  update_record-grafted : (fs : Fields A B) (path : List Name) (v : Tree A B) → Commutes f (update_record (all fs) path (f v)) (update_record fs path v)
  update_record-grafted fs [] v = refl
  update_record-grafted fs (x ∷ []) v =
      let join : Tree A B → Tree A B → Tree A B = λ d e. e in
      ap (λ hs. Gives (form.record_literal hs)) (add_field-grafted m s join (λ d e. e) (λ d e. refl) fs x v)
      ∙ ap Gives (record_literal-grafted m s (add_field join fs x v))
  update_record-grafted fs (x ∷ y ∷ path) v =
      let join : Tree A B → Tree A B → Tree A B = λ d e. e in
      let join' : Tree C D → Tree C D → Tree C D = λ d e. e in
      let inner = unwrap_or (field_at x fs) (form.record_literal []) in
      ap (λ o. Gives (form.record_literal (add_field join' (all fs) x (form.update (unwrap_or o (form.record_literal [])) (y ∷ path) (f v))))) (field_at-grafted m s x fs)
      ∙ ap (λ d. Gives (form.record_literal (add_field join' (all fs) x (form.update d (y ∷ path) (f v))))) (unwrap_or-grafted (field_at x fs) (form.record_literal []))
      ∙ ap (λ hs. Gives (form.record_literal hs)) (add_field-grafted m s join join' (λ d e. refl) fs x (form.update inner (y ∷ path) v))
      ∙ ap Gives (record_literal-grafted m s (add_field join fs x (form.update inner (y ∷ path) v)))

  pub with_path-grafted : (stage : ℕ) (e : Tree A B) (path : List Name) (v : Tree A B) → (le 1 stage ≡ true → Shown m s e) → Commutes f (with_path stage (f e) path (f v)) (with_path stage e path v)
  with_path-grafted stage e path v he =
      from-carried f 1 stage _ _ (λ q1. on-carried f all _ _ _ _ (as_record-grafted m s e (he q1)) λ fs. update_record-grafted fs path v)
