-- The rows of records and unions, and the table of all rows.
use Rattle.std.specs.Prelude.{◌≡◌, ℕ, ◌==◌, Bool, true, false, if◌then◌else◌, List, [], ◌∷◌, length, map, Option, Some, None, refl}
use Rattle.std.proofs.Common.{sym, ◌∙◌, ap}
use Rattle.dh_syntax.specs.declared.expressions.Alt.{Alt}
use Rattle.dh_syntax.specs.declared.expressions.Op.TheVariants as ops
use Rattle.dh_syntax.specs.Bytes.BinaryItems.{Item}
use Rattle.dh_syntax.specs.Bytes.BinaryLeaves as leaf
use Rattle.dh_syntax.specs.Bytes.BinaryLeaves.{◌>>=◌, check, characters_of, inserted, is_null, unsigned_of, label_of, named_label}
use Rattle.dh_syntax.specs.Bytes.BinaryRead as old
use Rattle.dh_syntax.specs.Bytes.BinaryRead.{Part, operator, plain_row}
use Rattle.dh_syntax.specs.Expressions.Numbers.{eq}
use Rattle.dh_syntax.specs.Expressions.Tree.{Leaf, Node, Name, Term}
use Rattle.dh_binary.specs.Machine.{holds, called, indexed, Place, first, rowing, held_values, indexing, RowKind, types, values, alternatives, row_made, entries, coded, row_at, or_first, is_some, when, fill, result}
use Rattle.dh_binary.specs.Inside.Terms.{terms}
use Rattle.dh_binary.proofs.Parts.{hold, call, open_by, kept_value, all_kept, reads_parts}
use Rattle.dh_binary.proofs.Rows.{bind_assoc, step}
use Rattle.dh_binary.proofs.NodeRows.{from, application_row, quantifier_row, node_row, annotation_row, operation_row, list_row, some_row, field_row, natural_row, integer_row, text_row, lets_row, update_row, projection_row}
use Rattle.dh_binary.proofs.ImportRows.{import_row}

module _ (b : Bool) where
  -- ---- [7, {x: A, ..}], [8, {x: a, ..}], [11, {x: T or null, ..}]

  fields_by : (g : List Name → List Term → Term) (x : Name) (es : List old.Entry) → ((t : Term) → (all_kept false es >>= λ fs. Some (holds (g (x ∷ map (λ e. e.name) fs) (t ∷ held_values terms fs)))) ≡ hold (old.held es >>= λ ts. Some (g (x ∷ map (λ e. e.name) es) (t ∷ ts))))
      → (v : old.Value) → (((kept_value false v >>= λ u. Some (record { name = x; value = u })) >>= λ f. all_kept false es >>= λ fs. Some (f ∷ fs)) >>= λ fs. Some (holds (g (map (λ e. e.name) fs) (held_values terms fs)))) ≡ hold (old.held_by v (old.held es) >>= λ ts. Some (g (x ∷ map (λ e. e.name) es) ts))
  fields_by g x es h old.nothing = refl
  fields_by g x es h (old.holds t) =
      bind_assoc (all_kept false es) (λ fs. Some (record { name = x; value = Some t } ∷ fs)) (λ fs. Some (holds (g (map (λ e. e.name) fs) (held_values terms fs))))
      ∙ h t ∙ ap hold (sym (bind_assoc (old.held es) (λ ts. Some (t ∷ ts)) (λ ts. Some (g (x ∷ map (λ e. e.name) es) ts))))

  fields_kept : (g : List Name → List Term → Term) (es : List old.Entry) → (all_kept false es >>= λ fs. Some (holds (g (map (λ e. e.name) fs) (held_values terms fs)))) ≡ hold (old.held es >>= λ ts. Some (g (map (λ e. e.name) es) ts))
  fields_kept g [] = refl
  fields_kept g (e ∷ es) = fields_by g e.name es (λ t. fields_kept (λ xs ts. g (e.name ∷ xs) (t ∷ ts)) es) e.value

  union_by : (g : List Alt → List Term → Term) (x : Name) (es : List old.Entry) → ((c : Bool) (k : List Term → List Term) → (all_kept true es >>= λ fs. Some (holds (g (record { label = x; typed = c } ∷ map (λ e. record { label = e.name; typed = is_some e.value }) fs) (k (held_values terms fs))))) ≡ Some (holds (g (record { label = x; typed = c } ∷ map old.alternative es) (k (old.types es)))))
      → (v : old.Value) → (((kept_value true v >>= λ u. Some (record { name = x; value = u })) >>= λ f. all_kept true es >>= λ fs. Some (f ∷ fs)) >>= λ fs. Some (holds (g (map (λ e. record { label = e.name; typed = is_some e.value }) fs) (held_values terms fs)))) ≡ Some (holds (g (record { label = x; typed = old.is_typed v } ∷ map old.alternative es) (old.types_by v (old.types es))))
  union_by g x es h old.nothing =
      bind_assoc (all_kept true es) (λ fs. Some (record { name = x; value = None } ∷ fs)) (λ fs. Some (holds (g (map (λ e. record { label = e.name; typed = is_some e.value }) fs) (held_values terms fs)))) ∙ h false (λ ts. ts)
  union_by g x es h (old.holds t) =
      bind_assoc (all_kept true es) (λ fs. Some (record { name = x; value = Some t } ∷ fs)) (λ fs. Some (holds (g (map (λ e. record { label = e.name; typed = is_some e.value }) fs) (held_values terms fs)))) ∙ h true (λ ts. t ∷ ts)

  union_kept : (g : List Alt → List Term → Term) (es : List old.Entry) → (all_kept true es >>= λ fs. Some (holds (g (map (λ e. record { label = e.name; typed = is_some e.value }) fs) (held_values terms fs)))) ≡ Some (holds (g (map old.alternative es) (old.types es)))
  union_kept g [] = refl
  union_kept g (e ∷ es) = union_by g e.name es (λ c k. union_kept (λ xs ts. g (record { label = e.name; typed = c } ∷ xs) (k ts)) es) e.value

  rows_step : (nulls : Bool) (k : RowKind) (o : Option (List old.Entry)) (f : List old.Entry → Option Term) → ((es : List old.Entry) → (all_kept nulls es >>= λ fs. Some (holds (row_made terms k fs))) ≡ hold (f es))
      → ((o >>= λ es. all_kept nulls es >>= λ fs. Some (entries fs)) >>= λ v. result terms (fill terms (rowing k) v)) ≡ hold (o >>= f)
  rows_step nulls k None f h = refl
  rows_step nulls k (Some es) f h = bind_assoc (all_kept nulls es) (λ fs. Some (entries fs)) (λ v. result terms (fill terms (rowing k) v)) ∙ h es

  pub types_row : (ps : List Part) → from b (when (eq (length ps) 1) (rowing types)) ps ≡ hold (old.fields ops.RecordType ps)
  unfolding from
  types_row [] = refl
  types_row (m ∷ []) = rows_step false types m.entries (λ es. old.held es >>= λ ts. Some (Node (ops.RecordType (map (λ e. e.name) es)) (plain_row ts))) (λ es. fields_kept (λ xs ts. Node (ops.RecordType xs) (plain_row ts)) es)
  types_row (m ∷ p ∷ ps) = refl

  pub values_row : (ps : List Part) → from b (when (eq (length ps) 1) (rowing values)) ps ≡ hold (old.fields ops.Record ps)
  unfolding from
  values_row [] = refl
  values_row (m ∷ []) = rows_step false values m.entries (λ es. old.held es >>= λ ts. Some (Node (ops.Record (map (λ e. e.name) es)) (plain_row ts))) (λ es. fields_kept (λ xs ts. Node (ops.Record xs) (plain_row ts)) es)
  values_row (m ∷ p ∷ ps) = refl

  pub union_row : (ps : List Part) → from b (when (eq (length ps) 1) (rowing alternatives)) ps ≡ hold (old.union ps)
  unfolding from
  union_row [] = refl
  union_row (m ∷ []) = rows_step true alternatives m.entries (λ es. Some (Node (ops.Union (map old.alternative es)) (plain_row (old.types es)))) (λ es. union_kept (λ xs ts. Node (ops.Union xs) (plain_row ts)) es)
  union_row (m ∷ p ∷ ps) = refl

  -- ---- the table

  if_both : (ps : List Part) (c : Bool) (x y : Option (Place Term)) (e f : Option Term) → from b x ps ≡ hold e → from b y ps ≡ hold f → from b (if c then x else y) ps ≡ hold (if c then e else f)
  if_both ps true x y e f h k = h
  if_both ps false x y e f h k = k

  nothing_read : (ps : List Part) → from b None ps ≡ hold None
  unfolding from
  nothing_read ps = refl

  pub row_read : (n : ℕ) (ps : List Part) → from b (row_at n (length ps)) ps ≡ hold (old.row b n ps)
  row_read n ps =
      if_both ps (n == 0) _ _ _ _ (application_row b ps)
      (if_both ps (n == 1) _ _ _ _ (quantifier_row b ops.Lam ps)
      (if_both ps (n == 2) _ _ _ _ (quantifier_row b ops.Pi ps)
      (if_both ps (n == 3) _ _ _ _ (operation_row b ps)
      (if_both ps (n == 4) _ _ _ _ (list_row b ps)
      (if_both ps (n == 5) _ _ _ _ (some_row b ps)
      (if_both ps (n == 6) _ _ _ _ (annotation_row b ops.Merge 2 3 ps refl)
      (if_both ps (n == 7) _ _ _ _ (types_row ps)
      (if_both ps (n == 8) _ _ _ _ (values_row ps)
      (if_both ps (n == 9) _ _ _ _ (field_row b ps)
      (if_both ps (n == 10) _ _ _ _ (projection_row b ps)
      (if_both ps (n == 11) _ _ _ _ (union_row ps)
      (if_both ps (n == 14) _ _ _ _ (node_row b ops.If 3 ps)
      (if_both ps (n == 15) _ _ _ _ (natural_row b ps)
      (if_both ps (n == 16) _ _ _ _ (integer_row b ps)
      (if_both ps (n == 18) _ _ _ _ (text_row b ps)
      (if_both ps (n == 19) _ _ _ _ (node_row b ops.Assert 1 ps)
      (if_both ps (n == 24) _ _ _ _ (import_row b ps)
      (if_both ps (n == 25) _ _ _ _ (lets_row b ps)
      (if_both ps (n == 26) _ _ _ _ (node_row b ops.Annot 2 ps)
      (if_both ps (n == 27) _ _ _ _ (annotation_row b ops.ToMap 1 2 ps refl)
      (if_both ps (n == 28) _ _ _ _ (node_row b ops.EmptyList 1 ps)
      (if_both ps (n == 29) _ _ _ _ (update_row b ps) (nothing_read ps)))))))))))))))))))))))

  -- ---- the first item

  opens_row : (n : ℕ) (ps : List Part) (o : Option (Place Term)) → row_at n (length ps) ≡ o → (when (is_some o) (coded n (length ps)) >>= λ v. reads_parts b (fill terms first v) ps) ≡ from b o ps
  unfolding from
  opens_row n ps (Some p) e = ap (λ o. reads_parts b (or_first o) ps) e
  opens_row n ps None e = refl

  variable_read : (i : Item) (ps : List Part) → ((if eq (length ps) 1 then call (named_label i) else None) >>= λ v. reads_parts b (fill terms first v) ps) ≡ hold (old.variable b i ps)
  variable_read i [] = refl
  variable_read i (n ∷ []) =
      step (named_label i) called (λ v. reads_parts b (fill terms first v) (n ∷ [])) (λ y. leaf.index_of b n.item >>= λ m. Some (Leaf (record { name = y; index = m })))
      (λ y. step (leaf.index_of b n.item) indexed (λ v. reads_parts b (fill terms (indexing y) v) []) (λ m. Some (Leaf (record { name = y; index = m }))) (λ m. refl))
  variable_read i (n ∷ m ∷ ps) = refl

  pub array_read : (p : Part) (ps : List Part) → reads_parts b first (p ∷ ps) ≡ hold (old.array_term b (p ∷ ps))
  array_read p ps = by (unsigned_of p.item)
    where
      by : (o : Option ℕ) → (open_by (length ps) p.item o >>= λ v. reads_parts b (fill terms first v) ps) ≡ hold (old.array_by b o p.item ps)
      by (Some n) = opens_row n ps (row_at n (length ps)) refl ∙ row_read n ps
      by None = variable_read p.item ps
