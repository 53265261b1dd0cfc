-- The complete development of an expression: each step at many places at once is followed by one to it.
use Rattle.std.specs.Prelude.{◌≡◌, Bool, Option, Some, None, option_and_then, unwrap_or, refl}
use Rattle.std.proofs.Common.{ap, sym, ◌∙◌, inl, inr, subst as along}
use Rattle.dh_syntax.specs.declared.expressions.Op.{Op}
use Rattle.dh_syntax.specs.declared.expressions.Op.TheVariants as ops
use Rattle.dh_syntax.specs.Expressions.Labels.{field_at}
use Rattle.dh_syntax.specs.Expressions.Tree.{Tree, Row, Leaf, Node, end, kid, Name}
use Rattle.dh_syntax.specs.Expressions.Views.{fields, as_record}
use Rattle.dh_syntax.specs.Names.Nameless.{Ref, sub, first}
use Rattle.dh_confluence.specs.FragmentSteps.{applied, let_put}
use Rattle.dh_confluence.proofs.RowsRelated.{some-is, chosen-some, Beside, fields-beside}
use Rattle.dh_confluence.proofs.ReductsMoved.{put_first}
use Rattle.dh_confluence.proofs.ManySteps.{given, Parallel, ParallelRow, Way, put-parallel}

module _ {B : Type 0} where
  -- what the node gives is there after the steps too, and is stepped
  abbrev Kept : Op → Row Ref B → Tree Ref B → Type 0
  Kept op s c = (d : Tree Ref B) × (given op s ≡ Some d) × Parallel c d

  abbrev KeptApplied : Tree Ref B → Tree Ref B → Tree Ref B → Type 0
  KeptApplied f a c = (d : Tree Ref B) × (applied put_first f a ≡ Some d) × Parallel c d

  abbrev KeptField : Name → Tree Ref B → Tree Ref B → Type 0
  KeptField x e c = (d : Tree Ref B) × (option_and_then (field_at x) (as_record e) ≡ Some d) × Parallel c d

  applied-kept : (f a g b c : Tree Ref B) → Parallel f g → Parallel a b → applied put_first f a ≡ Some c → KeptApplied g b c
  applied-kept (Node ops.Lam (kid None t (kid (Some x) d r))) a g b c (s, (t', u, ht, (d', q, hd, hr, p), v), inl w) k h =
      along (λ z. KeptApplied z b c) (sym (w ∙ ap (Node ops.Lam) (v ∙ ap (kid None t') p)))
      (sub (first b) d', refl, along (λ z. Parallel z (sub (first b) d')) (some-is _ c h) (put-parallel a b d d' k hd))
  applied-kept (Node ops.Lam (kid None t (kid (Some x) d r))) a g b c (s, l, inr (z, n, m)) k h = absurd cc
  applied-kept (Node op r) a g b c l k h = absurd cc
  applied-kept (Leaf v) a g b c l k h = absurd cc

  beside-parallel : (r s : Row Ref B) → ParallelRow r s → Beside Parallel r s
  beside-parallel end s p = p
  beside-parallel (kid None d r) s (e, t, h, k, p) = (e, t, h, beside-parallel r t k, p)
  beside-parallel (kid (Some x) d r) s h = tt

  field-kept : (x : Name) (d e c : Tree Ref B) → Parallel d e → option_and_then (field_at x) (as_record d) ≡ Some c → KeptField x e c
  field-kept x (Leaf v) e c h p = absurd cc
  field-kept x (Node (ops.Record xs) r) e c (s, k, inl w) p =
      chosen-some (field_at x) (fields xs r) c p λ fs q l.
      let (gs, u, h) = fields-beside Parallel xs r s (beside-parallel r s k) fs q in
      let (g, v, m) = h x c l in
      along (λ z. KeptField x z c) (sym w) (g, ap (option_and_then (field_at x)) u ∙ v, m)
  field-kept x (Node (ops.Record xs) r) e c (s, k, inr (z, n, m)) p = absurd cc
  field-kept x (Node op r) e c h p = absurd cc

  let-kept : (typed : Bool) (r s : Row Ref B) (c : Tree Ref B) → ParallelRow r s → let_put put_first r ≡ Some c → Kept (ops.Let typed) s c
  let-kept typed (kid None a (kid (Some x) b end)) s c (a', u, ha, (b', q, hb, hq, p), v) h =
      along (λ z. Kept (ops.Let typed) z c) (sym (v ∙ ap (kid None a') (p ∙ ap (kid (Some x) b') hq)))
      (sub (first a') b', refl, along (λ z. Parallel z (sub (first a') b')) (some-is _ c h) (put-parallel a a' b b' ha hb))
  let-kept typed (kid None t (kid None a (kid (Some x) b end))) s c (t', w, ht, (a', u, ha, (b', q, hb, hq, p), v), y) h =
      along (λ z. Kept (ops.Let typed) z c) (sym (y ∙ ap (kid None t') (v ∙ ap (kid None a') (p ∙ ap (kid (Some x) b') hq))))
      (sub (first a') b', refl, along (λ z. Parallel z (sub (first a') b')) (some-is _ c h) (put-parallel a a' b b' ha hb))
  let-kept typed r s c k h = absurd cc

  pub reduct-kept : (op : Op) (r s : Row Ref B) (c : Tree Ref B) → ParallelRow r s → given op r ≡ Some c → Kept op s c
  reduct-kept ops.App (kid None f (kid None a r)) s c (g, u, hf, (b, q, ha, hq, p), v) h =
      along (λ z. Kept ops.App z c) (sym (v ∙ ap (kid None g) p)) (applied-kept f a g b c hf ha h)
  reduct-kept ops.App r s c k h = absurd cc
  reduct-kept (ops.Let typed) r s c k h = let-kept typed r s c k h
  reduct-kept ops.Annot (kid None d r) s c (e, t, k, l, p) h =
      along (λ z. Kept ops.Annot z c) (sym p) (e, refl, along (λ z. Parallel z e) (some-is d c h) k)
  reduct-kept ops.Annot r s c k h = absurd cc
  reduct-kept (ops.Field x) (kid None d r) s c (e, t, k, l, p) h =
      along (λ z. Kept (ops.Field x) z c) (sym p) (field-kept x d e c k h)
  reduct-kept (ops.Field x) r s c k h = absurd cc
  reduct-kept op r s c k h = absurd cc

  -- ---- the development

  abbrev contracted : Option (Tree Ref B) → Op → Row Ref B → Tree Ref B
  contracted None op s = Node op s
  contracted (Some c) op s = unwrap_or (given op s) (Node op s)

  abbrev mutual
    -- each node that contracts is contracted, after its parts are developed
    pub development : Tree Ref B → Tree Ref B
    development (Leaf v) = Leaf v
    development (Node op r) = contracted (given op r) op (row_development r)

    pub row_development : Row Ref B → Row Ref B
    row_development end = end
    row_development (kid b e r) = kid b (development e) (row_development r)

  -- the node, whose parts d stepped to s, and s steps to their development t
  to-development : (op : Op) (r s t : Row Ref B) (e : Tree Ref B) → ParallelRow s t → Way op r s e
      → (o : Option (Tree Ref B)) → given op r ≡ o → ((c : Tree Ref B) → given op r ≡ Some c → Kept op s c) → ((c : Tree Ref B) → given op s ≡ Some c → Kept op t c)
      → Parallel e (contracted o op t)
  to-development op r s t e k (inl p) None q h l = along (λ z. Parallel z (Node op t)) (sym p) (t, k, inl refl)
  to-development op r s t e k (inl p) (Some c) q h l =
      let (d, u, m) = h c q in
      let (g, v, n) = l d u in
      along (λ z. Parallel z (unwrap_or (given op t) (Node op t))) (sym p)
      (along (λ z. Parallel (Node op s) (unwrap_or z (Node op t))) (sym v) (t, k, inr (d, u, v)))
  to-development op r s t e k (inr (c, u, v)) None q h l = absurd (let z = sym q ∙ u in cc)
  to-development op r s t e k (inr (c, u, v)) (Some c') q h l =
      let (g, w, n) = l e v in
      along (λ z. Parallel e (unwrap_or z (Node op t))) (sym w) n

  mutual
    pub triangle : (d e : Tree Ref B) → Parallel d e → Parallel e (development d)
    triangle (Leaf v) e p = along (λ z. Parallel z (Leaf v)) (sym p) refl
    triangle (Node op r) e (s, k, w) =
        to-development op r s (row_development r) e (row-triangle r s k) w (given op r) refl
        (λ c q. reduct-kept op r s c k q) (λ c q. reduct-kept op s (row_development r) c (row-triangle r s k) q)

    row-triangle : (r s : Row Ref B) → ParallelRow r s → ParallelRow s (row_development r)
    row-triangle end s p = along (λ z. ParallelRow z end) (sym p) refl
    row-triangle (kid b d r) s (e, t, k, l, p) =
        along (λ z. ParallelRow z (row_development (kid b d r))) (sym p) (development d, row_development r, triangle d e k, row-triangle r t l, refl)
