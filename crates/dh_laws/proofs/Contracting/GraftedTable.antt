-- The contraction table on grafted expressions: what a row answers is grafted too.
use Rattle.std.specs.Prelude.{◌≡◌, ℕ, zero, suc, true, false, List, [], ◌∷◌, Some, None, slice_get, refl}
use Rattle.std.proofs.Common.{ap, subst as along}
use Rattle.dh_syntax.specs.declared.expressions.Op.{Op}
use Rattle.dh_syntax.specs.declared.expressions.Op.TheVariants as ops
use Rattle.dh_syntax.specs.declared.operators.BinOp.{BinOp}
use Rattle.dh_syntax.specs.declared.operators.BinOp.TheVariants as bins
use Rattle.dh_syntax.specs.declared.operators.Builtin.{Builtin}
use Rattle.dh_syntax.specs.declared.operators.Builtin.TheVariants as builtins
use Rattle.dh_syntax.specs.Normalising.Contract.{contract_call, application, let_in, contract_operator, contract_node, contract_at}
use Rattle.dh_syntax.specs.Normalising.Contraction.{Gives, Nothing, Binders}
use Rattle.dh_syntax.specs.Expressions.Forms as form
use Rattle.dh_laws.specs.Grafts.{Graft, grafted, grafted_row, IsOpen, Shown, ShownAt, Ready}
use Rattle.dh_syntax.specs.Expressions.Tree.{Tree, Row, Leaf, Node, end, kid}
use Rattle.dh_syntax.specs.Normalising.Needs.{argument_needs, call_needs, operator_needs, part_at, part_or_self}
use Rattle.dh_syntax.specs.Expressions.Numbers.{le}
use Rattle.dh_laws.proofs.Contracting.GraftedSpines.{Back, rev_onto, call-back, one-at, two-at, three-at, all_parts-at, part-known, le-less}
use Rattle.dh_laws.proofs.Contracting.GraftedCases.{Commutes, BindersGraft, or-carried, from-carried, on-carried, on-known-carried}
use Rattle.dh_laws.proofs.Contracting.GraftedRowsLists.{first-shown, text_append-grafted, text_literal-grafted, text_show-grafted, text_replace-grafted, list_append-grafted, list_build-grafted, list_fold-grafted, list_length-grafted, list_head-grafted, list_last-grafted, list_indexed-grafted, list_reverse-grafted}
use Rattle.dh_laws.proofs.Contracting.GraftedRowsLogic.{if_then_else-grafted, disjunction-grafted, conjunction-grafted, equality-grafted, inequality-grafted, sum-grafted, product-grafted}
use Rattle.dh_laws.proofs.Contracting.GraftedRowsNumbers.{natural_build-grafted, natural_fold-grafted, natural_is_zero-grafted, natural_even-grafted, natural_odd-grafted, natural_to_integer-grafted, natural_show-grafted, natural_subtract-grafted, integer_show-grafted, integer_negate-grafted, integer_clamp-grafted}
use Rattle.dh_laws.proofs.Contracting.GraftedRowsRecords.{combine-grafted, prefer-grafted, combine_types-grafted, record_completion-grafted, select-grafted, project-grafted, project_type-grafted, with_path-grafted}
use Rattle.dh_laws.proofs.Contracting.GraftedRowsUnions.{merge-grafted, to_map-grafted}
use Rattle.dh_laws.proofs.Contracting.GraftedViews.{grafted_list, grafted_two, grafted_three, grafted_call, grafted_lambda, bodies-grafted, first_part-grafted, first_two-grafted, first_three-grafted, as_lambda-grafted, as_call-grafted}

module _ {S A B C D : Type 0} (m : Graft S A B C D) (source : Binders A B) (target : Binders C D) (h : BindersGraft m source target) (s : S) where
  abbrev f : Tree A B → Tree C D
  f e = grafted m s e

  abbrev fs : List (Tree A B) → List (Tree C D)
  fs es = grafted_list m s es

  -- the arguments that are headed at this stage are shown
  abbrev ArgsReady : ℕ → Builtin → List (Tree A B) → Tree A B → Type 0
  ArgsReady stage b args e = (k : ℕ) → le (suc k) stage ≡ true → ShownAt m s (slice_get (call_needs b args) k) e

  abbrev sh : (e d : Tree A B) → e ≡ d → Shown m s e → Shown m s d
  sh e d p h = along (Shown m s) p h

  contract_call-grafted : (stage : ℕ) (b : Builtin) (args : List (Tree A B)) (e : Tree A B) → Back (rev_onto args []) e → ArgsReady stage b args e
      → Commutes f (contract_call target stage b (fs args)) (contract_call source stage b args)
  contract_call-grafted stage builtins.NaturalBuild (g ∷ []) e k r = natural_build-grafted m s source target h g
  contract_call-grafted stage builtins.NaturalFold (n ∷ ty ∷ g ∷ b ∷ []) e k r = natural_fold-grafted m s stage n ty g b (λ q. sh _ _ k.1.1.1.0 (r 0 q))
  contract_call-grafted stage builtins.NaturalIsZero (n ∷ []) e k r = natural_is_zero-grafted m s stage n (λ q. sh _ _ k.0 (r 0 q))
  contract_call-grafted stage builtins.NaturalEven (n ∷ []) e k r = natural_even-grafted m s stage n (λ q. sh _ _ k.0 (r 0 q))
  contract_call-grafted stage builtins.NaturalOdd (n ∷ []) e k r = natural_odd-grafted m s stage n (λ q. sh _ _ k.0 (r 0 q))
  contract_call-grafted stage builtins.NaturalToInteger (n ∷ []) e k r = natural_to_integer-grafted m s stage n (λ q. sh _ _ k.0 (r 0 q))
  contract_call-grafted stage builtins.NaturalShow (n ∷ []) e k r = natural_show-grafted m s stage n (λ q. sh _ _ k.0 (r 0 q))
  contract_call-grafted stage builtins.NaturalSubtract (a ∷ b ∷ []) e k r = natural_subtract-grafted m s stage a b (λ q. sh _ _ k.1.0 (r 0 q)) (λ q. sh _ _ k.0 (r 1 q))
  contract_call-grafted stage builtins.IntegerShow (i ∷ []) e k r = integer_show-grafted m s stage i (λ q. sh _ _ k.0 (r 0 q))
  contract_call-grafted stage builtins.IntegerNegate (i ∷ []) e k r = integer_negate-grafted m s stage i (λ q. sh _ _ k.0 (r 0 q))
  contract_call-grafted stage builtins.IntegerClamp (i ∷ []) e k r = integer_clamp-grafted m s stage i (λ q. sh _ _ k.0 (r 0 q))
  contract_call-grafted stage builtins.ListBuild (ty ∷ g ∷ []) e k r = list_build-grafted m s source target h ty g
  contract_call-grafted stage builtins.ListFold (ty ∷ xs ∷ r' ∷ g ∷ b ∷ []) e k r = list_fold-grafted m s stage ty xs r' g b (λ q. sh _ _ k.1.1.1.0 (r 0 q))
  contract_call-grafted stage builtins.ListLength (ty ∷ xs ∷ []) e k r = list_length-grafted m s stage ty xs (λ q. sh _ _ k.0 (r 0 q))
  contract_call-grafted stage builtins.ListHead (ty ∷ xs ∷ []) e k r = list_head-grafted m s stage ty xs (λ q. sh _ _ k.0 (r 0 q))
  contract_call-grafted stage builtins.ListLast (ty ∷ xs ∷ []) e k r = list_last-grafted m s stage ty xs (λ q. sh _ _ k.0 (r 0 q))
  contract_call-grafted stage builtins.ListIndexed (ty ∷ xs ∷ []) e k r = list_indexed-grafted m s stage ty xs (λ q. sh _ _ k.0 (r 0 q))
  contract_call-grafted stage builtins.ListReverse (ty ∷ xs ∷ []) e k r = list_reverse-grafted m s stage ty xs (λ q. sh _ _ k.0 (r 0 q))
  contract_call-grafted stage builtins.TextShow (t ∷ []) e k r = text_show-grafted m s stage t (λ q. sh _ _ k.0 (r 0 q))
  contract_call-grafted stage builtins.TextReplace (n ∷ r' ∷ t ∷ []) e k r = text_replace-grafted m s stage n r' t (λ q. sh _ _ k.1.1.0 (r 0 q)) (λ q. sh _ _ k.0 (r 1 q))
  contract_call-grafted stage b args e k r = refl

  application-grafted : (stage : ℕ) (g a : Tree A B) (rest : Row A B) → Ready m s stage (Node ops.App (kid None g (kid None a rest)))
      → Commutes f (application target stage (f g) (f a)) (application source stage g a)
  application-grafted zero g a rest r = refl
  application-grafted (suc stage) g a rest r =
      let e : Tree A B = Node ops.App (kid None g (kid None a rest)) in
      let hg : Shown m s g = r 0 refl in
      from-carried f 1 (suc stage) _ _ (λ q1.
      or-carried f _ _ _ _
      (on-carried f (grafted_lambda m s) _ _ _ _ (as_lambda-grafted m s g hg) λ p. ap Gives (h.put s p.0 a p.1))
      (on-known-carried f (grafted_call m s) _ _ _ _ (as_call-grafted m s (form.app g a) (hg, tt)) λ p c.
      contract_call-grafted stage p.0 p.1 e (call-back e p.0 p.1 c)
      (λ k q. along (λ ps. ShownAt m s (slice_get ps k) e) (ap argument_needs c) (r (suc k) q))))

  let_in-grafted : (r : Row A B) → Commutes f (let_in target (grafted_row m s r)) (let_in source r)
  let_in-grafted (kid None a (kid (Some x) b end)) = ap Gives (h.put s x a b)
  let_in-grafted (kid None t (kid None a (kid (Some x) b end))) = ap Gives (h.put s x a b)
  let_in-grafted r = refl

  contract_operator-grafted : (stage : ℕ) (o : BinOp) (l r e : Tree A B) → (part_or_self 0 e ≡ l) → (part_or_self 1 e ≡ r)
      → ((k : ℕ) → le (suc k) stage ≡ true → ShownAt m s (slice_get (operator_needs o) k) e)
      → Commutes f (contract_operator stage o (f l) (f r)) (contract_operator stage o l r)
  contract_operator-grafted stage bins.Or l r e p p' k = disjunction-grafted m s stage l r (λ q. sh _ _ p (k 0 q)) (λ q. sh _ _ p' (k 1 q))
  contract_operator-grafted stage bins.And l r e p p' k = conjunction-grafted m s stage l r (λ q. sh _ _ p (k 0 q)) (λ q. sh _ _ p' (k 1 q))
  contract_operator-grafted stage bins.Equal l r e p p' k = equality-grafted m s stage l r (λ q. sh _ _ p (k 0 q)) (λ q. sh _ _ p' (k 1 q))
  contract_operator-grafted stage bins.NotEqual l r e p p' k = inequality-grafted m s stage l r (λ q. sh _ _ p (k 0 q)) (λ q. sh _ _ p' (k 1 q))
  contract_operator-grafted stage bins.Plus l r e p p' k = sum-grafted m s stage l r (λ q. sh _ _ p (k 0 q)) (λ q. sh _ _ p' (k 1 q))
  contract_operator-grafted stage bins.Times l r e p p' k = product-grafted m s stage l r (λ q. sh _ _ p (k 0 q)) (λ q. sh _ _ p' (k 1 q))
  contract_operator-grafted stage bins.TextAppend l r e p p' k = text_append-grafted m s l r
  contract_operator-grafted stage bins.ListAppend l r e p p' k = list_append-grafted m s stage l r (λ q. sh _ _ p (k 0 q)) (λ q. sh _ _ p' (k 1 q))
  contract_operator-grafted stage bins.Combine l r e p p' k = combine-grafted m s stage l r (λ q. sh _ _ p (k 0 q)) (λ q. sh _ _ p' (k 1 q))
  contract_operator-grafted stage bins.Prefer l r e p p' k = prefer-grafted m s stage l r (λ q. sh _ _ p (k 0 q)) (λ q. sh _ _ p' (k 1 q))
  contract_operator-grafted stage bins.CombineTypes l r e p p' k = combine_types-grafted m s stage l r (λ q. sh _ _ p (k 0 q)) (λ q. sh _ _ p' (k 1 q))
  contract_operator-grafted stage bins.Complete t r e p p' k = record_completion-grafted m s t r
  contract_operator-grafted stage bins.Fallback l r e p p' k = refl
  contract_operator-grafted stage bins.Equivalent l r e p p' k = refl

  text-ready : (stage : ℕ) (ps : List (List ℕ)) (r : Row A B) → Ready m s stage (Node (ops.Text ps) r)
      → (k : ℕ) (d : Tree A B) → le (suc k) stage ≡ true → part_at k r ≡ Some d → Shown m s d
  text-ready stage ps r y k d q p =
      sh _ _ (part-known k (ops.Text ps) r d p)
      (along (λ o. ShownAt m s o (Node (ops.Text ps) r)) (all_parts-at k r d p) (y k q))

  contract_node-grafted : (stage : ℕ) (op : Op) (r : Row A B) → Ready m s stage (Node op r)
      → Commutes f (contract_node target stage op (grafted_row m s r)) (contract_node source stage op r)
  contract_node-grafted stage ops.App (kid None g (kid None a rest)) y = application-grafted stage g a rest y
  contract_node-grafted stage ops.App end y = refl
  contract_node-grafted stage ops.App (kid (Some x) g r) y = refl
  contract_node-grafted stage ops.App (kid None g end) y = refl
  contract_node-grafted stage ops.App (kid None g (kid (Some x) a r)) y = refl
  contract_node-grafted stage (ops.Let typed) r y = let_in-grafted r
  contract_node-grafted stage ops.Annot r y = on-carried f f _ _ _ _ (first_part-grafted m s r) λ e. refl
  contract_node-grafted stage ops.If r y = on-known-carried f (grafted_three m s) _ _ _ _ (first_three-grafted m s r) λ p c.
      let w = three-at ops.If r p c in
      if_then_else-grafted m s stage p.0 p.1 p.2 (λ q. sh _ _ w.0 (y 0 q)) (λ q. sh _ _ w.1 (y 1 (le-less 2 stage q))) (λ q. sh _ _ w.2 (y 2 q))
  contract_node-grafted stage (ops.Bin o) r y = on-known-carried f (grafted_two m s) _ _ _ _ (first_two-grafted m s r) λ p c.
      let w = two-at (ops.Bin o) r p c in contract_operator-grafted stage o p.0 p.1 (Node (ops.Bin o) r) w.0 w.1 y
  contract_node-grafted stage (ops.Text ps) r y = on-known-carried f fs _ _ _ _ (bodies-grafted m s r) λ es c.
      text_literal-grafted m s stage ps es (first-shown m s stage r es c (text-ready stage ps r y))
  contract_node-grafted stage (ops.Merge typed) r y = on-known-carried f (grafted_two m s) _ _ _ _ (first_two-grafted m s r) λ p c.
      let w = two-at (ops.Merge typed) r p c in
      merge-grafted m s stage p.0 p.1 (λ q. sh _ _ w.0 (y 1 q)) (λ q. sh _ _ w.1 (y 0 (le-less 1 stage q)))
  contract_node-grafted stage (ops.ToMap false) r y = on-known-carried f f _ _ _ _ (first_part-grafted m s r) λ e c.
      to_map-grafted m s stage e None (λ q. sh _ _ (one-at (ops.ToMap false) r e c) (y 0 q))
  contract_node-grafted stage (ops.ToMap true) r y = on-known-carried f (grafted_two m s) _ _ _ _ (first_two-grafted m s r) λ p c.
      to_map-grafted m s stage p.0 (Some p.1) (λ q. sh _ _ (two-at (ops.ToMap true) r p c).0 (y 0 q))
  contract_node-grafted stage (ops.Field x) r y = on-known-carried f f _ _ _ _ (first_part-grafted m s r) λ e c.
      select-grafted m s stage e x (λ q. sh _ _ (one-at (ops.Field x) r e c) (y 0 q))
  contract_node-grafted stage (ops.Project []) r y = on-carried f f _ _ _ _ (first_part-grafted m s r) λ e. refl
  contract_node-grafted stage (ops.Project (x ∷ xs)) r y = on-known-carried f f _ _ _ _ (first_part-grafted m s r) λ e c.
      project-grafted m s stage e (x ∷ xs) (λ q. sh _ _ (one-at (ops.Project (x ∷ xs)) r e c) (y 0 q))
  contract_node-grafted stage ops.ProjectType r y = on-known-carried f (grafted_two m s) _ _ _ _ (first_two-grafted m s r) λ p c.
      project_type-grafted m s stage p.0 p.1 (λ q. sh _ _ (two-at ops.ProjectType r p c).1 (y 0 q))
  contract_node-grafted stage (ops.With path) r y = on-known-carried f (grafted_two m s) _ _ _ _ (first_two-grafted m s r) λ p c.
      with_path-grafted m s stage p.0 path p.1 (λ q. sh _ _ (two-at (ops.With path) r p c).0 (y 0 q))
  contract_node-grafted stage op r y = refl

  contract_leaf : (stage : ℕ) (d : Tree C D) (c : C) → d ≡ Leaf c → contract_at target stage d ≡ Nothing
  contract_leaf stage d c p = ap (contract_at target stage) p

  -- the contraction table looks at nothing but the root and what is shown at the places that are headed
  pub contract_at-grafted : (stage : ℕ) (e : Tree A B) → IsOpen m s e → Ready m s stage e
      → Commutes f (contract_at target stage (f e)) (contract_at source stage e)
  contract_at-grafted stage (Leaf a) o y = contract_leaf stage (m.leaf s a) o.0 o.1
  contract_at-grafted stage (Node op r) o y = contract_node-grafted stage op r y
