-- The rows of `merge` and of `toMap`, on grafted expressions.
use Rattle.std.specs.Prelude.{◌≡◌, ℕ, [], ◌∷◌, Option, Some, None, option_map, map, codes, refl, true}
use Rattle.std.proofs.Common.{ap, ◌∙◌}
use Rattle.dh_syntax.specs.Normalising.Contraction.{Gives}
use Rattle.dh_syntax.specs.Normalising.ContractUnions.{handled, handler, merge_with, merge, map_entry, to_map_of, to_map}
use Rattle.dh_syntax.specs.Expressions.Forms as form
use Rattle.dh_syntax.specs.Expressions.Forms.{Fields}
use Rattle.dh_syntax.specs.Expressions.Numbers.{le}
use Rattle.dh_laws.specs.Grafts.{Graft, grafted, Shown}
use Rattle.dh_syntax.specs.Expressions.Tree.{Tree, Name}
use Rattle.dh_laws.proofs.Contracting.GraftedCases.{Commutes, or-carried, when-carried, from-carried, on-carried, on-known-carried, on-same-carried}
use Rattle.dh_laws.proofs.Contracting.GraftedFields.{field_at-grafted}
use Rattle.dh_laws.proofs.Contracting.GraftedViews.{grafted_list, grafted_fields, grafted_two, list-grafted, as_record-grafted, as_some-grafted, as_app-grafted, as_alternative-grafted, is_none-grafted, app-shown}

module _ {S A B C D : Type 0} (m : Graft S A B C D) (s : S) where
  abbrev f : Tree A B → Tree C D
  f e = grafted m s e

  abbrev all : Fields A B → Fields C D
  all fs = grafted_fields m s fs

  -- ---- merge

  handled-grafted : (handlers : Fields A B) (x : Name) (a : Tree A B) → Commutes f (handled (all handlers) x (f a)) (handled handlers x a)
  handled-grafted handlers x a = on-carried f f _ _ _ _ (field_at-grafted m s x handlers) λ h. refl

  handler-grafted : (handlers : Fields A B) (x : Name) → Commutes f (handler (all handlers) x) (handler handlers x)
  handler-grafted handlers x = on-carried f f _ _ _ _ (field_at-grafted m s x handlers) λ h. refl

  merge_with-grafted : (handlers : Fields A B) (u : Tree A B) → Shown m s u → Commutes f (merge_with (all handlers) (f u)) (merge_with handlers u)
  merge_with-grafted handlers u hu =
      or-carried f _ _ _ _ (on-carried f f _ _ _ _ (as_some-grafted m s u hu) λ a. handled-grafted handlers (codes "Some") a)
      (or-carried f _ _ _ _
      (on-known-carried f (grafted_two m s) _ _ _ _ (as_app-grafted m s u hu) λ p h.
      or-carried f _ _ _ _
      (on-same-carried f _ _ _ _ (as_alternative-grafted m s p.0 (app-shown m s u p h hu)) λ q. handled-grafted handlers q.0 p.1)
      (when-carried f _ _ _ _ (is_none-grafted m s p.0 (app-shown m s u p h hu)) (handler-grafted handlers (codes "None"))))
      (on-same-carried f _ _ _ _ (as_alternative-grafted m s u hu) λ q. when-carried f _ _ _ _ refl (handler-grafted handlers q.0)))

  pub merge-grafted : (stage : ℕ) (t u : Tree A B) → (le 2 stage ≡ true → Shown m s t) → (le 2 stage ≡ true → Shown m s u) → Commutes f (merge stage (f t) (f u)) (merge stage t u)
  merge-grafted stage t u ht hu = from-carried f 2 stage _ _ (λ q2. on-carried f all _ _ _ _ (as_record-grafted m s t (ht q2)) λ handlers. merge_with-grafted handlers u (hu q2))

  -- ---- toMap

  entries-grafted : (fs : Fields A B) → map (λ (x, e). map_entry x e) (all fs) ≡ grafted_list m s (map (λ (x, e). map_entry x e) fs)
  entries-grafted [] = refl
  entries-grafted (g ∷ fs) = let p = entries-grafted fs in cc

  to_map_of-grafted : (fs : Fields A B) (annotation : Option (Tree A B)) → Commutes f (to_map_of (all fs) (option_map f annotation)) (to_map_of fs annotation)
  to_map_of-grafted [] None = refl
  to_map_of-grafted [] (Some t) = refl
  to_map_of-grafted (g ∷ fs) annotation =
      ap (λ es. Gives (form.list es)) (entries-grafted (g ∷ fs)) ∙ ap Gives (list-grafted m s (map (λ (x, e). map_entry x e) (g ∷ fs)))

  pub to_map-grafted : (stage : ℕ) (e : Tree A B) (annotation : Option (Tree A B)) → (le 1 stage ≡ true → Shown m s e) → Commutes f (to_map stage (f e) (option_map f annotation)) (to_map stage e annotation)
  to_map-grafted stage e annotation he =
      from-carried f 1 stage _ _ (λ q1. on-carried f all _ _ _ _ (as_record-grafted m s e (he q1)) λ fs. to_map_of-grafted fs annotation)
