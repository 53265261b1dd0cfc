-- The rows of texts and lists, and of the built-in functions on them, on grafted expressions.
use Rattle.std.specs.Prelude.{◌≡◌, ℕ, zero, suc, pred, List, [], ◌∷◌, ◌++◌, length, reverse, replicate, Option, Some, None, option_map, refl, true}
use Rattle.std.proofs.Common.{ap, sym, ◌∙◌, subst as along}
use Rattle.std.proofs.lemmas.List.{reverse-append}
use Rattle.dh_syntax.specs.declared.operators.Builtin.TheVariants as builtins
use Rattle.dh_syntax.specs.Normalising.BuiltinLists.{first_of, last_of, optional, indexed_from, indexed_type, list_build, folded_list, list_fold, list_length, list_head, list_last, list_indexed, list_reverse}
use Rattle.dh_syntax.specs.Normalising.BuiltinTexts.{pieces_between, text_show, separated_by, text_replace}
use Rattle.dh_syntax.specs.Normalising.Contraction.{Gives, Binders}
use Rattle.dh_syntax.specs.Normalising.ContractLists.{list_append}
use Rattle.dh_syntax.specs.Normalising.ContractTexts.{joined_pieces, text_fits, splice_first, spliced, lone_interpolation, text_append, text_literal}
use Rattle.dh_syntax.specs.Expressions.Forms as form
use Rattle.dh_syntax.specs.Expressions.Forms.{TextParts}
use Rattle.dh_syntax.specs.Expressions.Numbers.{le}
use Rattle.dh_laws.specs.Grafts.{Graft, grafted, Shown}
use Rattle.dh_syntax.specs.Expressions.Tree.{Tree, Row, end, kid}
use Rattle.dh_syntax.specs.Expressions.Views.{as_text, bodies}
use Rattle.dh_syntax.specs.Normalising.Needs.{part_at}
use Rattle.dh_laws.proofs.Contracting.GraftedSpines.{cons-bodies}
use Rattle.dh_laws.proofs.Contracting.GraftedCases.{Commutes, BindersGraft, or-carried, when-carried, from-carried, within-carried, on-carried, on-same-carried}
use Rattle.dh_laws.proofs.Contracting.GraftedViews.{grafted_list, grafted_texts, list-grafted, text-grafted, list_of-grafted, as_text-grafted, as_plain_text-grafted, as_list-grafted, is_empty_list-grafted}

module _ {S A B C D : Type 0} (m : Graft S A B C D) (s : S) where
  abbrev f : Tree A B → Tree C D
  f e = grafted m s e

  abbrev fs : List (Tree A B) → List (Tree C D)
  fs es = grafted_list m s es

  -- ---- lists

  length-grafted : (es : List (Tree A B)) → length (fs es) ≡ length es
  length-grafted [] = refl
  length-grafted (e ∷ es) = ap suc (length-grafted es)

  append-grafted : (es ds : List (Tree A B)) → fs es ++ fs ds ≡ fs (es ++ ds)
  append-grafted [] ds = refl
  append-grafted (e ∷ es) ds = ap (λ x. f e ∷ x) (append-grafted es ds)

  replicate-grafted : (n : ℕ) (e : Tree A B) → replicate n (f e) ≡ fs (replicate n e)
  replicate-grafted zero e = refl
  replicate-grafted (suc n) e = ap (λ x. f e ∷ x) (replicate-grafted n e)

  -- ---- texts

  splice_first-grafted : (p : List ℕ) (ps : List (List ℕ)) (e : Tree A B) (es : List (Tree A B)) (here later : Option (TextParts A B))
      → splice_first p ps (f e) (fs es) (option_map (grafted_texts m s) here) (option_map (grafted_texts m s) later)
      ≡ option_map (grafted_texts m s) (splice_first p ps e es here later)
  splice_first-grafted p ps e es (Some t) later = ap (λ x. Some (joined_pieces (joined_pieces (p ∷ []) t.0) ps, x)) (append-grafted t.1 es)
  splice_first-grafted p ps e es None (Some t) = refl
  splice_first-grafted p ps e es None None = refl

  -- the first so many parts are shown
  abbrev pub FirstShown : ℕ → List (Tree A B) → Type 0
  FirstShown zero es = Unit {0}
  FirstShown (suc n) [] = Unit {0}
  FirstShown (suc n) (e ∷ es) = Shown m s e × FirstShown n es

  pub first-shown : (n : ℕ) (r : Row A B) (es : List (Tree A B)) → bodies r ≡ Some es
      → ((k : ℕ) (d : Tree A B) → le (suc k) n ≡ true → part_at k r ≡ Some d → Shown m s d) → FirstShown n es
  first-shown zero r es h k = tt
  first-shown (suc n) r [] h k = tt
  first-shown (suc n) (kid None e r) (d ∷ ds) h k =
      let c = cons-bodies e (bodies r) (d ∷ ds) h in
      along (FirstShown (suc n)) (sym c.2) (k 0 e refl refl, first-shown n r c.0 c.1 (λ i x q p. k (suc i) x q p))
  first-shown (suc n) end (d ∷ ds) h k = absurd cc
  first-shown (suc n) (kid (Some x) e r) (d ∷ ds) h k = absurd cc

  spliced-grafted : (n : ℕ) (ps : List (List ℕ)) (es : List (Tree A B)) → FirstShown n es → spliced n ps (fs es) ≡ option_map (grafted_texts m s) (spliced n ps es)
  spliced-grafted zero ps es hs = refl
  spliced-grafted (suc n) [] es hs = refl
  spliced-grafted (suc n) (p ∷ ps) [] hs = refl
  spliced-grafted (suc n) (p ∷ ps) (e ∷ es) hs =
      ap (λ x. splice_first p ps (f e) (fs es) x (spliced n ps (fs es))) (as_text-grafted m s e hs.0)
      ∙ ap (splice_first p ps (f e) (fs es) (option_map (grafted_texts m s) (as_text e))) (spliced-grafted n ps es hs.1)
      ∙ splice_first-grafted p ps e es (as_text e) (spliced n ps es)

  lone_interpolation-grafted : (ps : List (List ℕ)) (es : List (Tree A B)) → lone_interpolation ps (fs es) ≡ option_map f (lone_interpolation ps es)
  lone_interpolation-grafted ([] ∷ [] ∷ []) (e ∷ []) = refl
  lone_interpolation-grafted ([] ∷ [] ∷ []) [] = refl
  lone_interpolation-grafted ([] ∷ [] ∷ []) (d ∷ e ∷ es) = refl
  lone_interpolation-grafted ps es = refl

  pub text_append-grafted : (l r : Tree A B) → Commutes f (text_append (f l) (f r)) (text_append l r)
  text_append-grafted l r = refl

  pub text_literal-grafted : (stage : ℕ) (ps : List (List ℕ)) (es : List (Tree A B)) → FirstShown stage es → Commutes f (text_literal stage ps (fs es)) (text_literal stage ps es)
  text_literal-grafted stage ps es hs =
      or-carried f _ _ _ _
      (on-carried f (grafted_texts m s) _ _ _ _ (spliced-grafted stage ps es hs) (λ t. within-carried f (text_fits t.0) (text_fits t.0) _ _ refl (text-grafted m s t.0 t.1)))
      (from-carried f 1 stage _ _ (λ q1. on-carried f f _ _ _ _ (lone_interpolation-grafted ps es) (λ e. refl)))

  pub text_show-grafted : (stage : ℕ) (t : Tree A B) → (le 1 stage ≡ true → Shown m s t) → Commutes f (text_show stage (f t)) (text_show stage t)
  text_show-grafted stage t ht =
      from-carried f 1 stage _ _ (λ q1. on-same-carried f _ _ _ _ (as_plain_text-grafted m s t (ht q1)) (λ p. within-carried f _ _ _ _ refl refl))

  separated_by-grafted : (r : Tree A B) (ps : List (List ℕ)) → separated_by (f r) ps ≡ f (separated_by r ps)
  separated_by-grafted r ps = ap (form.text ps) (replicate-grafted (pred (length ps)) r) ∙ text-grafted m s ps (replicate (pred (length ps)) r)

  pub text_replace-grafted : (stage : ℕ) (n r h : Tree A B) → (le 1 stage ≡ true → Shown m s n) → (le 2 stage ≡ true → Shown m s h) → Commutes f (text_replace stage (f n) (f r) (f h)) (text_replace stage n r h)
  text_replace-grafted stage n r h hn hh =
      from-carried f 1 stage _ _ (λ q1. on-same-carried f _ _ _ _ (as_plain_text-grafted m s n (hn q1)) λ needle.
      or-carried f _ _ _ _ (when-carried f _ _ _ _ refl refl)
      (from-carried f 2 stage _ _ (λ q2. on-same-carried f _ _ _ _ (as_plain_text-grafted m s h (hh q2)) λ hay.
      within-carried f _ _ _ _ refl (separated_by-grafted r (pieces_between needle 0 hay)))))

  -- ---- lists

  pub list_append-grafted : (stage : ℕ) (l r : Tree A B) → (le 1 stage ≡ true → Shown m s l) → (le 2 stage ≡ true → Shown m s r) → Commutes f (list_append stage (f l) (f r)) (list_append stage l r)
  list_append-grafted stage l r hl hr =
      from-carried f 1 stage _ _
      (λ q1. or-carried f _ _ _ _ (when-carried f _ _ _ _ (is_empty_list-grafted m s l (hl q1)) refl)
      (from-carried f 2 stage _ _
      (λ q2. or-carried f _ _ _ _ (when-carried f _ _ _ _ (is_empty_list-grafted m s r (hr q2)) refl)
      (on-carried f fs _ _ _ _ (as_list-grafted m s l (hl q1)) λ es. on-carried f fs _ _ _ _ (as_list-grafted m s r (hr q2)) λ ds.
      within-carried f _ _ _ _
      (let p = length-grafted es in let q = length-grafted ds in cc)
      (ap form.list (append-grafted es ds) ∙ list-grafted m s (es ++ ds))))))

  pub list_build-grafted : (source : Binders A B) (target : Binders C D) → BindersGraft m source target
      → (ty g : Tree A B) → Commutes f (list_build target (f ty) (f g)) (list_build source ty g)
  list_build-grafted source target h ty g =
      ap (λ c. Gives (form.apply (f g) (form.list_type (f ty) ∷ c ∷ form.list_of (f ty) [] ∷ []))) (h.cons s ty)

  folded_list-grafted : (ty : Tree A B) (es : List (Tree A B)) (r g b : Tree A B) → folded_list (f ty) (fs es) (f r) (f g) (f b) ≡ f (folded_list ty es r g b)
  folded_list-grafted ty [] r g b = refl
  folded_list-grafted ty (e ∷ es) r g b =
      ap (λ x. form.apply (f g) (f e ∷ form.call builtins.ListFold (f ty ∷ x ∷ f r ∷ f g ∷ f b ∷ []) ∷ [])) (list_of-grafted m s ty es)

  pub list_fold-grafted : (stage : ℕ) (ty xs r g b : Tree A B) → (le 1 stage ≡ true → Shown m s xs) → Commutes f (list_fold stage (f ty) (f xs) (f r) (f g) (f b)) (list_fold stage ty xs r g b)
  list_fold-grafted stage ty xs r g b hxs =
      from-carried f 1 stage _ _ (λ q1. on-carried f fs _ _ _ _ (as_list-grafted m s xs (hxs q1)) (λ es. ap Gives (folded_list-grafted ty es r g b)))

  pub list_length-grafted : (stage : ℕ) (ty xs : Tree A B) → (le 1 stage ≡ true → Shown m s xs) → Commutes f (list_length stage (f ty) (f xs)) (list_length stage ty xs)
  list_length-grafted stage ty xs hxs =
      from-carried f 1 stage _ _ (λ q1. on-carried f fs _ _ _ _ (as_list-grafted m s xs (hxs q1)) (λ es. ap (λ n. Gives (form.natural n)) (length-grafted es)))

  first_of-grafted : (es : List (Tree A B)) → first_of (fs es) ≡ option_map f (first_of es)
  first_of-grafted [] = refl
  first_of-grafted (e ∷ es) = refl

  last_of-grafted : (es : List (Tree A B)) → last_of (fs es) ≡ option_map f (last_of es)
  last_of-grafted [] = refl
  last_of-grafted (e ∷ []) = refl
  last_of-grafted (d ∷ e ∷ es) = last_of-grafted (e ∷ es)

  optional-grafted : (ty : Tree A B) (o : Option (Tree A B)) → optional (f ty) (option_map f o) ≡ f (optional ty o)
  optional-grafted ty (Some e) = refl
  optional-grafted ty None = refl

  pub list_head-grafted : (stage : ℕ) (ty xs : Tree A B) → (le 1 stage ≡ true → Shown m s xs) → Commutes f (list_head stage (f ty) (f xs)) (list_head stage ty xs)
  list_head-grafted stage ty xs hxs =
      from-carried f 1 stage _ _ (λ q1. on-carried f fs _ _ _ _ (as_list-grafted m s xs (hxs q1)) λ es.
      ap (λ o. Gives (optional (f ty) o)) (first_of-grafted es) ∙ ap Gives (optional-grafted ty (first_of es)))

  pub list_last-grafted : (stage : ℕ) (ty xs : Tree A B) → (le 1 stage ≡ true → Shown m s xs) → Commutes f (list_last stage (f ty) (f xs)) (list_last stage ty xs)
  list_last-grafted stage ty xs hxs =
      from-carried f 1 stage _ _ (λ q1. on-carried f fs _ _ _ _ (as_list-grafted m s xs (hxs q1)) λ es.
      ap (λ o. Gives (optional (f ty) o)) (last_of-grafted es) ∙ ap Gives (optional-grafted ty (last_of es)))

  indexed_from-grafted : (i : ℕ) (es : List (Tree A B)) → indexed_from i (fs es) ≡ fs (indexed_from i es)
  indexed_from-grafted i [] = refl
  indexed_from-grafted i (e ∷ es) = let p = indexed_from-grafted (suc i) es in cc

  pub list_indexed-grafted : (stage : ℕ) (ty xs : Tree A B) → (le 1 stage ≡ true → Shown m s xs) → Commutes f (list_indexed stage (f ty) (f xs)) (list_indexed stage ty xs)
  list_indexed-grafted stage ty xs hxs =
      from-carried f 1 stage _ _ (λ q1. on-carried f fs _ _ _ _ (as_list-grafted m s xs (hxs q1)) λ es.
      ap (λ x. Gives (form.list_of (indexed_type (f ty)) x)) (indexed_from-grafted 0 es) ∙ ap Gives (list_of-grafted m s (indexed_type ty) (indexed_from 0 es)))

  reverse-grafted : (es : List (Tree A B)) → reverse (fs es) ≡ fs (reverse es)
  reverse-grafted [] = refl
  reverse-grafted (e ∷ es) =
      reverse-append (f e ∷ []) (fs es)
      ∙ ap (λ x. x ++ f e ∷ []) (reverse-grafted es)
      ∙ append-grafted (reverse es) (e ∷ [])
      ∙ ap fs (sym (reverse-append (e ∷ []) es))

  pub list_reverse-grafted : (stage : ℕ) (ty xs : Tree A B) → (le 1 stage ≡ true → Shown m s xs) → Commutes f (list_reverse stage (f ty) (f xs)) (list_reverse stage ty xs)
  list_reverse-grafted stage ty xs hxs =
      from-carried f 1 stage _ _ (λ q1. on-carried f fs _ _ _ _ (as_list-grafted m s xs (hxs q1)) λ es.
      ap (λ x. Gives (form.list_of (f ty) x)) (reverse-grafted es) ∙ ap Gives (list_of-grafted m s ty (reverse es)))
