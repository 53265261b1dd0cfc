-- What the rows of the fragment give, after a move and after a substitution.
use Rattle.std.specs.Prelude.{◌≡◌, ℕ, zero, suc, Bool, true, false, if◌then◌else◌, List, [], ◌∷◌, Option, Some, None, option_map, option_and_then, refl}
use Rattle.std.proofs.Common.{ap, sym, ◌∙◌}
use Rattle.dh_syntax.specs.declared.expressions.Op.{Op}
use Rattle.dh_syntax.specs.declared.expressions.Op.TheVariants as ops
use Rattle.dh_syntax.specs.Expressions.Forms.{Fields}
use Rattle.dh_syntax.specs.Expressions.Labels.{field_at}
use Rattle.dh_syntax.specs.Expressions.Numbers.{bytes_eq}
use Rattle.dh_syntax.specs.Expressions.Tree.{Tree, Row, Leaf, Node, end, kid, Name}
use Rattle.dh_syntax.specs.Expressions.Views.{fields, as_record}
use Rattle.dh_syntax.specs.Names.Moves.{Move, moved, moved_row}
use Rattle.dh_syntax.specs.Names.Nameless.{Ref, sub, sub_row, first}
use Rattle.dh_laws.proofs.Contracting.Contractions.{sub-first}
use Rattle.dh_confluence.specs.FragmentSteps.{applied, let_put, reduct, step_at, step_part}
use Rattle.dh_confluence.proofs.RowsRelated.{some-is, chosen-some, Beside, fields-beside}

-- ---- moves

map-twice : {X Y Z W : Type 0} (f : Y → Z) (g : X → Y) (f' : W → Z) (g' : X → W) → ((x : X) → f (g x) ≡ f' (g' x))
    → (o : Option X) → option_map f (option_map g o) ≡ option_map f' (option_map g' o)
map-twice f g f' g' h None = refl
map-twice f g f' g' h (Some x) = ap Some (h x)

module _ {S A B C D : Type 0} (m : Move S A B C D) where
  abbrev moved_fields : S → Fields A B → Fields C D
  moved_fields s [] = []
  moved_fields s (f ∷ fs) = (f.0, moved m s f.1) ∷ moved_fields s fs

  fields-moved : (s : S) (xs : List Name) (r : Row A B) → fields xs (moved_row m s r) ≡ option_map (moved_fields s) (fields xs r)
  fields-moved s [] end = refl
  fields-moved s [] (kid b e r) = refl
  fields-moved s (x ∷ xs) end = refl
  fields-moved s (x ∷ xs) (kid None e r) =
      ap (option_map (λ fs. (x, moved m s e) ∷ fs)) (fields-moved s xs r)
      ∙ map-twice (λ fs. (x, moved m s e) ∷ fs) (moved_fields s) (moved_fields s) (λ fs. (x, e) ∷ fs) (λ fs. refl) (fields xs r)
  fields-moved s (x ∷ xs) (kid (Some y) e r) = refl

  chosen-field : (s : S) (x : Name) (e : Tree A B) (fs : Fields A B) (b : Bool) → field_at x (moved_fields s fs) ≡ option_map (moved m s) (field_at x fs)
      → (if b then Some (moved m s e) else field_at x (moved_fields s fs)) ≡ option_map (moved m s) (if b then Some e else field_at x fs)
  chosen-field s x e fs true p = refl
  chosen-field s x e fs false p = p

  field_at-moved : (s : S) (x : Name) (fs : Fields A B) → field_at x (moved_fields s fs) ≡ option_map (moved m s) (field_at x fs)
  field_at-moved s x [] = refl
  field_at-moved s x ((y, e) ∷ fs) = chosen-field s x e fs (bytes_eq x y) (field_at-moved s x fs)

  chosen-moved : (s : S) (x : Name) (o : Option (Fields A B)) (p : Option (Fields C D)) → p ≡ option_map (moved_fields s) o
      → option_and_then (field_at x) p ≡ option_map (moved m s) (option_and_then (field_at x) o)
  chosen-moved s x None p h = ap (option_and_then (field_at x)) h
  chosen-moved s x (Some fs) p h = ap (option_and_then (field_at x)) h ∙ field_at-moved s x fs

  selected-moved : (s : S) (x : Name) (e : Tree A B)
      → option_and_then (field_at x) (as_record (moved m s e)) ≡ option_map (moved m s) (option_and_then (field_at x) (as_record e))
  selected-moved s x (Leaf a) = refl
  selected-moved s x (Node (ops.Record xs) r) = chosen-moved s x (fields xs r) (fields xs (moved_row m s r)) (fields-moved s xs r)
  selected-moved s x (Node op r) = refl

  module _ (source : B → Tree A B → Tree A B → Tree A B) (target : D → Tree C D → Tree C D → Tree C D)
      (puts : (s : S) (x : B) (a b : Tree A B) → target (m.binder x) (moved m s a) (moved m (m.enter s x) b) ≡ moved m s (source x a b)) where
    applied-moved : (s : S) (f a : Tree A B) → applied target (moved m s f) (moved m s a) ≡ option_map (moved m s) (applied source f a)
    applied-moved s (Node ops.Lam (kid None t (kid (Some x) b r))) a = ap Some (puts s x a b)
    applied-moved s (Node op r) a = refl
    applied-moved s (Leaf v) a = refl

    let_put-moved : (s : S) (r : Row A B) → let_put target (moved_row m s r) ≡ option_map (moved m s) (let_put source r)
    let_put-moved s (kid None a (kid (Some x) b end)) = ap Some (puts s x a b)
    let_put-moved s (kid None t (kid None a (kid (Some x) b end))) = ap Some (puts s x a b)
    let_put-moved s r = refl

    pub reduct-moved : (s : S) (op : Op) (r : Row A B) → reduct target op (moved_row m s r) ≡ option_map (moved m s) (reduct source op r)
    reduct-moved s ops.App end = refl
    reduct-moved s ops.App (kid (Some x) e r) = refl
    reduct-moved s ops.App (kid None e end) = refl
    reduct-moved s ops.App (kid None e (kid (Some x) f r)) = refl
    reduct-moved s ops.App (kid None e (kid None f r)) = applied-moved s e f
    reduct-moved s (ops.Let typed) r = let_put-moved s r
    reduct-moved s ops.Annot end = refl
    reduct-moved s ops.Annot (kid None e r) = refl
    reduct-moved s ops.Annot (kid (Some x) e r) = refl
    reduct-moved s (ops.Field x) end = refl
    reduct-moved s (ops.Field x) (kid None e r) = selected-moved s x e
    reduct-moved s (ops.Field x) (kid (Some y) e r) = refl
    reduct-moved s op r = refl

    -- ---- steps at places

    mutual
      pub step_at-moved : (s : S) (place : List ℕ) (e : Tree A B) → step_at target place (moved m s e) ≡ option_map (moved m s) (step_at source place e)
      step_at-moved s [] (Leaf a) = refl
      step_at-moved s [] (Node op r) = reduct-moved s op r
      step_at-moved s (i ∷ place) (Leaf a) = refl
      step_at-moved s (i ∷ place) (Node op r) =
          ap (option_map (λ t. Node op t)) (step_part-moved s i place r)
          ∙ map-twice (λ t. Node op t) (moved_row m s) (moved m s) (λ t. Node op t) (λ t. refl) (step_part source i place r)

      step_part-moved : (s : S) (i : ℕ) (place : List ℕ) (r : Row A B) → step_part target i place (moved_row m s r) ≡ option_map (moved_row m s) (step_part source i place r)
      step_part-moved s i place end = refl
      step_part-moved s zero place (kid None e r) =
          ap (option_map (λ g. kid None g (moved_row m s r))) (step_at-moved s place e)
          ∙ map-twice (λ g. kid None g (moved_row m s r)) (moved m s) (moved_row m s) (λ g. kid None g r) (λ g. refl) (step_at source place e)
      step_part-moved s zero place (kid (Some x) e r) =
          ap (option_map (λ g. kid (Some (m.binder x)) g (moved_row m s r))) (step_at-moved (m.enter s x) place e)
          ∙ map-twice (λ g. kid (Some (m.binder x)) g (moved_row m s r)) (moved m (m.enter s x)) (moved_row m s) (λ g. kid (Some x) g r) (λ g. refl) (step_at source place e)
      step_part-moved s (suc i) place (kid None e r) =
          ap (option_map (λ t. kid None (moved m s e) t)) (step_part-moved s i place r)
          ∙ map-twice (λ t. kid None (moved m s e) t) (moved_row m s) (moved_row m s) (λ t. kid None e t) (λ t. refl) (step_part source i place r)
      step_part-moved s (suc i) place (kid (Some x) e r) =
          ap (option_map (λ t. kid (Some (m.binder x)) (moved m (m.enter s x) e) t)) (step_part-moved s i place r)
          ∙ map-twice (λ t. kid (Some (m.binder x)) (moved m (m.enter s x) e) t) (moved_row m s) (moved_row m s) (λ t. kid (Some x) e t) (λ t. refl) (step_part source i place r)

-- ---- substitution

-- a nameless body with an argument for the variable of its binder
abbrev pub put_first : {B : Type 0} → B → Tree Ref B → Tree Ref B → Tree Ref B
put_first x a b = sub (first a) b

module _ {B : Type 0} (s : ℕ → Tree Ref B) where
  abbrev After : Option (Tree Ref B) → Tree Ref B → Type 0
  After o c = o ≡ Some (sub s c)

  beside-sub : (r : Row Ref B) → Beside (λ d e. e ≡ sub s d) r (sub_row s r)
  beside-sub end = refl
  beside-sub (kid None e r) = (sub s e, sub_row s r, refl, beside-sub r, refl)
  beside-sub (kid (Some x) e r) = tt

  applied-sub : (f a c : Tree Ref B) → applied put_first f a ≡ Some c → applied put_first (sub s f) (sub s a) ≡ Some (sub s c)
  applied-sub (Node ops.Lam (kid None t (kid (Some x) b r))) a c p = ap Some (sym (sub-first s a b) ∙ ap (sub s) (some-is _ c p))
  applied-sub (Node op r) a c p = absurd cc
  applied-sub (Leaf v) a c p = absurd cc

  let_put-sub : (r : Row Ref B) (c : Tree Ref B) → let_put put_first r ≡ Some c → let_put put_first (sub_row s r) ≡ Some (sub s c)
  let_put-sub (kid None a (kid (Some x) b end)) c p = ap Some (sym (sub-first s a b) ∙ ap (sub s) (some-is _ c p))
  let_put-sub (kid None t (kid None a (kid (Some x) b end))) c p = ap Some (sym (sub-first s a b) ∙ ap (sub s) (some-is _ c p))
  let_put-sub r c p = absurd cc

  selected-sub : (x : Name) (e c : Tree Ref B) → option_and_then (field_at x) (as_record e) ≡ Some c → option_and_then (field_at x) (as_record (sub s e)) ≡ Some (sub s c)
  selected-sub x (Leaf v) c p = absurd cc
  selected-sub x (Node (ops.Record xs) r) c p =
      chosen-some (field_at x) (fields xs r) c p λ fs q k.
      let (gs, u, h) = fields-beside (λ d e. e ≡ sub s d) xs r (sub_row s r) (beside-sub r) fs q in
      let (d, v, w) = h x c k in
      ap (option_and_then (field_at x)) u ∙ v ∙ ap Some w
  selected-sub x (Node op r) c p = absurd cc

  pub reduct-sub : (op : Op) (r : Row Ref B) (c : Tree Ref B) → reduct put_first op r ≡ Some c → reduct put_first op (sub_row s r) ≡ Some (sub s c)
  reduct-sub ops.App (kid None e (kid None f r)) c p = applied-sub e f c p
  reduct-sub ops.App r c p = absurd cc
  reduct-sub (ops.Let typed) r c p = let_put-sub r c p
  reduct-sub ops.Annot (kid None e r) c p = ap (λ d. Some (sub s d)) (some-is e c p)
  reduct-sub ops.Annot r c p = absurd cc
  reduct-sub (ops.Field x) (kid None e r) c p = selected-sub x e c p
  reduct-sub (ops.Field x) r c p = absurd cc
  reduct-sub op r c p = absurd cc
