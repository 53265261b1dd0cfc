-- Views of moved types.
use Rattle.std.specs.Prelude.{◌≡◌, ℕ, zero, suc, Bool, true, false, ◌&&◌, ◌||◌, if◌then◌else◌, List, [], ◌∷◌, Option, Some, None, option_map, option_and_then, unwrap_or, slice_get, map, codes, refl}
use Rattle.std.proofs.Common.{ap, ◌∙◌}
use Rattle.dh_syntax.specs.declared.expressions.Alt.{Alt}
use Rattle.dh_syntax.specs.declared.expressions.Op.TheVariants as ops
use Rattle.dh_syntax.specs.declared.operators.BinOp.TheVariants as bins
use Rattle.dh_syntax.specs.declared.operators.Builtin.{Builtin}
use Rattle.dh_syntax.specs.declared.operators.Builtin.TheVariants as builtins
use Rattle.dh_syntax.specs.Expressions.Forms.{Fields}
use Rattle.dh_syntax.specs.Expressions.Labels.{field_at}
use Rattle.dh_syntax.specs.Names.Moves.{Move, moved}
use Rattle.dh_syntax.specs.Expressions.Numbers.{bytes_eq}
use Rattle.dh_syntax.specs.Expressions.Tree.{Tree, Leaf, Node, kid, Name}
use Rattle.dh_syntax.specs.Typing.TypeViews.{each, one_of, first_of, Alternatives, is_constant, as_applied, as_optional_type, as_forall, as_equivalence, field_type, next_alternative, alternatives, as_union_type, alternative_at, optional_alternatives, as_merged, as_entry_type, as_map_type}
use Rattle.dh_syntax.specs.Typing.Universes.{as_universe}
use Rattle.dh_syntax.specs.Expressions.Views.{as_record_type}
use Rattle.dh_typing_laws.proofs.Ruling.MovedFields.{field_at-moved}
use Rattle.dh_typing_laws.proofs.Ruling.MovedViews.{moved_list, moved_fields, moved_two, bodies-moved, first_two-moved, as_record_type-moved}

-- ---- options and tests

pub if-map : {X Y : Type 0} (g : X → Y) (b : Bool) (x y : X) (x' y' : Y) → x' ≡ g x → y' ≡ g y → (if b then x' else y') ≡ g (if b then x else y)
if-map g true x y x' y' p q = p
if-map g false x y x' y' p q = q

pub and_then-map : {X Y Z W : Type 0} (g : X → Y) (h : Z → W) (o' : Option Y) (o : Option X) (k' : Y → Option W) (k : X → Option Z)
    → o' ≡ option_map g o → ((x : X) → k' (g x) ≡ option_map h (k x)) → option_and_then k' o' ≡ option_map h (option_and_then k o)
and_then-map g h o' (Some x) k' k p q = ap (option_and_then k') p ∙ q x
and_then-map g h o' None k' k p q = ap (option_and_then k') p

pub map-map : {X Y Z W : Type 0} (g : X → Y) (h : Z → W) (o' : Option Y) (o : Option X) (k' : Y → W) (k : X → Z)
    → o' ≡ option_map g o → ((x : X) → k' (g x) ≡ h (k x)) → option_map k' o' ≡ option_map h (option_map k o)
map-map g h o' (Some x) k' k p q = ap (option_map k') p ∙ ap Some (q x)
map-map g h o' None k' k p q = ap (option_map k') p

first_of-map : {X Y : Type 0} (g : X → Y) (o p : Option X) → first_of (option_map g o) (option_map g p) ≡ option_map g (first_of o p)
first_of-map g (Some x) p = refl
first_of-map g None p = refl

module _ {S A B C D : Type 0} (m : Move S A B C D) (s : S) where
  abbrev f : Tree A B → Tree C D
  f e = moved m s e

  abbrev list : List (Tree A B) → List (Tree C D)
  list es = moved_list m s es

  -- ---- lists

  pub each-moved : (test' : Tree C D → Bool) (test : Tree A B → Bool) → ((e : Tree A B) → test' (f e) ≡ test e) → (es : List (Tree A B)) → each test' (list es) ≡ each test es
  each-moved test' test h [] = refl
  each-moved test' test h (e ∷ es) = let p = h e in let q = each-moved test' test h es in λ i. p i && q i

  pub each_field-moved : (test' : Tree C D → Bool) (test : Tree A B → Bool) → ((e : Tree A B) → test' (f e) ≡ test e)
      → (fs : Fields A B) → each (λ g. test' g.1) (moved_fields m s fs) ≡ each (λ g. test g.1) fs
  each_field-moved test' test h [] = refl
  each_field-moved test' test h (g ∷ fs) = let p = h g.1 in let q = each_field-moved test' test h fs in λ i. p i && q i

  pub one_of-moved : (test' : Tree C D → Bool) (test : Tree A B → Bool) → ((e : Tree A B) → test' (f e) ≡ test e) → (es : List (Tree A B)) → one_of test' (list es) ≡ one_of test es
  one_of-moved test' test h [] = refl
  one_of-moved test' test h (e ∷ es) = let p = h e in let q = one_of-moved test' test h es in λ i. p i || q i

  pub get-moved : (es : List (Tree A B)) (k : ℕ) → slice_get (list es) k ≡ option_map f (slice_get es k)
  get-moved [] k = refl
  get-moved (e ∷ es) zero = refl
  get-moved (e ∷ es) (suc k) = get-moved es k

  pub unwrap_or-moved : (o : Option (Tree A B)) (d : Tree A B) → unwrap_or (option_map f o) (f d) ≡ f (unwrap_or o d)
  unwrap_or-moved (Some e) d = refl
  unwrap_or-moved None d = refl

  -- ---- constants

  pub is_constant-moved : (b : Builtin) (e : Tree A B) → is_constant b (f e) ≡ is_constant b e
  is_constant-moved b (Node (ops.Builtin c) r) = refl
  is_constant-moved b (Node op r) = refl
  is_constant-moved b (Leaf a) = refl

  pub as_universe-moved : (e : Tree A B) → as_universe (f e) ≡ as_universe e
  as_universe-moved (Node (ops.Builtin c) r) = refl
  as_universe-moved (Node op r) = refl
  as_universe-moved (Leaf a) = refl

  pub universe-moved : (o : Option (Tree A B)) → option_and_then as_universe (option_map f o) ≡ option_and_then as_universe o
  universe-moved (Some e) = as_universe-moved e
  universe-moved None = refl

  pub as_applied-moved : (b : Builtin) (e : Tree A B) → as_applied b (f e) ≡ option_map f (as_applied b e)
  as_applied-moved b (Node ops.App (kid None g (kid None a r))) =
      ap (λ t. if t then Some (f a) else None) (is_constant-moved b g) ∙ if-map (option_map f) (is_constant b g) (Some a) None _ _ refl refl
  as_applied-moved b (Node op r) = refl
  as_applied-moved b (Leaf a) = refl

  -- ---- forms

  abbrev pub moved_forall : Tree A B × B × Tree A B → Tree C D × D × Tree C D
  moved_forall p = (f p.0, m.binder p.1, moved m (m.enter s p.1) p.2)

  pub as_forall-moved : (e : Tree A B) → as_forall (f e) ≡ option_map moved_forall (as_forall e)
  as_forall-moved (Node ops.Pi (kid None t (kid (Some x) b r))) = refl
  as_forall-moved (Node op r) = refl
  as_forall-moved (Leaf a) = refl

  pub as_equivalence-moved : (e : Tree A B) → as_equivalence (f e) ≡ option_map (moved_two m s) (as_equivalence e)
  as_equivalence-moved (Node (ops.Bin bins.Equivalent) r) = first_two-moved m s r
  as_equivalence-moved (Node op r) = refl
  as_equivalence-moved (Leaf a) = refl

  pub field_type-moved : (x : Name) (e : Tree A B) → field_type x (f e) ≡ option_map f (field_type x e)
  field_type-moved x e = and_then-map (moved_fields m s) f _ _ (field_at x) (field_at x) (as_record_type-moved m s e) (λ fs. field_at-moved m s x fs)

  -- ---- unions

  abbrev pub moved_alts : Alternatives A B → Alternatives C D
  moved_alts [] = []
  moved_alts (a ∷ alts) = (a.0, option_map f a.1) ∷ moved_alts alts

  next-moved : (x : Name) (typed : Bool) (ts : List (Tree A B)) (o' : List (Tree C D) → Alternatives C D) (o : List (Tree A B) → Alternatives A B)
      → ((us : List (Tree A B)) → o' (list us) ≡ moved_alts (o us)) → next_alternative x typed (list ts) o' ≡ moved_alts (next_alternative x typed ts o)
  next-moved x true (t ∷ ts) o' o h = ap (λ alts. (x, Some (f t)) ∷ alts) (h ts)
  next-moved x true [] o' o h = ap (λ alts. (x, None) ∷ alts) (h [])
  next-moved x false ts o' o h = ap (λ alts. (x, None) ∷ alts) (h ts)

  alternatives-moved : (as' : List Alt) (ts : List (Tree A B)) → alternatives as' (list ts) ≡ moved_alts (alternatives as' ts)
  alternatives-moved [] ts = refl
  alternatives-moved (a ∷ as') ts = next-moved a.label a.typed ts (λ us. alternatives as' us) (λ us. alternatives as' us) (alternatives-moved as')

  pub as_union_type-moved : (e : Tree A B) → as_union_type (f e) ≡ option_map moved_alts (as_union_type e)
  as_union_type-moved (Node (ops.Union alts) r) = map-map list moved_alts _ _ (λ ts. alternatives alts ts) (λ ts. alternatives alts ts) (bodies-moved m s r) (alternatives-moved alts)
  as_union_type-moved (Node op r) = refl
  as_union_type-moved (Leaf a) = refl

  pub alternative_at-moved : (x : Name) (alts : Alternatives A B) → alternative_at x (moved_alts alts) ≡ option_map (option_map f) (alternative_at x alts)
  alternative_at-moved x [] = refl
  alternative_at-moved x ((y, t) ∷ alts) = if-map (option_map (option_map f)) (bytes_eq x y) (Some t) (alternative_at x alts) _ _ refl (alternative_at-moved x alts)

  pub alternative_labels-moved : (alts : Alternatives A B) → map (λ a. a.0) (moved_alts alts) ≡ map (λ a. a.0) alts
  alternative_labels-moved [] = refl
  alternative_labels-moved (a ∷ alts) = ap (λ xs. a.0 ∷ xs) (alternative_labels-moved alts)

  pub as_merged-moved : (e : Tree A B) → as_merged (f e) ≡ option_map moved_alts (as_merged e)
  as_merged-moved e =
      ap (λ o. first_of o (option_map optional_alternatives (as_optional_type (f e)))) (as_union_type-moved e)
      ∙ ap (first_of (option_map moved_alts (as_union_type e)))
      (map-map f moved_alts _ _ optional_alternatives optional_alternatives (as_applied-moved builtins.Optional e) (λ t. refl))
      ∙ first_of-map moved_alts (as_union_type e) (option_map optional_alternatives (as_optional_type e))

  -- ---- maps

  as_entry_type-moved : (fs : Fields A B) → as_entry_type (moved_fields m s fs) ≡ option_map f (as_entry_type fs)
  as_entry_type-moved [] = refl
  as_entry_type-moved (a ∷ []) = refl
  as_entry_type-moved ((x, k) ∷ (y, v) ∷ []) =
      ap (λ b. if bytes_eq x (codes "mapKey") && bytes_eq y (codes "mapValue") && b then Some (f v) else None) (is_constant-moved builtins.Text k)
      ∙ if-map (option_map f) (bytes_eq x (codes "mapKey") && bytes_eq y (codes "mapValue") && is_constant builtins.Text k) (Some v) None _ _ refl refl
  as_entry_type-moved (a ∷ b ∷ c ∷ fs) = refl

  pub as_map_type-moved : (e : Tree A B) → as_map_type (f e) ≡ option_map f (as_map_type e)
  as_map_type-moved e =
      and_then-map (moved_fields m s) f _ _ as_entry_type as_entry_type
      (and_then-map f (moved_fields m s) _ _ as_record_type as_record_type (as_applied-moved builtins.List e) (as_record_type-moved m s)) as_entry_type-moved
