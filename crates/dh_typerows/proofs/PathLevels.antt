-- The record types along a path, from the outermost one to the innermost one and back.
use Rattle.std.specs.Prelude.{◌≡◌, ◌<◌, ◌≤◌, ◌+◌, ◌-◌, ◌++◌, ℕ, zero, suc, true, false, not, List, [], ◌∷◌, drop, take, length, Option, Some, None, option_map, option_and_then, unwrap_or, is_some, refl}
use Rattle.std.proofs.Common.{Global, MatchOption, Vec, ap, sym, ◌∙◌, arith, get_or, subst as along}
use Rattle.std.proofs.lemmas.Bool.{false≢true}
use Rattle.std.proofs.lemmas.List.{drop_all, drop_more, take_more}
use Rattle.dh_syntax.specs.Expressions.Forms.{Fields, record_type}
use Rattle.dh_syntax.specs.Expressions.Labels.{add_field, all_fields, field_at}
use Rattle.dh_syntax.specs.Expressions.Order.{ascending}
use Rattle.dh_syntax.specs.Expressions.Tree.{Name}
use Rattle.dh_syntax.specs.Expressions.Views.{as_record_type}
use Rattle.dh_syntax.specs.Names.Nameless.{Ref, Core}
use Rattle.dh_syntax.specs.declared.operators.Builtin.TheVariants as builtins
use Rattle.dh_syntax.specs.Typing.NamelessTyping.{core_scopes}
use Rattle.dh_syntax.specs.Typing.TypeRules as rule
use Rattle.dh_syntax.specs.Typing.TypeRulesRecords.{type_with, update}
use Rattle.dh_syntax.specs.Typing.TypeRuling as ruling
use Rattle.dh_syntax.specs.Typing.TypeRuling.{given, require}
use Rattle.dh_syntax.specs.Typing.TypeViews.{is_constant}
use Rattle.dh_store.specs.declared.codes.CodeKid.{CodeKid}
use Rattle.dh_store.specs.declared.codes.Codes.{Codes}
use Rattle.dh_store.specs.Cells.{code_core, AreBelow}
use Rattle.dh_store.specs.Growth.{count}
use Rattle.dh_types.specs.Following.{follow, Facts, Forms, Refuses}
use Rattle.dh_types.specs.Growing.{Grows}
use Rattle.dh_types.specs.Parts.{fields_of}
use Rattle.dh_typerows.specs.declared.preferring.Side.TheVariants as sides
use Rattle.dh_typerows.specs.Fields.{fields_with, ids, on_side}
use Rattle.dh_typerows.specs.Joining.{record_of}
use Rattle.dh_typerows.specs.Updating.{around, type_under, with_field, AreLevels, IsNoPath}
use Rattle.dh_typerows.proofs.FoundFields.{record-with, take-whole}
use Rattle.dh_typerows.proofs.PickedFields.{id-fields}

-- ---- one level

with-none : (x : Name) (t : Core) → with_field x t None ≡ None
with-none x t = by (as_record_type t)
  where
    by : (o : Option (Fields Ref Name)) → option_and_then (λ fs. option_map (λ u. record_type (add_field (λ d e. e) fs x u)) None) o ≡ None
    by None = refl
    by (Some fs) = refl

level-of : (x : Name) (path : List Name) (v t next : Core) → Some next ≡ type_under x t → type_with (x ∷ path) v t ≡ with_field x t (type_with path v next)
level-of x path v t next h = by (as_record_type t) h
  where
    by : (o : Option (Fields Ref Name)) → Some next ≡ option_map (λ fs. unwrap_or (field_at x fs) (record_type [])) o
        → option_and_then (λ fs. option_map (λ u. record_type (add_field (λ d e. e) fs x u)) (type_with path v (unwrap_or (field_at x fs) (record_type [])))) o
        ≡ option_and_then (λ fs. option_map (λ u. record_type (add_field (λ d e. e) fs x u)) (type_with path v next)) o
    by None k = absurd cc
    by (Some fs) k = ap (λ n. option_map (λ u. record_type (add_field (λ d e. e) fs x u)) (type_with path v n)) (sym (once next _ k))
      where
        once : (a b : Core) → Some a ≡ Some b → a ≡ b
        once a b e = cc

level-set : (x : Name) (t next : Core) (o : Option Core) → Some next ≡ type_under x t → is_some (with_field x t o) ≡ is_some o
level-set x t next o h = by (as_record_type t) h
  where
    inner : (fs : Fields Ref Name) (o : Option Core) → is_some (option_map (λ u. record_type (add_field (λ d e. e) fs x u)) o) ≡ is_some o
    inner fs None = refl
    inner fs (Some u) = refl

    by : (r : Option (Fields Ref Name)) → Some next ≡ option_map (λ fs. unwrap_or (field_at x fs) (record_type [])) r → is_some (option_and_then (λ fs. option_map (λ u. record_type (add_field (λ d e. e) fs x u)) o) r) ≡ is_some o
    by None k = absurd cc
    by (Some fs) k = inner fs o

no-level : (x : Name) (path : List Name) (v t : Core) → None ≡ type_under x t → type_with (x ∷ path) v t ≡ None
no-level x path v t h = by (as_record_type t) h
  where
    by : (o : Option (Fields Ref Name)) → None ≡ option_map (λ fs. unwrap_or (field_at x fs) (record_type [])) o
        → option_and_then (λ fs. option_map (λ u. record_type (add_field (λ d e. e) fs x u)) (type_with path v (unwrap_or (field_at x fs) (record_type [])))) o ≡ None
    by None k = refl
    by (Some fs) k = absurd cc

-- ---- several levels

around-none : (f : ℕ → Core) (path : List Name) (cs : List ℕ) → around f path cs None ≡ None
around-none f [] cs = refl
around-none f (x ∷ path) [] = refl
around-none f (x ∷ path) (c ∷ cs) = ap (with_field x (f c)) (around-none f path cs) ∙ with-none x (f c)

around-push : (f : ℕ → Core) (path : List Name) (cs : List ℕ) (x : Name) (c : ℕ) (o : Option Core) → length cs ≡ length path → around f (path ++ x ∷ []) (cs ++ c ∷ []) o ≡ around f path cs (with_field x (f c) o)
around-push f [] [] x c o h = refl
around-push f [] (d ∷ cs) x c o h = absurd (omega arith)
around-push f (y ∷ path) [] x c o h = absurd (omega arith)
around-push f (y ∷ path) (d ∷ cs) x c o h = ap (with_field y (f d)) (around-push f path cs x c o (omega arith))

length-take : {X : Type 0} (i : ℕ) (xs : List X) → i ≤ length xs → length (take i xs) ≡ i
length-take zero xs h = refl
length-take (suc i) [] h = absurd (omega arith)
length-take (suc i) (x ∷ xs) h = let p = length-take i xs (omega arith) in omega arith

-- ---- down the path

module _ (f : ℕ → Core) (path : List Name) (t : Core) where
  -- so many levels were found, and the next one is this
  abbrev pub AreLevelsSoFar : ℕ → List ℕ → Core → Type 0
  AreLevelsSoFar i cs at = (v : Core) → around f (take i path) cs (type_with (drop i path) v at) ≡ type_with path v t

  module _ (i : ℕ) (cs : List ℕ) (c : ℕ) (x : Name) (h : i < length path) (e : x ≡ get_or path i x) (counted : length cs ≡ i) (so_far : AreLevelsSoFar i cs (f c)) where
    rest : List Name
    rest = drop (i + 1) path

    at-next : drop i path ≡ x ∷ rest
    unfolding rest
    at-next = drop_more path i x h ∙ ap (λ y. y ∷ drop (i + 1) path) (sym e)

    pub level-more : (cs' : List ℕ) (next : Core) → cs' ≡ cs ++ c ∷ [] → Some next ≡ type_under x (f c) → AreLevelsSoFar (i + 1) cs' next
    unfolding rest
    level-more cs' next a p = λ v.
        ap (λ ds. around f (take (i + 1) path) ds (type_with (drop (i + 1) path) v next)) a
        ∙ ap (λ ys. around f ys (cs ++ c ∷ []) (type_with (drop (i + 1) path) v next)) (take_more path i x h ∙ ap (λ y. take i path ++ y ∷ []) (sym e))
        ∙ around-push f (take i path) cs x c (type_with (drop (i + 1) path) v next) (counted ∙ sym (length-take i path (omega (arith, h))))
        ∙ ap (around f (take i path) cs) (sym (level-of x (drop (i + 1) path) v (f c) next p))
        ∙ ap (λ ys. around f (take i path) cs (type_with ys v (f c))) (sym at-next) ∙ so_far v

    pub level-missing : None ≡ type_under x (f c) → IsNoPath path t
    level-missing p = λ v.
        sym (so_far v) ∙ ap (λ ys. around f (take i path) cs (type_with ys v (f c))) at-next ∙ ap (around f (take i path) cs) (no-level x rest v (f c) p) ∙ around-none f (take i path) cs

  -- the path can be set where what is left of it can be set in the next level
  abbrev pub IsSetSoFar : ℕ → Core → Type 0
  IsSetSoFar i at = (v : Core) → is_some (type_with path v t) ≡ is_some (type_with (drop i path) v at)

  pub set-more : (i : ℕ) (x : Name) (at next : Core) → i < length path → x ≡ get_or path i x → Some next ≡ type_under x at → IsSetSoFar i at → IsSetSoFar (i + 1) next
  set-more i x at next h e p so_far = λ v.
      so_far v ∙ ap (λ ys. is_some (type_with ys v at)) (drop_more path i x h ∙ ap (λ y. y ∷ drop (i + 1) path) (sym e)) ∙ ap is_some (level-of x (drop (i + 1) path) v at next p)
      ∙ level-set x at next (type_with (drop (i + 1) path) v next) p

  pub levels-whole : (i : ℕ) (cs : List ℕ) (at : Core) → length path ≤ i → AreLevelsSoFar i cs at → IsSetSoFar i at → AreLevels f path t cs
  levels-whole i cs at h so_far set = record {
    set = λ v. set v ∙ ap (λ ys. is_some (type_with ys v at)) (drop_all i path h);
    made = λ v. sym (so_far v) ∙ ap (λ ys. around f (take i path) cs (type_with ys v at)) (drop_all i path h) ∙ ap (λ ys. around f ys cs (Some v)) (take-whole path i h);
  }

pub found-levels : (f : ℕ → Core) (path : List Name) (t : Core) (o : Option (Vec ℕ Global)) (levels : Vec ℕ Global) → o ≡ Some levels → MatchOption o (IsNoPath path t) (λ cs. AreLevels f path t cs.items) → AreLevels f path t levels.items
found-levels f path t o levels e h = along (λ p. MatchOption p (IsNoPath path t) (λ cs. AreLevels f path t cs.items)) e h

-- ---- one level made again

pub set-view : (f : ℕ → Core) (labels name name' : List Name) (x : Name) (kids : List CodeKid) (own own' : List ℕ) (u : ℕ) (t : Core) (p : List Name × List ℕ) → Some (fields_of f labels kids) ≡ as_record_type t → own ≡ ids kids → own' ≡ own → name ≡ x ∷ [] → name' ≡ name
    → fields_with f p.0 p.1 ≡ all_fields (on_side sides.Second) (fields_with f labels own') (fields_with f name' (u ∷ [])) → length p.0 ≡ length p.1 → Some (record_of f p) ≡ with_field x t (Some (f u))
set-view f labels name name' x kids own own' u t p view a b c d e paired =
    ap Some
    (sym (record-with f p.0 p.1 paired) ∙ ap record_type e ∙ ap (λ cs. record_type (all_fields (on_side sides.Second) (fields_with f labels cs) (fields_with f name' (u ∷ [])))) (b ∙ a)
    ∙ ap (λ fs. record_type (all_fields (on_side sides.Second) fs (fields_with f name' (u ∷ [])))) (id-fields f labels kids)
    ∙ ap (λ xs. record_type (all_fields (on_side sides.Second) (fields_of f labels kids) (fields_with f xs (u ∷ [])))) (d ∙ c))
    ∙ ap (option_and_then (λ fs. option_map (λ u. record_type (add_field (λ d e. e) fs x u)) (Some (f u)))) view

pub one-ascends : (xs ys : List Name) (x : Name) → xs ≡ x ∷ [] → ys ≡ xs → ascending ys ≡ true
one-ascends xs ys x a b = ap ascending (b ∙ a)

pub one-counted : (xs ys : List Name) (x : Name) (u : ℕ) → xs ≡ x ∷ [] → ys ≡ xs → length ys ≡ length (u ∷ [])
one-counted xs ys x u a b = ap length (b ∙ a)

-- ---- back up the path

take-last : {X : Type 0} (xs : List X) (n : ℕ) (x : X) → 0 < n → n ≤ length xs → x ≡ get_or xs (n - 1) x → take n xs ≡ take (n - 1) xs ++ x ∷ []
take-last xs n x pos h e =
    let p : n ≡ (n - 1) + 1 = omega (arith, pos) in
    ap (λ m. take m xs) p ∙ take_more xs (n - 1) x (omega (arith, pos, h)) ∙ ap (λ y. take (n - 1) xs ++ y ∷ []) (sym e)

module _ (old : Codes) (path : List Name) (cs : List ℕ) (v : Core) where
  abbrev g : ℕ → Core
  g = code_core old

  -- the levels behind the first so many were made again, and stand for this
  abbrev pub IsBuiltFrom : ℕ → Core → Type 0
  IsBuiltFrom i e = around g (take i path) (take i cs) (Some e) ≡ around g path cs (Some v)

  pub nothing-built : length cs ≡ length path → (i : ℕ) → length path ≤ i → IsBuiltFrom i v
  nothing-built counted i h = ap (λ ys. around g ys (take i cs) (Some v)) (take-whole path i h) ∙ ap (λ ds. around g path ds (Some v)) (take-whole cs i (omega (arith, counted, h)))

  pub built-more : length cs ≡ length path → (n : ℕ) (x : Name) (c : ℕ) (e e' : Core) → 0 < n → n ≤ length path → x ≡ get_or path (n - 1) x → c ≡ get_or cs (n - 1) c → Some e' ≡ with_field x (g c) (Some e) → IsBuiltFrom n e → IsBuiltFrom (n - 1) e'
  built-more counted n x c e e' pos h ex ec p so_far =
      ap (around g (take (n - 1) path) (take (n - 1) cs)) p
      ∙ sym (around-push g (take (n - 1) path) (take (n - 1) cs) x c (Some e) (length-take (n - 1) cs (omega (arith, counted, h)) ∙ sym (length-take (n - 1) path (omega (arith, h)))))
      ∙ ap (λ ds. around g (take (n - 1) path ++ x ∷ []) ds (Some e)) (sym (take-last cs n c pos (omega (arith, counted, h)) ec))
      ∙ ap (λ ys. around g ys (take n cs) (Some e)) (sym (take-last path n x pos h ex)) ∙ so_far

  pub all-built : (n : ℕ) (e : Core) → n ≡ 0 → IsBuiltFrom n e → Some e ≡ around g path cs (Some v)
  all-built n e z so_far = along (λ m. IsBuiltFrom m e) z so_far

pub level-at : (n : ℕ) (cs : List ℕ) (i : ℕ) → AreBelow n cs → i < length cs → get_or cs i 0 < n
level-at n [] i b h = absurd (omega arith)
level-at n (d ∷ cs) zero b h = b.0
level-at n (d ∷ cs) (suc i) b h = level-at n cs i b.1 (omega arith)

pub same-level : (old new : Codes) (x : Name) (c u : ℕ) (e : Core) → Grows old new → c < count old → Some e ≡ with_field x (code_core new c) (Some (code_core new u)) → Some e ≡ with_field x (code_core old c) (Some (code_core new u))
same-level old new x c u e g h p = p ∙ ap (λ d. with_field x d (Some (code_core new u))) (g.cores c h)

-- ---- the rule

module _ (facts : Facts Core) (path : List Name) (t v : Core) where
  pub update-refused : type_with path v t ≡ None → Refuses 54 ≡ follow facts (update core_scopes path t v)
  update-refused h = sym (ap (λ o. follow facts (given o rule.UpdateNoRecord (λ u. require (not (is_constant builtins.Sort v)) rule.UpdateOfSort (ruling.Forms u)))) h)

  of-sort : (o : Option Core) → is_some o ≡ true → is_constant builtins.Sort v ≡ true → Refuses 55 ≡ follow facts (given o rule.UpdateNoRecord (λ u. require (not (is_constant builtins.Sort v)) rule.UpdateOfSort (ruling.Forms u)))
  of-sort (Some u) h s = sym (ap (λ b. follow facts (require (not b) rule.UpdateOfSort (ruling.Forms u))) s)
  of-sort None h s = absurd (false≢true h)

  pub update-sort : is_some (type_with path v t) ≡ true → is_constant builtins.Sort v ≡ true → Refuses 55 ≡ follow facts (update core_scopes path t v)
  update-sort h s = of-sort (type_with path v t) h s

  pub update-forms : (e : Core) (o : Option Core) → type_with path v t ≡ o → Some e ≡ o → is_constant builtins.Sort v ≡ false → Forms e ≡ follow facts (update core_scopes path t v)
  update-forms e o p q s =
      sym (ap (λ o. follow facts (given o rule.UpdateNoRecord (λ u. require (not (is_constant builtins.Sort v)) rule.UpdateOfSort (ruling.Forms u)))) (p ∙ sym q)
      ∙ ap (λ b. follow facts (require (not b) rule.UpdateOfSort (ruling.Forms e))) s)
