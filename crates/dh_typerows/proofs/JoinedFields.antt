-- The fields of a record type, each joined with that of another one, from the first to the last.
use Rattle.std.specs.Prelude.{◌≡◌, ◌<◌, ◌≤◌, ◌+◌, ◌++◌, ℕ, zero, suc, List, [], ◌∷◌, drop, take, length, Option, Some, None, option_map, refl}
use Rattle.std.proofs.Common.{ap, sym, ◌∙◌, arith, append_assoc, append-nil, get_or}
use Rattle.std.proofs.lemmas.List.{drop_all, take_more}
use Rattle.dh_syntax.specs.Expressions.Forms.{Fields}
use Rattle.dh_syntax.specs.Expressions.Labels.{field_at, prepend_field}
use Rattle.dh_syntax.specs.Expressions.Tree.{Name}
use Rattle.dh_syntax.specs.Names.Nameless.{Ref, Core}
use Rattle.dh_syntax.specs.Typing.TypeRulesRecords.{joined, joined_field}
use Rattle.dh_store.specs.declared.codes.CodeKid.{CodeKid}
use Rattle.dh_types.specs.Parts.{fields_of}
use Rattle.dh_typerows.specs.Fields.{fields_with}
use Rattle.dh_typerows.specs.Joining.{joined_all}
use Rattle.dh_typerows.proofs.FoundFields.{take-whole}
use Rattle.dh_typerows.proofs.HandlerLists.{field-at}

-- some fields, and others behind them
abbrev pub before : Fields Ref Name → Option (Fields Ref Name) → Option (Fields Ref Name)
before fs o = option_map (λ gs. fs ++ gs) o

prepended : (fs : Fields Ref Name) (x : Name) (e : Core) (o : Option (Fields Ref Name)) → before fs (prepend_field x (Some e) o) ≡ before (fs ++ (x, e) ∷ []) o
prepended fs x e None = refl
prepended fs x e (Some gs) = ap Some (sym (append_assoc fs ((x, e) ∷ []) gs))

refused : (fs : Fields Ref Name) (x : Name) (o : Option (Fields Ref Name)) → before fs (prepend_field x None o) ≡ None
refused fs x None = refl
refused fs x (Some gs) = refl

with-push : (f : ℕ → Core) (xs : List Name) (cs : List ℕ) (x : Name) (c : ℕ) → length cs ≡ length xs → fields_with f (xs ++ x ∷ []) (cs ++ c ∷ []) ≡ fields_with f xs cs ++ (x, f c) ∷ []
with-push f [] [] x c h = refl
with-push f [] (d ∷ cs) x c h = absurd (omega arith)
with-push f (y ∷ xs) [] x c h = absurd (omega arith)
with-push f (y ∷ xs) (d ∷ cs) x c h = ap (λ fs. (y, f d) ∷ fs) (with-push f xs cs x c (omega arith))

length-take : {X : Type 0} (i : ℕ) (xs : List X) → i ≤ length xs → length (take i xs) ≡ i
length-take zero xs h = refl
length-take (suc i) [] h = absurd (omega arith)
length-take (suc i) (x ∷ xs) h = let p = length-take i xs (omega arith) in omega arith

module _ (f : ℕ → Core) (gs : Fields Ref Name) (xs : List Name) (kids : List CodeKid) where
  -- so many fields were joined, and have these types
  abbrev pub IsJoinedSoFar : ℕ → List ℕ → Type 0
  IsJoinedSoFar i types = before (fields_with f (take i xs) types) (joined_all (fields_of f (drop i xs) (drop i kids)) gs) ≡ joined_all (fields_of f xs kids) gs

  pub none-joined : before (fields_with f (take 0 xs) []) (joined_all (fields_of f (drop 0 xs) (drop 0 kids)) gs) ≡ joined_all (fields_of f xs kids) gs
  none-joined = itself (joined_all (fields_of f xs kids) gs)
    where
      itself : (o : Option (Fields Ref Name)) → before [] o ≡ o
      itself None = refl
      itself (Some fs) = refl

  module _ (paired : length xs ≡ length kids) (i : ℕ) (types : List ℕ) (x : Name) (k : CodeKid) (h : i < length kids) (ex : x ≡ get_or xs i x) (ek : k ≡ get_or kids i k) (so_far : IsJoinedSoFar i types) where
    rest : Option (Fields Ref Name)
    rest = joined_all (fields_of f (drop (i + 1) xs) (drop (i + 1) kids)) gs

    now : before (fields_with f (take i xs) types) (prepend_field x (joined_field (λ u. joined (f k.code) u) (f k.code) (field_at x gs)) rest) ≡ joined_all (fields_of f xs kids) gs
    unfolding rest
    now =
        ap (λ y. before (fields_with f (take i xs) types) (joined_all ((y, f k.code) ∷ fields_of f (drop (i + 1) xs) (drop (i + 1) kids)) gs)) ex
        ∙ ap (λ (j : CodeKid). before (fields_with f (take i xs) types) (joined_all ((get_or xs i x, f j.code) ∷ fields_of f (drop (i + 1) xs) (drop (i + 1) kids)) gs)) ek
        ∙ ap (λ fs. before (fields_with f (take i xs) types) (joined_all fs gs)) (sym (field-at f xs kids i x k (omega (arith, paired)) h)) ∙ so_far

    pub joined-more : (types' : List ℕ) (c : ℕ) → length types ≡ i → types' ≡ types ++ c ∷ [] → Some (f c) ≡ joined_field (λ u. joined (f k.code) u) (f k.code) (field_at x gs) → IsJoinedSoFar (i + 1) types'
    unfolding rest
    joined-more types' c l a p =
        ap (λ fs. before fs rest)
        (ap (fields_with f (take (i + 1) xs)) a ∙ ap (λ ys. fields_with f ys (types ++ c ∷ [])) (take_more xs i x (omega (arith, paired)) ∙ ap (λ y. take i xs ++ y ∷ []) (sym ex))
        ∙ with-push f (take i xs) types x c (l ∙ sym (length-take i xs (omega (arith, paired)))))
        ∙ sym (prepended (fields_with f (take i xs) types) x (f c) rest)
        ∙ ap (λ o. before (fields_with f (take i xs) types) (prepend_field x o rest)) p
        ∙ now

    pub joined-refused : None ≡ joined_field (λ u. joined (f k.code) u) (f k.code) (field_at x gs) → None ≡ joined_all (fields_of f xs kids) gs
    joined-refused p = sym (refused (fields_with f (take i xs) types) x rest) ∙ ap (λ o. before (fields_with f (take i xs) types) (prepend_field x o rest)) p ∙ now

  pub joined-end : length xs ≡ length kids → (i : ℕ) (types : List ℕ) → length kids ≤ i → IsJoinedSoFar i types → Some (fields_with f xs types) ≡ joined_all (fields_of f xs kids) gs
  joined-end paired i types h so_far =
      ap Some (sym (append-nil (fields_with f xs types)) ∙ ap (λ ys. fields_with f ys types ++ []) (sym (take-whole xs i (omega (arith, paired)))))
      ∙ ap (λ ys. before (fields_with f (take i xs) types) (joined_all (fields_of f ys (drop i kids)) gs)) (sym (drop_all i xs (omega (arith, paired)))) ∙ so_far

-- what was found for one field
pub one-joined : (f : ℕ → Core) (own : ℕ) (x : Name) (gs : Fields Ref Name) (o p : Option ℕ) (q : Option ℕ) → o ≡ q → option_map f o ≡ joined_field (λ u. joined (f own) u) (f own) (option_map f p) → option_map f p ≡ field_at x gs
    → option_map f q ≡ joined_field (λ u. joined (f own) u) (f own) (field_at x gs)
one-joined f own x gs o p q e h k = ap (option_map f) (sym e) ∙ h ∙ ap (joined_field (λ u. joined (f own) u) (f own)) k
