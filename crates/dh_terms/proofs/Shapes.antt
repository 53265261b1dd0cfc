-- Which parts a node has rests on which of them are under a binder, and moves and substitution keep that.
use Rattle.std.specs.Prelude.{◌≡◌, ℕ, zero, suc, Bool, true, false, cond, ◌&&◌, List, [], ◌∷◌, length, Option, Some, None, refl}
use Rattle.std.proofs.Common.{sym, ◌∙◌, ap}
use Rattle.dh_syntax.specs.declared.expressions.Op.{Op}
use Rattle.dh_syntax.specs.declared.expressions.Op.TheVariants as ops
use Rattle.dh_syntax.specs.Expressions.Arity.{plain, binding, some_plain, between, alt_labels, typed_count, loc_fits, has_some, fits, IsWellFormed, AreWellFormed}
use Rattle.dh_syntax.specs.Names.Moves.{Move, moved, moved_row, entered}
use Rattle.dh_syntax.specs.Expressions.Order.{ascending}
use Rattle.dh_syntax.specs.Names.Subst.{is_var, index_under, put_under, shifting, subst, subst_row}
use Rattle.dh_syntax.specs.Expressions.Tree.{Tree, Row, Leaf, Node, end, kid, Name, Var, Term}

-- which of the parts are under a binder
abbrev pub shape : {A B : Type 0} → Row A B → List Bool
shape end = []
shape (kid None e r) = false ∷ shape r
shape (kid (Some x) e r) = true ∷ shape r

abbrev plain_of : ℕ → List Bool → Bool
plain_of zero [] = true
plain_of (suc n) (false ∷ bs) = plain_of n bs
plain_of _ _ = false

abbrev binding_of : ℕ → List Bool → Bool
binding_of zero (true ∷ []) = true
binding_of (suc n) (false ∷ bs) = binding_of n bs
binding_of _ _ = false

abbrev some_of : List Bool → Bool
some_of (false ∷ []) = true
some_of (false ∷ bs) = some_of bs
some_of _ = false

plain-shape : {A B : Type 0} (n : ℕ) (r : Row A B) → plain n r ≡ plain_of n (shape r)
plain-shape zero end = refl
plain-shape zero (kid None e r) = refl
plain-shape zero (kid (Some x) e r) = refl
plain-shape (suc n) end = refl
plain-shape (suc n) (kid None e r) = plain-shape n r
plain-shape (suc n) (kid (Some x) e r) = refl

binding-shape : {A B : Type 0} (n : ℕ) (r : Row A B) → binding n r ≡ binding_of n (shape r)
binding-shape zero end = refl
binding-shape zero (kid None e end) = refl
binding-shape zero (kid None e (kid b d r)) = refl
binding-shape zero (kid (Some x) e end) = refl
binding-shape zero (kid (Some x) e (kid None d r)) = refl
binding-shape zero (kid (Some x) e (kid (Some y) d r)) = refl
binding-shape (suc n) end = refl
binding-shape (suc n) (kid None e r) = binding-shape n r
binding-shape (suc n) (kid (Some x) e r) = refl

some_plain-shape : {A B : Type 0} (r : Row A B) → some_plain r ≡ some_of (shape r)
some_plain-shape end = refl
some_plain-shape (kid None e end) = refl
some_plain-shape (kid None e (kid None d r)) = some_plain-shape (kid None d r)
some_plain-shape (kid None e (kid (Some x) d r)) = refl
some_plain-shape (kid (Some x) e r) = refl

module _ {A B C D : Type 0} where
  plain-same : (n : ℕ) (r : Row A B) (s : Row C D) → shape r ≡ shape s → plain n r ≡ plain n s
  plain-same n r s h = plain-shape n r ∙ ap (plain_of n) h ∙ sym (plain-shape n s)

  binding-same : (n : ℕ) (r : Row A B) (s : Row C D) → shape r ≡ shape s → binding n r ≡ binding n s
  binding-same n r s h = binding-shape n r ∙ ap (binding_of n) h ∙ sym (binding-shape n s)

  some_plain-same : (r : Row A B) (s : Row C D) → shape r ≡ shape s → some_plain r ≡ some_plain s
  some_plain-same r s h = some_plain-shape r ∙ ap some_of h ∙ sym (some_plain-shape s)

  between-same : (ps : List (List ℕ)) (r : Row A B) (s : Row C D) → shape r ≡ shape s → between ps r ≡ between ps s
  between-same [] r s h = refl
  between-same (p ∷ ps) r s h = plain-same (length ps) r s h

  pub fits-same : (op : Op) (r : Row A B) (s : Row C D) → shape r ≡ shape s → fits op r ≡ fits op s
  fits-same (ops.Builtin b) r s h = plain-same 0 r s h
  fits-same (ops.Bool b) r s h = plain-same 0 r s h
  fits-same (ops.Nat n) r s h = plain-same 0 r s h
  fits-same (ops.Int z) r s h = plain-same 0 r s h
  fits-same (ops.Text ps) r s h = between-same ps r s h
  fits-same (ops.Import i) r s h = ap (λ b. loc_fits i.loc && b) (plain-same 0 r s h)
  fits-same ops.Lam r s h = binding-same 1 r s h
  fits-same ops.Pi r s h = binding-same 1 r s h
  fits-same (ops.Let false) r s h = binding-same 1 r s h
  fits-same (ops.Let true) r s h = binding-same 2 r s h
  fits-same ops.App r s h = plain-same 2 r s h
  fits-same ops.If r s h = plain-same 3 r s h
  fits-same (ops.Bin o) r s h = plain-same 2 r s h
  fits-same ops.EmptyList r s h = plain-same 1 r s h
  fits-same ops.List r s h = some_plain-same r s h
  fits-same ops.Some r s h = plain-same 1 r s h
  fits-same (ops.Merge false) r s h = plain-same 2 r s h
  fits-same (ops.Merge true) r s h = plain-same 3 r s h
  fits-same (ops.RecordType xs) r s h = ap (λ b. ascending xs && b) (plain-same (length xs) r s h)
  fits-same (ops.Record xs) r s h = ap (λ b. ascending xs && b) (plain-same (length xs) r s h)
  fits-same (ops.Field x) r s h = plain-same 1 r s h
  fits-same (ops.Project xs) r s h = ap (λ b. ascending xs && b) (plain-same 1 r s h)
  fits-same ops.ProjectType r s h = plain-same 2 r s h
  fits-same (ops.Union alts) r s h = ap (λ b. ascending (alt_labels alts) && b) (plain-same (typed_count alts) r s h)
  fits-same ops.Assert r s h = plain-same 1 r s h
  fits-same ops.Annot r s h = plain-same 2 r s h
  fits-same (ops.ToMap false) r s h = plain-same 1 r s h
  fits-same (ops.ToMap true) r s h = plain-same 2 r s h
  fits-same (ops.With path) r s h = ap (λ b. has_some path && b) (plain-same 2 r s h)

shape-moved : {S A B C D : Type 0} (m : Move S A B C D) (s : S) (r : Row A B) → shape (moved_row m s r) ≡ shape r
shape-moved m s end = refl
shape-moved m s (kid None e r) = ap (λ bs. false ∷ bs) (shape-moved m s r)
shape-moved m s (kid (Some x) e r) = ap (λ bs. true ∷ bs) (shape-moved m s r)

mutual
  pub well_formed-moved : {S A B C D : Type 0} (m : Move S A B C D) (s : S) (e : Tree A B) → IsWellFormed e → IsWellFormed (moved m s e)
  well_formed-moved m s (Leaf a) h = tt
  well_formed-moved m s (Node op r) h = (fits-same op (moved_row m s r) r (shape-moved m s r) ∙ h.0, well_formed_row-moved m s r h.1)

  well_formed_row-moved : {S A B C D : Type 0} (m : Move S A B C D) (s : S) (r : Row A B) → AreWellFormed r → AreWellFormed (moved_row m s r)
  well_formed_row-moved m s end h = tt
  well_formed_row-moved m s (kid b e r) h = (well_formed-moved m (entered m s b) e h.0, well_formed_row-moved m s r h.1)

mutual
  pub well_formed-of_moved : {S A B C D : Type 0} (m : Move S A B C D) (s : S) (e : Tree A B) → IsWellFormed (moved m s e) → IsWellFormed e
  well_formed-of_moved m s (Leaf a) h = tt
  well_formed-of_moved m s (Node op r) h = (fits-same op r (moved_row m s r) (sym (shape-moved m s r)) ∙ h.0, well_formed_row-of_moved m s r h.1)

  well_formed_row-of_moved : {S A B C D : Type 0} (m : Move S A B C D) (s : S) (r : Row A B) → AreWellFormed (moved_row m s r) → AreWellFormed r
  well_formed_row-of_moved m s end h = tt
  well_formed_row-of_moved m s (kid b e r) h = (well_formed-of_moved m (entered m s b) e h.0, well_formed_row-of_moved m s r h.1)

shape-subst : (x : Name) (n : ℕ) (a : Term) (r : Row Var Name) → shape (subst_row x n a r) ≡ shape r
shape-subst x n a end = refl
shape-subst x n a (kid None e r) = ap (λ bs. false ∷ bs) (shape-subst x n a r)
shape-subst x n a (kid (Some y) e r) = ap (λ bs. true ∷ bs) (shape-subst x n a r)

well_formed-put_under : (b : Option Name) (a : Term) → IsWellFormed a → IsWellFormed (put_under b a)
well_formed-put_under None a h = h
well_formed-put_under (Some y) a h = well_formed-moved (shifting (λ k. suc k) y) 0 a h

mutual
  pub well_formed-subst : (x : Name) (n : ℕ) (a e : Term) → IsWellFormed a → IsWellFormed e → IsWellFormed (subst x n a e)
  well_formed-subst x n a (Leaf v) k h = at (is_var x n v)
    where
      at : (b : Bool) → IsWellFormed (cond b a (Leaf v))
      at true = k
      at false = tt
  well_formed-subst x n a (Node op r) k h = (fits-same op (subst_row x n a r) r (shape-subst x n a r) ∙ h.0, well_formed-subst_row x n a r k h.1)

  well_formed-subst_row : (x : Name) (n : ℕ) (a : Term) (r : Row Var Name) → IsWellFormed a → AreWellFormed r → AreWellFormed (subst_row x n a r)
  well_formed-subst_row x n a end k h = tt
  well_formed-subst_row x n a (kid b e r) k h =
      (well_formed-subst x (index_under x n b) (put_under b a) e (well_formed-put_under b a k) h.0, well_formed-subst_row x n a r k h.1)
