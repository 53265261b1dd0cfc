-- A case that applies at a stage applies at each later one, before all others.
use Rattle.std.specs.Prelude.{◌≡◌, ◌⊎◌, ℕ, zero, suc, pred, Bool, true, false, List, [], ◌∷◌, Option, Some, None, refl}
use Rattle.std.proofs.Common.{ap, sym, ◌∙◌, inl, inr, subst as along}
use Rattle.dh_syntax.specs.declared.expressions.Op.{Op}
use Rattle.dh_syntax.specs.declared.expressions.Op.TheVariants as ops
use Rattle.dh_syntax.specs.declared.operators.BinOp.{BinOp}
use Rattle.dh_syntax.specs.declared.operators.BinOp.TheVariants as bins
use Rattle.dh_syntax.specs.declared.operators.Builtin.{Builtin}
use Rattle.dh_syntax.specs.declared.operators.Builtin.TheVariants as builtins
use Rattle.dh_syntax.specs.Expressions.Forms as form
use Rattle.dh_syntax.specs.Expressions.Forms.{TextParts}
use Rattle.dh_syntax.specs.Expressions.Labels.{is_empty}
use Rattle.dh_syntax.specs.Expressions.Numbers.{le}
use Rattle.dh_syntax.specs.Expressions.Tree.{Tree, Row, Leaf, Node}
use Rattle.dh_syntax.specs.Expressions.Views as views
use Rattle.dh_syntax.specs.Normalising.Contract.{contract_call, application, contract_operator, contract_node, contract_at}
use Rattle.dh_syntax.specs.Normalising.ContractTexts.{text_fits, spliced, splice_first, lone_interpolation, text_literal}
use Rattle.dh_syntax.specs.Normalising.Contraction.{Contraction, Nothing, Gives, TooWide, IfSame, Binders, ◌or◌, when, from, on, within}

-- the second answer is the first one, where that is an answer
abbrev pub Later : {T : Type 0} → Contraction T → Contraction T → Type 0
Later a b = (a ≡ Nothing) ⊎ (b ≡ a)

pub le-through : (k s t : ℕ) → le k s ≡ true → le s t ≡ true → le k t ≡ true
le-through zero s t p q = refl
le-through (suc k) zero t p q = absurd cc
le-through (suc k) (suc s) zero p q = absurd cc
le-through (suc k) (suc s) (suc t) p q = le-through k s t p q

le-before : (s t : ℕ) → le s t ≡ true → le (pred s) (pred t) ≡ true
le-before zero t h = refl
le-before (suc s) zero h = absurd cc
le-before (suc s) (suc t) h = h

module _ {T : Type 0} where
  stays : (c : Contraction T) → Later c c
  stays c = inr refl

  or-later : (c a b : Contraction T) → Later a b → Later (c or a) (c or b)
  or-later Nothing a b h = h
  or-later (Gives e) a b h = inr refl
  or-later TooWide a b h = inr refl
  or-later (IfSame l r e) a b h = inr refl

  when-later : (x : Bool) (a b : Contraction T) → Later a b → Later (when x a) (when x b)
  when-later true a b h = h
  when-later false a b h = inl refl

  on-later : {X : Type 0} (o : Option X) (k j : X → Contraction T) → ((x : X) → Later (k x) (j x)) → Later (on o k) (on o j)
  on-later (Some x) k j h = h x
  on-later None k j h = inl refl

  module _ (s t : ℕ) (later : le s t ≡ true) where
    from-later : (k : ℕ) (a b : Contraction T) → Later a b → Later (from k s a) (from k t b)
    from-later k a b h = by (le k s) refl
      where
        by : (x : Bool) → le k s ≡ x → Later (when x a) (from k t b)
        by false e = inl refl
        by true e = along (λ y. Later a (when y b)) (sym (le-through k s t e later)) h

    -- a row all of whose cases need one place
    one-later : (a : Contraction T) → Later (from 1 s a) (from 1 t a)
    one-later a = from-later 1 a a (stays a)

    -- a row with a case after its first place, and others after its second
    two-later : (a b : Contraction T) → Later (from 1 s (a or from 2 s b)) (from 1 t (a or from 2 t b))
    two-later a b = from-later 1 _ _ (or-later a _ _ (from-later 2 b b (stays b)))

    -- the same with two cases after its first place, and others from a stage on
    more-later : (n : ℕ) (a b c : Contraction T) → Later (from 1 s (a or b or from n s c)) (from 1 t (a or b or from n t c))
    more-later n a b c = from-later 1 _ _ (or-later a _ _ (or-later b _ _ (from-later n c c (stays c))))

module _ {A B : Type 0} where
  -- ---- texts

  -- the interpolation that is spliced in stays the first one
  splice-later : (s t : ℕ) (ps : List (List ℕ)) (es : List (Tree A B)) (z : TextParts A B) → le s t ≡ true → spliced s ps es ≡ Some z → spliced t ps es ≡ Some z
  splice-later zero t ps es z l h = absurd cc
  splice-later (suc s) zero ps es z l h = absurd cc
  splice-later (suc s) (suc t) [] es z l h = absurd cc
  splice-later (suc s) (suc t) (p ∷ ps) [] z l h = absurd cc
  splice-later (suc s) (suc t) (p ∷ ps) (e ∷ es) z l h = by (views.as_text e) (spliced s ps es) refl (λ y q. splice-later s t ps es y l q) h
    where
      by : (x o : Option (TextParts A B)) → spliced s ps es ≡ o → ((y : TextParts A B) → spliced s ps es ≡ Some y → spliced t ps es ≡ Some y)
          → splice_first p ps e es x o ≡ Some z → splice_first p ps e es x (spliced t ps es) ≡ Some z
      by (Some y) o q rest k = k
      by None (Some y) q rest k = along (λ o. splice_first p ps e es None o ≡ Some z) (sym (rest y q)) k
      by None None q rest k = absurd cc

  -- a lone interpolation is looked at at the first stage
  lone-spliced : (s t : ℕ) (ps : List (List ℕ)) (es : List (Tree A B)) (e : Tree A B) → lone_interpolation ps es ≡ Some e → spliced (suc s) ps es ≡ None → spliced (suc t) ps es ≡ None
  lone-spliced s t ([] ∷ [] ∷ []) (d ∷ []) e h n = by (views.as_text d) n
    where
      parts : List (Tree A B)
      parts = []

      none : (m : ℕ) → spliced m ([] ∷ []) parts ≡ None
      none zero = refl
      none (suc m) = refl

      by : (x : Option (TextParts A B)) → splice_first [] ([] ∷ []) d [] x (spliced s ([] ∷ []) []) ≡ None → splice_first [] ([] ∷ []) d [] x (spliced t ([] ∷ []) []) ≡ None
      by (Some y) k = absurd cc
      by None k = ap (λ o. splice_first [] ([] ∷ []) d [] None o) (none t)
  lone-spliced s t ps es e h n = absurd cc

  abbrev splices : Option (TextParts A B) → Contraction (Tree A B)
  splices o = on o (λ (qs, ds). within (text_fits qs) (form.text qs ds))

  text-later : (s t : ℕ) (ps : List (List ℕ)) (es : List (Tree A B)) → le s t ≡ true → Later (text_literal s ps es) (text_literal t ps es)
  text-later zero t ps es l = inl refl
  text-later (suc s) zero ps es l = absurd cc
  text-later (suc s) (suc t) ps es l = by (spliced (suc s) ps es) refl
    where
      fits : (z : TextParts A B) (c d : Contraction (Tree A B)) → splices (Some z) or c ≡ splices (Some z) or d
      fits z c d = each (text_fits z.0)
        where
          each : (b : Bool) → within b (form.text z.0 z.1) or c ≡ within b (form.text z.0 z.1) or d
          each true = refl
          each false = refl

      alone : (o : Option (Tree A B)) → lone_interpolation ps es ≡ o → spliced (suc s) ps es ≡ None → Later (on o (λ e. Gives e)) (splices (spliced (suc t) ps es) or on o (λ e. Gives e))
      alone None q n = inl refl
      alone (Some e) q n = inr (ap (λ o. splices o or Gives e) (lone-spliced s t ps es e q n))

      by : (o : Option (TextParts A B)) → spliced (suc s) ps es ≡ o → Later (splices o or from 1 (suc s) (on (lone_interpolation ps es) (λ e. Gives e))) (text_literal (suc t) ps es)
      by (Some z) q = inr (ap (λ o. splices o or on (lone_interpolation ps es) (λ e. Gives e)) (splice-later (suc s) (suc t) ps es z l q) ∙ fits z _ _)
      by None q = alone (lone_interpolation ps es) refl q

  -- ---- calls of built-ins

  module _ (binders : Binders A B) (s t : ℕ) (later : le s t ≡ true) where
    call-later : (b : Builtin) (args : List (Tree A B)) → Later (contract_call binders s b args) (contract_call binders t b args)
    call-later builtins.NaturalBuild (f ∷ []) = inr refl
    call-later builtins.ListBuild (ty ∷ f ∷ []) = inr refl
    call-later builtins.NaturalFold (n ∷ ty ∷ g ∷ b ∷ []) = one-later s t later _
    call-later builtins.NaturalIsZero (n ∷ []) = one-later s t later _
    call-later builtins.NaturalEven (n ∷ []) = one-later s t later _
    call-later builtins.NaturalOdd (n ∷ []) = one-later s t later _
    call-later builtins.NaturalToInteger (n ∷ []) = one-later s t later _
    call-later builtins.NaturalShow (n ∷ []) = one-later s t later _
    call-later builtins.NaturalSubtract (a ∷ b ∷ []) = two-later s t later _ _
    call-later builtins.IntegerShow (i ∷ []) = one-later s t later _
    call-later builtins.IntegerNegate (i ∷ []) = one-later s t later _
    call-later builtins.IntegerClamp (i ∷ []) = one-later s t later _
    call-later builtins.ListFold (ty ∷ xs ∷ r ∷ g ∷ b ∷ []) = one-later s t later _
    call-later builtins.ListLength (ty ∷ xs ∷ []) = one-later s t later _
    call-later builtins.ListHead (ty ∷ xs ∷ []) = one-later s t later _
    call-later builtins.ListLast (ty ∷ xs ∷ []) = one-later s t later _
    call-later builtins.ListIndexed (ty ∷ xs ∷ []) = one-later s t later _
    call-later builtins.ListReverse (ty ∷ xs ∷ []) = one-later s t later _
    call-later builtins.TextShow (x ∷ []) = one-later s t later _
    call-later builtins.TextReplace (n ∷ r ∷ h ∷ []) =
        from-later s t later 1 _ _ (on-later (views.as_plain_text n) _ _ (λ needle. or-later (when (is_empty needle) (Gives h)) _ _ (from-later s t later 2 _ _ (stays _))))
    call-later b args = inl refl

  -- ---- the table

  module _ (binders : Binders A B) (s t : ℕ) (later : le s t ≡ true) where
    application-later : (f a : Tree A B) → Later (application binders s f a) (application binders t f a)
    application-later f a =
        from-later s t later 1 _ _ (or-later (on (views.as_lambda f) (λ (x, b). Gives (binders.put x a b))) _ _
        (on-later (views.as_call (form.app f a)) _ _ (λ p. call-later binders (pred s) (pred t) (le-before s t later) p.0 p.1)))

    operator-later : (o : BinOp) (l r : Tree A B) → Later (contract_operator s o l r) (contract_operator t o l r)
    operator-later bins.Or l r = more-later s t later 2 _ _ _
    operator-later bins.And l r = more-later s t later 2 _ _ _
    operator-later bins.Equal l r = two-later s t later _ _
    operator-later bins.NotEqual l r = two-later s t later _ _
    operator-later bins.Plus l r = two-later s t later _ _
    operator-later bins.Times l r = more-later s t later 2 _ _ _
    operator-later bins.TextAppend l r = inr refl
    operator-later bins.ListAppend l r = two-later s t later _ _
    operator-later bins.Combine l r = two-later s t later _ _
    operator-later bins.Prefer l r = two-later s t later _ _
    operator-later bins.CombineTypes l r = two-later s t later _ _
    operator-later bins.Complete l r = inr refl
    operator-later bins.Fallback l r = inl refl
    operator-later bins.Equivalent l r = inl refl

    node-later : (op : Op) (r : Row A B) → Later (contract_node binders s op r) (contract_node binders t op r)
    node-later ops.App r = on-later (views.first_two r) _ _ (λ p. application-later p.0 p.1)
    node-later (ops.Let typed) r = inr refl
    node-later ops.Annot r = inr refl
    node-later ops.If r = on-later (views.first_three r) _ _ (λ p. more-later s t later 3 _ _ _)
    node-later (ops.Bin o) r = on-later (views.first_two r) _ _ (λ p. operator-later o p.0 p.1)
    node-later (ops.Text ps) r = on-later (views.bodies r) _ _ (λ es. text-later s t ps es later)
    node-later (ops.Merge typed) r = on-later (views.first_two r) _ _ (λ p. from-later s t later 2 _ _ (stays _))
    node-later (ops.ToMap false) r = on-later (views.first_part r) _ _ (λ e. one-later s t later _)
    node-later (ops.ToMap true) r = on-later (views.first_two r) _ _ (λ p. one-later s t later _)
    node-later (ops.Field x) r = on-later (views.first_part r) _ _ (λ e. one-later s t later _)
    node-later (ops.Project xs) r = on-later (views.first_part r) _ _ (λ e. or-later (when (is_empty xs) _) _ _ (one-later s t later _))
    node-later ops.ProjectType r = on-later (views.first_two r) _ _ (λ p. one-later s t later _)
    node-later (ops.With path) r = on-later (views.first_two r) _ _ (λ p. one-later s t later _)
    node-later op r = inl refl

    pub table-later : (e : Tree A B) → Later (contract_at binders s e) (contract_at binders t e)
    table-later (Leaf a) = inl refl
    table-later (Node op r) = node-later op r
