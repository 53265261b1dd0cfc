-- What a run of the fragment finds as a head gives nothing at its root, and stays when it is headed again.
use Rattle.std.specs.Prelude.{◌≡◌, ℕ, zero, suc, Bool, true, false, ◌&&◌, List, [], ◌∷◌, Option, Some, None, slice_get, refl}
use Rattle.std.proofs.Common.{ap, sym, ◌∙◌, subst as along}
use Rattle.dh_syntax.specs.declared.expressions.Op.{Op}
use Rattle.dh_syntax.specs.declared.expressions.Op.TheVariants as ops
use Rattle.dh_syntax.specs.declared.operators.Builtin.{Builtin}
use Rattle.dh_syntax.specs.declared.operators.Builtin.TheVariants as builtins
use Rattle.dh_syntax.specs.Expressions.Rows.{row_length}
use Rattle.dh_syntax.specs.Expressions.Tree.{Tree, Row, Leaf, Node, end, kid}
use Rattle.dh_syntax.specs.Expressions.Views.{as_call_before}
use Rattle.dh_syntax.specs.Normalising.Contract.{contract_node, contract_at}
use Rattle.dh_syntax.specs.Normalising.Contraction.{Nothing, Binders}
use Rattle.dh_syntax.specs.Normalising.Heads.{Lang, Extent, Head, Answer, Found, Wide, Deep, Over, and_then, contracted, answered, headed_at, stages}
use Rattle.dh_syntax.specs.Normalising.Needs.{part, call_needs, argument_needs, place, at, set, most_needs}
use Rattle.dh_syntax.specs.Normalising.Steps.{is_constant, op_in_fragment, in_fragment, row_in_fragment}
use Rattle.dh_syntax.specs.Normalising.Trees.{trees}
use Rattle.dh_confluence.specs.FragmentSteps.{reduct}
use Rattle.dh_confluence.proofs.Confluent.{both-true}
use Rattle.dh_confluence.proofs.FragmentTable.{answer_of, let-given, node-given}

-- whether a row of the fragment looks at its first part
abbrev pub heads_first : Op → Bool
heads_first ops.App = true
heads_first (ops.Field x) = true
heads_first op = false

and-true : (a b : Bool) → a ≡ true → b ≡ true → a && b ≡ true
and-true a b p q = cc

module _ {A B : Type 0} (binders : Binders A B) (same : Tree A B → Tree A B → Bool)
    (kept : (op : Op) (r : Row A B) (c : Tree A B) → row_in_fragment r ≡ true → reduct binders.put op r ≡ Some c → in_fragment c ≡ true) where
  abbrev T : Type 0
  T = Tree A B

  abbrev K : Lang T
  K = trees binders same (λ e. false)

  abbrev pub given : Op → Row A B → Option T
  given op r = reduct binders.put op r

  abbrev mutual
    -- the row gives nothing, nor do those of the parts that it looks at
    pub IsHead : Tree A B → Type 0
    IsHead (Leaf a) = Unit {0}
    IsHead (Node op r) = (given op r ≡ None) × IsHeadFirst (heads_first op) r

    pub IsHeadFirst : Bool → Row A B → Type 0
    IsHeadFirst true (kid None e r) = IsHead e
    IsHeadFirst b r = Unit {0}

  abbrev pub IsGood : Tree A B → Type 0
  IsGood e = (in_fragment e ≡ true) × IsHead e

  not-first : (r : Row A B) → IsHeadFirst false r
  not-first end = tt
  not-first (kid None e r) = tt
  not-first (kid (Some x) e r) = tt

  -- ---- places

  no-needs_of : (b : Builtin) (args : List T) → is_constant b ≡ true → call_needs b args ≡ []
  no-needs_of builtins.TypeConst args h = refl
  no-needs_of builtins.Kind args h = refl
  no-needs_of builtins.Sort args h = refl
  no-needs_of builtins.Bool args h = refl
  no-needs_of builtins.Natural args h = refl
  no-needs_of builtins.Integer args h = refl
  no-needs_of builtins.Text args h = refl
  no-needs_of builtins.List args h = refl
  no-needs_of builtins.Optional args h = refl
  no-needs_of builtins.None args h = refl
  no-needs_of b args h = absurd cc

  no-needs : (args : List T) (f : T) → in_fragment f ≡ true → argument_needs (as_call_before args f) ≡ []
  no-needs args (Node (ops.Builtin b) r) h = no-needs_of b args (both-true (is_constant b) (row_in_fragment r) h).0
  no-needs args (Node ops.App (kid None f (kid None a r))) h = no-needs (a ∷ args) f (both-true (in_fragment f) (in_fragment a && row_in_fragment r) h).0
  no-needs args (Node op r) h = refl
  no-needs args (Leaf a) h = refl

  -- after the first part no place is headed
  second-place : (op : Op) (r : Row A B) → heads_first op ≡ true → row_in_fragment r ≡ true → place 1 (Node op r) ≡ None
  second-place ops.App (kid None f (kid None a r)) o h = ap (λ ps. slice_get (part 0 ∷ ps) 1) (no-needs (a ∷ []) f (both-true (in_fragment f) (in_fragment a && row_in_fragment r) h).0)
  second-place ops.App r o h = refl
  second-place (ops.Field x) r o h = refl
  second-place op r o h = absurd cc

  no-place : (op : Op) (r : Row A B) → heads_first op ≡ false → op_in_fragment op ≡ true → place 0 (Node op r) ≡ None
  no-place ops.App r o h = absurd cc
  no-place (ops.Field x) r o h = absurd cc
  no-place ops.If r o h = absurd cc
  no-place (ops.Bin b) r o h = absurd cc
  no-place (ops.Text ps) r o h = absurd cc
  no-place (ops.Merge typed) r o h = absurd cc
  no-place (ops.ToMap typed) r o h = absurd cc
  no-place (ops.Project xs) r o h = absurd cc
  no-place ops.ProjectType r o h = absurd cc
  no-place (ops.With path) r o h = absurd cc
  no-place op r o h = refl

  -- ---- the table at once, and before the first part is headed

  at-once : (op : Op) (r : Row A B) → heads_first op ≡ false → op_in_fragment op ≡ true → contract_node binders 0 op r ≡ answer_of binders (given op r)
  at-once ops.App r o h = absurd cc
  at-once (ops.Field x) r o h = absurd cc
  at-once (ops.Let typed) r o h = let-given binders 0 typed r
  at-once ops.Annot (kid None e r) o h = refl
  at-once ops.Annot r o h = refl
  at-once ops.If r o h = absurd cc
  at-once (ops.Bin b) r o h = absurd cc
  at-once (ops.Text ps) r o h = absurd cc
  at-once (ops.Merge typed) r o h = absurd cc
  at-once (ops.ToMap typed) r o h = absurd cc
  at-once (ops.Project xs) r o h = absurd cc
  at-once ops.ProjectType r o h = absurd cc
  at-once (ops.With path) r o h = absurd cc
  at-once op r o h = refl

  not-yet : (op : Op) (r : Row A B) → heads_first op ≡ true → contract_node binders 0 op r ≡ Nothing
  not-yet ops.App (kid None f (kid None a r)) o = refl
  not-yet ops.App r o = refl
  not-yet (ops.Field x) (kid None e r) o = refl
  not-yet (ops.Field x) r o = refl
  not-yet op r o = absurd cc

  first-place : (op : Op) (r : Row A B) → heads_first op ≡ true → place 0 (Node op r) ≡ Some (part 0)
  first-place ops.App r o = refl
  first-place (ops.Field x) r o = refl
  first-place op r o = absurd cc

  -- ---- stages

  found-is : (e f : T) (m n : ℕ) → Found e m ≡ Found f n → e ≡ f
  found-is e f m n h = cc

  module _ (below : Extent → ℕ → T → Answer T) (again : ℕ → T → Answer T) where
    module _ {P : Type 0} (f : T) (left : ℕ) where
      after-contraction : (u : ℕ) (d : T) → contracted K again u d ≡ Found f left → ((v : ℕ) → again v d ≡ Found f left → P) → P
      after-contraction zero d h k = absurd cc
      after-contraction (suc u) d h k = k u h

      after-answer : (u : ℕ) (none : ℕ → Answer T) (o : Option T) → answered K below again u (answer_of binders o) none ≡ Found f left
          → ((d : T) (v : ℕ) → o ≡ Some d → again v d ≡ Found f left → P) → (o ≡ None → none u ≡ Found f left → P) → P
      after-answer u none None h k l = l refl h
      after-answer u none (Some d) h k l = after-contraction u d h (λ v q. k d v refl q)

      -- a stage at which no place follows
      last-answer : (most stage u : ℕ) (e : T) (o : Option T) → place stage e ≡ None → contract_at binders stage e ≡ answer_of binders o
          → stages K below again (suc most) stage u e ≡ Found f left
          → ((d : T) (v : ℕ) → o ≡ Some d → again v d ≡ Found f left → P) → (o ≡ None → e ≡ f → P) → P
      last-answer most stage u e o p q h k l =
          let next : T → ℕ → Answer T = λ d n. stages K below again most (suc stage) n d in
          after-answer u (λ n. Found e n) o
          (sym (ap (λ c. answered K below again u c (λ n. Found e n)) q)
          ∙ sym (ap (λ w. answered K below again u (contract_at binders stage e) (λ n. headed_at K below w n e next)) p) ∙ h)
          k (λ z v. l z (found-is e f u left v))

      -- the first part is headed
      first-answer : (most u : ℕ) (op : Op) (r : Row A B) → heads_first op ≡ true → stages K below again (suc most) 0 u (Node op r) ≡ Found f left
          → ((d : T) (v : ℕ) → below Head u (at (part 0) (Node op r)) ≡ Found d v → stages K below again most 1 v (set (part 0) d (Node op r)) ≡ Found f left → P) → P
      first-answer most u op r o h k =
          let e : T = Node op r in
          let next : T → ℕ → Answer T = λ d n. stages K below again most 1 n d in
          by (below Head u (at (part 0) e)) refl
          (sym (ap (λ w. headed_at K below w u e next) (first-place op r o))
          ∙ sym (ap (λ c. answered K below again u c (λ n. headed_at K below (place 0 e) n e next)) (not-yet op r o)) ∙ h)
        where
          by : (a : Answer T) → below Head u (at (part 0) (Node op r)) ≡ a
              → and_then a (λ d n. stages K below again most 1 n (set (part 0) d (Node op r))) ≡ Found f left → P
          by (Found d v) q w = k d v q w
          by (Wide n) q w = absurd cc
          by (Deep n) q w = absurd cc
          by Over q w = absurd cc

    -- ---- what the stages find

    module _ (goes : (u : ℕ) (d g : T) (l : ℕ) → in_fragment d ≡ true → below Head u d ≡ Found g l → IsGood g)
        (heads : (u : ℕ) (d g : T) (l : ℕ) → in_fragment d ≡ true → again u d ≡ Found g l → IsGood g) where
      good-is : (e f : T) → e ≡ f → IsGood e → IsGood f
      good-is e f p h = along (λ z. IsGood z) p h

      given-good : (op : Op) (r : Row A B) (d : T) → row_in_fragment r ≡ true → given op r ≡ Some d → in_fragment d ≡ true
      given-good op r d h p = kept op r d h p

      -- the stage after the first part is headed
      second-good : (m u : ℕ) (op : Op) (r : Row A B) (f : T) (l : ℕ) → heads_first op ≡ true → op_in_fragment op ≡ true → row_in_fragment r ≡ true → IsHeadFirst true r
          → stages K below again (suc m) 1 u (Node op r) ≡ Found f l → IsGood f
      second-good m u op r f l o i j k h =
          last-answer f l m 1 u (Node op r) (given op r) (second-place op r o j) (node-given binders 0 op r i j) h
          (λ d v p q. heads v d f l (given-good op r d j p) q)
          (λ p q. good-is (Node op r) f q (and-true _ _ i j, (p, along (λ b. IsHeadFirst b r) (sym o) k)))

      first-good : (m u : ℕ) (op : Op) (r : Row A B) (f : T) (l : ℕ) → heads_first op ≡ true → op_in_fragment op ≡ true → row_in_fragment r ≡ true
          → stages K below again (suc (suc m)) 0 u (Node op r) ≡ Found f l → IsGood f
      first-good m u op (kid None e r) f l o i j h =
          let (x, y) = both-true (in_fragment e) (row_in_fragment r) j in
          first-answer f l (suc m) u op (kid None e r) o h
          (λ d v p q. let (a, b) = goes u e d v x p in second-good m v op (kid None d r) f l o i (and-true _ _ a y) b q)
      first-good m u op end f l o i j h = first-answer f l (suc m) u op end o h (λ d v p q. second-good m v op end f l o i j tt q)
      first-good m u op (kid (Some x) e r) f l o i j h =
          first-answer f l (suc m) u op (kid (Some x) e r) o h (λ d v p q. second-good m v op (kid (Some x) e r) f l o i j tt q)

      at-once-good : (m u : ℕ) (op : Op) (r : Row A B) (f : T) (l : ℕ) → heads_first op ≡ false → op_in_fragment op ≡ true → row_in_fragment r ≡ true
          → stages K below again (suc m) 0 u (Node op r) ≡ Found f l → IsGood f
      at-once-good m u op r f l o i j h =
          last-answer f l m 0 u (Node op r) (given op r) (no-place op r o i) (at-once op r o i) h
          (λ d v p q. heads v d f l (given-good op r d j p) q)
          (λ p q. good-is (Node op r) f q (and-true _ _ i j, (p, along (λ b. IsHeadFirst b r) (sym o) (not-first r))))

      node-good : (b : Bool) (m u : ℕ) (op : Op) (r : Row A B) (f : T) (l : ℕ) → heads_first op ≡ b → op_in_fragment op ≡ true → row_in_fragment r ≡ true
          → stages K below again (suc (suc m)) 0 u (Node op r) ≡ Found f l → IsGood f
      node-good true m u op r f l o i j h = first-good m u op r f l o i j h
      node-good false m u op r f l o i j h = at-once-good (suc m) u op r f l o i j h

      pub stages-good : (u : ℕ) (e f : T) (l : ℕ) → in_fragment e ≡ true → stages K below again (most_needs e) 0 u e ≡ Found f l → IsGood f
      stages-good u (Leaf a) f l h p = good-is (Leaf a) f (found-is (Leaf a) f u l p) (refl, tt)
      stages-good u (Node op r) f l h p =
          let (i, j) = both-true (op_in_fragment op) (row_in_fragment r) h in
          node-good (heads_first op) (suc (row_length r)) u op r f l refl i j p

    -- ---- what is a head stays

    module _ (stays : (u : ℕ) (d g : T) (l : ℕ) → IsGood d → below Head u d ≡ Found g l → g ≡ d) where
      second-stays : (m u : ℕ) (op : Op) (r : Row A B) (f : T) (l : ℕ) → heads_first op ≡ true → op_in_fragment op ≡ true → row_in_fragment r ≡ true → given op r ≡ None
          → stages K below again (suc m) 1 u (Node op r) ≡ Found f l → f ≡ Node op r
      second-stays m u op r f l o i j k h =
          last-answer f l m 1 u (Node op r) (given op r) (second-place op r o j) (node-given binders 0 op r i j) h
          (λ d v p q. absurd (let z = sym k ∙ p in cc)) (λ p q. sym q)

      first-stays : (m u : ℕ) (op : Op) (r : Row A B) (f : T) (l : ℕ) → heads_first op ≡ true → op_in_fragment op ≡ true → row_in_fragment r ≡ true → given op r ≡ None → IsHeadFirst true r
          → stages K below again (suc (suc m)) 0 u (Node op r) ≡ Found f l → f ≡ Node op r
      first-stays m u op (kid None e r) f l o i j k g h =
          let (x, y) = both-true (in_fragment e) (row_in_fragment r) j in
          first-answer f l (suc m) u op (kid None e r) o h
          (λ d v p q. second-stays m v op (kid None e r) f l o i j k
          (along (λ z. stages K below again (suc m) 1 v (Node op (kid None z r)) ≡ Found f l) (stays u e d v (x, g) p) q))
      first-stays m u op end f l o i j k g h = first-answer f l (suc m) u op end o h (λ d v p q. second-stays m v op end f l o i j k q)
      first-stays m u op (kid (Some x) e r) f l o i j k g h =
          first-answer f l (suc m) u op (kid (Some x) e r) o h (λ d v p q. second-stays m v op (kid (Some x) e r) f l o i j k q)

      at-once-stays : (m u : ℕ) (op : Op) (r : Row A B) (f : T) (l : ℕ) → heads_first op ≡ false → op_in_fragment op ≡ true → given op r ≡ None
          → stages K below again (suc m) 0 u (Node op r) ≡ Found f l → f ≡ Node op r
      at-once-stays m u op r f l o i k h =
          last-answer f l m 0 u (Node op r) (given op r) (no-place op r o i) (at-once op r o i) h
          (λ d v p q. absurd (let z = sym k ∙ p in cc)) (λ p q. sym q)

      node-stays : (b : Bool) (m u : ℕ) (op : Op) (r : Row A B) (f : T) (l : ℕ) → heads_first op ≡ b → op_in_fragment op ≡ true → row_in_fragment r ≡ true → given op r ≡ None
          → IsHeadFirst b r → stages K below again (suc (suc m)) 0 u (Node op r) ≡ Found f l → f ≡ Node op r
      node-stays true m u op r f l o i j k g h = first-stays m u op r f l o i j k g h
      node-stays false m u op r f l o i j k g h = at-once-stays (suc m) u op r f l o i k h

      pub stages-stay : (u : ℕ) (e f : T) (l : ℕ) → IsGood e → stages K below again (most_needs e) 0 u e ≡ Found f l → f ≡ e
      stages-stay u (Leaf a) f l h p = sym (found-is (Leaf a) f u l p)
      stages-stay u (Node op r) f l (h, (k, g)) p =
          let (i, j) = both-true (op_in_fragment op) (row_in_fragment r) h in
          node-stays (heads_first op) (suc (row_length r)) u op r f l refl i j k g p
