-- Where a row compares two parts, all of its places are headed.
use Rattle.std.specs.Prelude.{◌≡◌, ℕ, zero, suc, Bool, true, false, List, [], ◌∷◌, Option, Some, None, slice_get, codes, refl}
use Rattle.std.proofs.Common.{ap, sym, ◌∙◌}
use Rattle.dh_syntax.specs.declared.expressions.Op.{Op}
use Rattle.dh_syntax.specs.declared.expressions.Op.TheVariants as ops
use Rattle.dh_syntax.specs.declared.operators.BinOp.{BinOp}
use Rattle.dh_syntax.specs.declared.operators.BinOp.TheVariants as bins
use Rattle.dh_syntax.specs.declared.operators.Builtin.{Builtin}
use Rattle.dh_syntax.specs.declared.operators.Builtin.TheVariants as builtins
use Rattle.dh_syntax.specs.Normalising.BuiltinNumbers.{natural_subtract}
use Rattle.dh_syntax.specs.Normalising.BuiltinTexts.{pieces_between, separated_by, text_replace}
use Rattle.dh_syntax.specs.Normalising.Contract.{contract_call, application, let_in, contract_operator, contract_node, contract_at}
use Rattle.dh_syntax.specs.Normalising.ContractLogic.{if_then_else, disjunction, conjunction, equality, inequality}
use Rattle.dh_syntax.specs.Normalising.ContractRecords.{prefer, select_beside, select_preferred, select_combined, select, project, update_record, with_path}
use Rattle.dh_syntax.specs.Normalising.ContractTexts.{text_fits, spliced, lone_interpolation, text_literal}
use Rattle.dh_syntax.specs.Normalising.ContractUnions.{handled, handler, merge_with, merge, to_map_of, to_map}
use Rattle.dh_syntax.specs.Normalising.Contraction.{Contraction, Nothing, Gives, TooWide, IfSame, Binders, ◌or◌, when, from, on, within}
use Rattle.dh_syntax.specs.Expressions.Forms as form
use Rattle.dh_syntax.specs.Expressions.Forms.{Fields}
use Rattle.dh_syntax.specs.Normalising.Needs.{operator_needs, call_needs, argument_needs, place}
use Rattle.dh_syntax.specs.Expressions.Numbers.{le}
use Rattle.dh_syntax.specs.Expressions.Labels.{is_empty, is_empty_alternative, has_others, field_at, fields_at}
use Rattle.dh_syntax.specs.Expressions.Tree.{Tree, Row, Leaf, Node, end, kid, Name}
use Rattle.dh_syntax.specs.Expressions.Views as views

abbrev compared : {T : Type 0} → Contraction T → Bool
compared (IfSame l r e) = true
compared c = false

-- two parts are compared only from this stage on
abbrev Late : {T : Type 0} → ℕ → ℕ → Contraction T → Type 0
Late n stage c = compared c ≡ true → le n stage ≡ true

-- no parts are compared
record Never {T : Type 0} (c : Contraction T) : Type 0 where
  is : compared c ≡ false

module _ {T : Type 0} where
  nothing : Never {T = T} Nothing
  nothing = record { is = refl }

  give : (e : T) → Never (Gives e)
  give e = record { is = refl }

  or-no : (c d : Contraction T) → Never c → Never d → Never (c or d)
  or-no Nothing d p q = q
  or-no (Gives e) d p q = give e
  or-no TooWide d p q = record { is = refl }
  or-no (IfSame l r e) d p q = absurd (let h = p.is in cc)

  when-no : (b : Bool) (c : Contraction T) → Never c → Never (when b c)
  when-no true c p = p
  when-no false c p = nothing

  on-no : {X : Type 0} (o : Option X) (k : X → Contraction T) → ((x : X) → Never (k x)) → Never (on o k)
  on-no (Some x) k p = p x
  on-no None k p = nothing

  within-no : (b : Bool) (e : T) → Never (within b e)
  within-no true e = give e
  within-no false e = record { is = refl }

never-true : {T P : Type 0} (c : Contraction T) → Never c → compared c ≡ true → P
never-true c p h = absurd (let q = sym p.is ∙ h in cc)

module _ {T : Type 0} (n stage : ℕ) where
  no : (c : Contraction T) → Never c → Late n stage c
  no c p q = absurd (let r = sym p.is ∙ q in cc)

  or-late : (c d : Contraction T) → Late n stage c → Late n stage d → Late n stage (c or d)
  or-late Nothing d p q = q
  or-late (Gives e) d p q = p
  or-late TooWide d p q = p
  or-late (IfSame l r e) d p q = p

  when-late : (b : Bool) (c : Contraction T) → Late n stage c → Late n stage (when b c)
  when-late true c p = p
  when-late false c p = no Nothing nothing

  -- so many places are headed there
  from-late : (c : Contraction T) → Late n stage (from n stage c)
  from-late c = by (le n stage) refl
    where
      by : (b : Bool) → le n stage ≡ b → compared (when b c) ≡ true → b ≡ true
      by true p q = refl
      by false p q = q

  on-late : {X : Type 0} (o : Option X) (k : X → Contraction T) → ((x : X) → Late n stage (k x)) → Late n stage (on o k)
  on-late (Some x) k p = p x
  on-late None k p = no Nothing nothing

operator-full : (o : BinOp) (k : ℕ) → le 2 k ≡ true → slice_get (operator_needs o) k ≡ None
operator-full o zero h = absurd cc
operator-full o (suc zero) h = absurd cc
operator-full bins.TextAppend (suc (suc k)) h = refl
operator-full bins.Fallback (suc (suc k)) h = refl
operator-full bins.Equivalent (suc (suc k)) h = refl
operator-full bins.Complete (suc (suc k)) h = refl
operator-full o (suc (suc k)) h = refl

module _ {A B : Type 0} where
  -- ---- the rows that compare two parts

  if-late : (stage : ℕ) (p t e : Tree A B) → Late 3 stage (if_then_else stage p t e)
  if-late stage p t e =
      when-late 3 stage (le 1 stage) _ (or-late 3 stage (when (views.is_true p) _) _ (no 3 stage _ (when-no (views.is_true p) _ (give _)))
      (or-late 3 stage (when (views.is_false p) _) _ (no 3 stage _ (when-no (views.is_false p) _ (give _))) (from-late 3 stage _)))

  disjunction-late : (stage : ℕ) (l r : Tree A B) → Late 2 stage (disjunction stage l r)
  disjunction-late stage l r =
      when-late 2 stage (le 1 stage) _ (or-late 2 stage (when (views.is_true l) _) _ (no 2 stage _ (when-no (views.is_true l) _ (give _)))
      (or-late 2 stage (when (views.is_false l) _) _ (no 2 stage _ (when-no (views.is_false l) _ (give _))) (from-late 2 stage _)))

  conjunction-late : (stage : ℕ) (l r : Tree A B) → Late 2 stage (conjunction stage l r)
  conjunction-late stage l r =
      when-late 2 stage (le 1 stage) _ (or-late 2 stage (when (views.is_false l) _) _ (no 2 stage _ (when-no (views.is_false l) _ (give _)))
      (or-late 2 stage (when (views.is_true l) _) _ (no 2 stage _ (when-no (views.is_true l) _ (give _))) (from-late 2 stage _)))

  equality-late : (stage : ℕ) (l r : Tree A B) → Late 2 stage (equality stage l r)
  equality-late stage l r =
      when-late 2 stage (le 1 stage) _ (or-late 2 stage (when (views.is_true l) _) _ (no 2 stage _ (when-no (views.is_true l) _ (give _))) (from-late 2 stage _))

  inequality-late : (stage : ℕ) (l r : Tree A B) → Late 2 stage (inequality stage l r)
  inequality-late stage l r =
      when-late 2 stage (le 1 stage) _ (or-late 2 stage (when (views.is_false l) _) _ (no 2 stage _ (when-no (views.is_false l) _ (give _))) (from-late 2 stage _))

  prefer-late : (stage : ℕ) (l r : Tree A B) → Late 2 stage (prefer stage l r)
  prefer-late stage l r =
      when-late 2 stage (le 1 stage) _ (or-late 2 stage (when (views.is_empty_record l) _) _ (no 2 stage _ (when-no (views.is_empty_record l) _ (give _))) (from-late 2 stage _))

  subtract-late : (stage : ℕ) (a b : Tree A B) → Late 2 stage (natural_subtract stage a b)
  subtract-late stage a b =
      when-late 2 stage (le 1 stage) _ (or-late 2 stage (when (views.is_literal 0 a) _) _ (no 2 stage _ (when-no (views.is_literal 0 a) _ (give _))) (from-late 2 stage _))

  -- ---- those that do not

  operator-late : (stage : ℕ) (o : BinOp) (l r : Tree A B) → Late 2 stage (contract_operator stage o l r)
  operator-late stage bins.Or l r = disjunction-late stage l r
  operator-late stage bins.And l r = conjunction-late stage l r
  operator-late stage bins.Equal l r = equality-late stage l r
  operator-late stage bins.NotEqual l r = inequality-late stage l r
  operator-late stage bins.Prefer l r = prefer-late stage l r
  operator-late stage bins.Plus l r =
      when-late 2 stage (le 1 stage) _ (or-late 2 stage (when (views.is_literal 0 l) _) _ (no 2 stage _ (when-no (views.is_literal 0 l) _ (give _))) (from-late 2 stage _))
  operator-late stage bins.Times l r =
      when-late 2 stage (le 1 stage) _ (or-late 2 stage (when (views.is_literal 0 l) _) _ (no 2 stage _ (when-no (views.is_literal 0 l) _ (give _)))
      (or-late 2 stage (when (views.is_literal 1 l) _) _ (no 2 stage _ (when-no (views.is_literal 1 l) _ (give _))) (from-late 2 stage _)))
  operator-late stage bins.ListAppend l r =
      when-late 2 stage (le 1 stage) _ (or-late 2 stage (when (views.is_empty_list l) _) _ (no 2 stage _ (when-no (views.is_empty_list l) _ (give _))) (from-late 2 stage _))
  operator-late stage bins.Combine l r =
      when-late 2 stage (le 1 stage) _ (or-late 2 stage (when (views.is_empty_record l) _) _ (no 2 stage _ (when-no (views.is_empty_record l) _ (give _))) (from-late 2 stage _))
  operator-late stage bins.CombineTypes l r =
      when-late 2 stage (le 1 stage) _ (or-late 2 stage (when (views.is_empty_record_type l) _) _ (no 2 stage _ (when-no (views.is_empty_record_type l) _ (give _))) (from-late 2 stage _))
  operator-late stage bins.TextAppend l r = λ h. absurd cc
  operator-late stage bins.Complete l r = λ h. absurd cc
  operator-late stage bins.Fallback l r = λ h. absurd cc
  operator-late stage bins.Equivalent l r = λ h. absurd cc

  -- one place, and a case that depends on what is seen there
  seen-no : {X : Type 0} (stage : ℕ) (o : Option X) (k : X → Contraction (Tree A B)) → ((x : X) → Never (k x)) → Never (from 1 stage (on o k))
  seen-no stage o k p = when-no (le 1 stage) _ (on-no o k p)

  replace-no : (stage : ℕ) (n r t : Tree A B) → Never (text_replace stage n r t)
  replace-no stage n r t = seen-no stage (views.as_plain_text n) _ λ x.
      or-no (when (is_empty x) (Gives t)) _ (when-no (is_empty x) (Gives t) (give t))
      (when-no (le 2 stage) _ (on-no (views.as_plain_text t) (λ h. within (text_fits (pieces_between x 0 h)) (separated_by r (pieces_between x 0 h)))
      (λ h. within-no (text_fits (pieces_between x 0 h)) (separated_by r (pieces_between x 0 h)))))

  -- a built-in compares where no argument follows
  call-last : (binders : Binders A B) (stage : ℕ) (b : Builtin) (args : List (Tree A B)) → compared (contract_call binders stage b args) ≡ true
      → slice_get (call_needs b args) stage ≡ None
  call-last binders stage builtins.NaturalSubtract (a ∷ b ∷ []) h = two stage (subtract-late stage a b h)
    where
      two : (k : ℕ) → le 2 k ≡ true → slice_get (call_needs builtins.NaturalSubtract (a ∷ b ∷ [])) k ≡ None
      two zero h = absurd cc
      two (suc zero) h = absurd cc
      two (suc (suc k)) h = refl
  call-last binders stage builtins.NaturalFold (n ∷ ty ∷ g ∷ b ∷ []) h = never-true (contract_call binders stage builtins.NaturalFold (n ∷ ty ∷ g ∷ b ∷ [])) (seen-no stage (views.as_natural n) _ (λ x. give _)) h
  call-last binders stage builtins.NaturalIsZero (n ∷ []) h = never-true (contract_call binders stage builtins.NaturalIsZero (n ∷ [])) (seen-no stage (views.as_natural n) _ (λ x. give _)) h
  call-last binders stage builtins.NaturalEven (n ∷ []) h = never-true (contract_call binders stage builtins.NaturalEven (n ∷ [])) (seen-no stage (views.as_natural n) _ (λ x. give _)) h
  call-last binders stage builtins.NaturalOdd (n ∷ []) h = never-true (contract_call binders stage builtins.NaturalOdd (n ∷ [])) (seen-no stage (views.as_natural n) _ (λ x. give _)) h
  call-last binders stage builtins.NaturalToInteger (n ∷ []) h = never-true (contract_call binders stage builtins.NaturalToInteger (n ∷ [])) (seen-no stage (views.as_natural n) _ (λ x. within-no _ _)) h
  call-last binders stage builtins.NaturalShow (n ∷ []) h = never-true (contract_call binders stage builtins.NaturalShow (n ∷ [])) (seen-no stage (views.as_natural n) _ (λ x. give _)) h
  call-last binders stage builtins.IntegerShow (n ∷ []) h = never-true (contract_call binders stage builtins.IntegerShow (n ∷ [])) (seen-no stage (views.as_integer n) _ (λ x. give _)) h
  call-last binders stage builtins.IntegerNegate (n ∷ []) h = never-true (contract_call binders stage builtins.IntegerNegate (n ∷ [])) (seen-no stage (views.as_integer n) _ (λ x. within-no _ _)) h
  call-last binders stage builtins.IntegerClamp (n ∷ []) h = never-true (contract_call binders stage builtins.IntegerClamp (n ∷ [])) (seen-no stage (views.as_integer n) _ (λ x. give _)) h
  call-last binders stage builtins.ListFold (ty ∷ xs ∷ r ∷ g ∷ b ∷ []) h = never-true (contract_call binders stage builtins.ListFold (ty ∷ xs ∷ r ∷ g ∷ b ∷ [])) (seen-no stage (views.as_list xs) _ (λ x. give _)) h
  call-last binders stage builtins.ListLength (ty ∷ xs ∷ []) h = never-true (contract_call binders stage builtins.ListLength (ty ∷ xs ∷ [])) (seen-no stage (views.as_list xs) _ (λ x. give _)) h
  call-last binders stage builtins.ListHead (ty ∷ xs ∷ []) h = never-true (contract_call binders stage builtins.ListHead (ty ∷ xs ∷ [])) (seen-no stage (views.as_list xs) _ (λ x. give _)) h
  call-last binders stage builtins.ListLast (ty ∷ xs ∷ []) h = never-true (contract_call binders stage builtins.ListLast (ty ∷ xs ∷ [])) (seen-no stage (views.as_list xs) _ (λ x. give _)) h
  call-last binders stage builtins.ListIndexed (ty ∷ xs ∷ []) h = never-true (contract_call binders stage builtins.ListIndexed (ty ∷ xs ∷ [])) (seen-no stage (views.as_list xs) _ (λ x. give _)) h
  call-last binders stage builtins.ListReverse (ty ∷ xs ∷ []) h = never-true (contract_call binders stage builtins.ListReverse (ty ∷ xs ∷ [])) (seen-no stage (views.as_list xs) _ (λ x. give _)) h
  call-last binders stage builtins.TextShow (t ∷ []) h = never-true (contract_call binders stage builtins.TextShow (t ∷ [])) (seen-no stage (views.as_plain_text t) _ (λ x. within-no _ _)) h
  call-last binders stage builtins.TextReplace (n ∷ r ∷ t ∷ []) h = never-true (contract_call binders stage builtins.TextReplace (n ∷ r ∷ t ∷ [])) (replace-no stage n r t) h
  call-last binders stage builtins.NaturalBuild (f ∷ []) h = absurd cc
  call-last binders stage builtins.ListBuild (ty ∷ f ∷ []) h = absurd cc
  call-last binders stage b args h = absurd cc

  calls-last : (binders : Binders A B) (stage : ℕ) (o : Option (Builtin × List (Tree A B))) → compared (on o (λ (b, args). contract_call binders stage b args)) ≡ true
      → slice_get (argument_needs o) stage ≡ None
  calls-last binders stage (Some p) h = call-last binders stage p.0 p.1 h
  calls-last binders stage None h = absurd cc

  lambda-no : {X : Type 0} (o : Option X) (g : X → Tree A B) (d : Contraction (Tree A B)) → compared (on o (λ x. Gives (g x)) or d) ≡ true → compared d ≡ true
  lambda-no (Some x) g d h = absurd cc
  lambda-no None g d h = h

  -- ---- rows of nodes

  let-no : (binders : Binders A B) (r : Row A B) → Never (let_in binders r)
  let-no binders r = record { is = by r }
    where
      by : (r : Row A B) → compared (let_in binders r) ≡ false
      by (kid None a (kid (Some x) b end)) = refl
      by (kid None t (kid None a (kid (Some x) b end))) = refl
      by r = refl

  text-no : (stage : ℕ) (ps : List (List ℕ)) (es : List (Tree A B)) → Never (text_literal stage ps es)
  text-no stage ps es =
      or-no (on (spliced stage ps es) (λ (qs, ds). within (text_fits qs) (form.text qs ds))) _
      (on-no (spliced stage ps es) (λ (qs, ds). within (text_fits qs) (form.text qs ds)) (λ x. within-no (text_fits x.0) (form.text x.0 x.1)))
      (seen-no stage (lone_interpolation ps es) (λ e. Gives e) (λ e. give e))

  handled-no : (hs : Fields A B) (x : Name) (a : Tree A B) → Never (handled hs x a)
  handled-no hs x a = on-no (field_at x hs) (λ h. Gives (form.app h a)) (λ h. give _)

  handler-no : (hs : Fields A B) (x : Name) → Never (handler hs x)
  handler-no hs x = on-no (field_at x hs) (λ h. Gives h) (λ h. give _)

  applied-no : (hs : Fields A B) (f a : Tree A B) → Never (on (views.as_alternative f) (λ (x, alts). handled hs x a) or when (views.is_none f) (handler hs (codes "None")))
  applied-no hs f a =
      or-no (on (views.as_alternative f) (λ (x, alts). handled hs x a)) (when (views.is_none f) (handler hs (codes "None")))
      (on-no (views.as_alternative f) (λ (x, alts). handled hs x a) (λ p. handled-no hs p.0 a)) (when-no (views.is_none f) (handler hs (codes "None")) (handler-no hs (codes "None")))

  merge_with-no : (hs : Fields A B) (u : Tree A B) → Never (merge_with hs u)
  merge_with-no hs u =
      or-no (on (views.as_some u) (λ a. handled hs (codes "Some") a)) _ (on-no (views.as_some u) (λ a. handled hs (codes "Some") a) (λ a. handled-no hs (codes "Some") a))
      (or-no (on (views.as_app u) (λ (f, a). on (views.as_alternative f) (λ (x, alts). handled hs x a) or when (views.is_none f) (handler hs (codes "None")))) _
      (on-no (views.as_app u) (λ (f, a). on (views.as_alternative f) (λ (x, alts). handled hs x a) or when (views.is_none f) (handler hs (codes "None"))) (λ p. applied-no hs p.0 p.1))
      (on-no (views.as_alternative u) (λ (x, alts). when (is_empty_alternative x alts) (handler hs x)) (λ p. when-no (is_empty_alternative p.0 p.1) (handler hs p.0) (handler-no hs p.0))))

  merge-no : (stage : ℕ) (t u : Tree A B) → Never (merge stage t u)
  merge-no stage t u = when-no (le 2 stage) _ (on-no (views.as_record t) _ (λ hs. merge_with-no hs u))

  to_map_of-no : (fs : Fields A B) (o : Option (Tree A B)) → Never (to_map_of fs o)
  to_map_of-no [] None = nothing
  to_map_of-no [] (Some t) = give _
  to_map_of-no (f ∷ fs) o = give _

  to_map-no : (stage : ℕ) (e : Tree A B) (o : Option (Tree A B)) → Never (to_map stage e o)
  to_map-no stage e o = seen-no stage (views.as_record e) _ (λ fs. to_map_of-no fs o)

  beside-no : (x : Name) (fs : Fields A B) (other : Tree A B) (narrowed : Tree A B → Tree A B) (o : Option (Tree A B)) → Never (select_beside x fs other narrowed o)
  beside-no x fs other narrowed None = give _
  beside-no x fs other narrowed (Some e) = when-no (has_others fs) _ (give _)

  preferred-no : (x : Name) (l r : Tree A B) → Never (select_preferred x l r)
  preferred-no x l r = or-no (on (views.as_record r) _) _ (on-no (views.as_record r) _ (λ gs. give _)) (on-no (views.as_record l) _ (λ fs. beside-no x fs r (λ n. form.operator bins.Prefer n r) (field_at x fs)))

  combined-no : (x : Name) (l r : Tree A B) → Never (select_combined x l r)
  combined-no x l r =
      or-no (on (views.as_record l) _) _ (on-no (views.as_record l) _ (λ fs. beside-no x fs r (λ n. form.operator bins.Combine n r) (field_at x fs)))
      (on-no (views.as_record r) _ (λ gs. beside-no x gs l (λ n. form.operator bins.Combine l n) (field_at x gs)))

  select-no : (stage : ℕ) (e : Tree A B) (x : Name) → Never (select stage e x)
  select-no stage e x =
      when-no (le 1 stage) _ (or-no (on (views.as_record e) _) _ (on-no (views.as_record e) _ (λ fs. on-no (field_at x fs) _ (λ v. give _)))
      (or-no (on (views.as_projection e) _) _ (on-no (views.as_projection e) _ (λ s. give _))
      (or-no (on (views.as_prefer e) _) _ (on-no (views.as_prefer e) _ (λ p. preferred-no x p.0 p.1))
      (on-no (views.as_combine e) _ (λ p. combined-no x p.0 p.1)))))

  project-no : (stage : ℕ) (e : Tree A B) (xs : List Name) → Never (project stage e xs)
  project-no stage e xs =
      or-no (when (is_empty xs) _) _ (when-no (is_empty xs) _ (give _))
      (when-no (le 1 stage) _ (or-no (on (views.as_record e) _) _ (on-no (views.as_record e) _ (λ fs. on-no (fields_at xs fs) (λ gs. Gives (form.record_literal gs)) (λ gs. give _)))
      (or-no (on (views.as_projection e) _) _ (on-no (views.as_projection e) _ (λ s. give _))
      (on-no (views.as_prefer e) _ (λ p. on-no (views.as_record p.1) _ (λ gs. give _))))))

  update-no : (fs : Fields A B) (path : List Name) (v : Tree A B) → Never (update_record fs path v)
  update-no fs [] v = nothing
  update-no fs (x ∷ []) v = give _
  update-no fs (x ∷ y ∷ path) v = give _

  with-no : (stage : ℕ) (e : Tree A B) (path : List Name) (v : Tree A B) → Never (with_path stage e path v)
  with-no stage e path v = seen-no stage (views.as_record e) _ (λ fs. update-no fs path v)

  three-late : (k : ℕ) (r : Row A B) → le 3 k ≡ true → place k (Node ops.If r) ≡ None
  three-late zero r h = absurd cc
  three-late (suc zero) r h = absurd cc
  three-late (suc (suc zero)) r h = absurd cc
  three-late (suc (suc (suc k))) r h = refl

  app-last : (binders : Binders A B) (k : ℕ) (f a : Tree A B) (r : Row A B) → compared (application binders k f a) ≡ true → place k (Node ops.App (kid None f (kid None a r))) ≡ None
  app-last binders zero f a r h = absurd cc
  app-last binders (suc k) f a r h = calls-last binders k (views.as_call (form.app f a)) (lambda-no (views.as_lambda f) _ _ h)

  node-last : (binders : Binders A B) (k : ℕ) (op : Op) (r : Row A B) → compared (contract_node binders k op r) ≡ true → place k (Node op r) ≡ None
  node-last binders k ops.App (kid None f (kid None a r)) h = app-last binders k f a r h
  node-last binders k ops.App end h = absurd cc
  node-last binders k ops.App (kid (Some x) f r) h = absurd cc
  node-last binders k ops.App (kid None f end) h = absurd cc
  node-last binders k ops.App (kid None f (kid (Some x) a r)) h = absurd cc
  node-last binders k (ops.Let typed) r h = never-true (contract_node binders k (ops.Let typed) r) (let-no binders r) h
  node-last binders k ops.Annot r h = never-true (contract_node binders k ops.Annot r) (on-no (views.first_part r) _ (λ e. give _)) h
  node-last binders k ops.If r h = three-late k r (on-late 3 k (views.first_three r) _ (λ p. if-late k p.0 p.1 p.2) h)
  node-last binders k (ops.Bin o) r h = operator-full o k (on-late 2 k (views.first_two r) _ (λ p. operator-late k o p.0 p.1) h)
  node-last binders k (ops.Text ps) r h = never-true (contract_node binders k (ops.Text ps) r) (on-no (views.bodies r) _ (λ es. text-no k ps es)) h
  node-last binders k (ops.Merge typed) r h = never-true (contract_node binders k (ops.Merge typed) r) (on-no (views.first_two r) _ (λ p. merge-no k p.0 p.1)) h
  node-last binders k (ops.ToMap false) r h = never-true (contract_node binders k (ops.ToMap false) r) (on-no (views.first_part r) _ (λ e. to_map-no k e None)) h
  node-last binders k (ops.ToMap true) r h = never-true (contract_node binders k (ops.ToMap true) r) (on-no (views.first_two r) _ (λ p. to_map-no k p.0 (Some p.1))) h
  node-last binders k (ops.Field x) r h = never-true (contract_node binders k (ops.Field x) r) (on-no (views.first_part r) _ (λ e. select-no k e x)) h
  node-last binders k (ops.Project xs) r h = never-true (contract_node binders k (ops.Project xs) r) (on-no (views.first_part r) _ (λ e. project-no k e xs)) h
  node-last binders k ops.ProjectType r h = never-true (contract_node binders k ops.ProjectType r) (on-no (views.first_two r) _ (λ p. seen-no k (views.as_record_type p.1) _ (λ fs. give _))) h
  node-last binders k (ops.With path) r h = never-true (contract_node binders k (ops.With path) r) (on-no (views.first_two r) _ (λ p. with-no k p.0 path p.1)) h
  node-last binders k op r h = absurd cc

  pub compared-last : (binders : Binders A B) (k : ℕ) (l r f e : Tree A B) → contract_at binders k e ≡ IfSame l r f → place k e ≡ None
  compared-last binders k l r f (Leaf a) h = absurd cc
  compared-last binders k l r f (Node op q) h = node-last binders k op q (ap compared h)
