-- The contraction table on the fragment: no rows but its four.
use Rattle.std.specs.Prelude.{◌≡◌, ℕ, suc, Bool, true, ◌&&◌, List, [], ◌∷◌, Option, Some, None, option_map, option_and_then, refl}
use Rattle.std.proofs.Common.{ap, sym, ◌∙◌}
use Rattle.dh_syntax.specs.declared.expressions.Op.{Op}
use Rattle.dh_syntax.specs.declared.expressions.Op.TheVariants as ops
use Rattle.dh_syntax.specs.declared.operators.Builtin.{Builtin}
use Rattle.dh_syntax.specs.declared.operators.Builtin.TheVariants as builtins
use Rattle.dh_syntax.specs.Expressions.Forms.{Fields}
use Rattle.dh_syntax.specs.Expressions.Labels.{field_at}
use Rattle.dh_syntax.specs.Expressions.Tree.{Tree, Row, Leaf, Node, end, kid, Name}
use Rattle.dh_syntax.specs.Expressions.Views.{fields, as_lambda, as_record, as_call_before}
use Rattle.dh_syntax.specs.Normalising.Contract.{contract_call, application, contract_node, contract_at}
use Rattle.dh_syntax.specs.Normalising.Contraction.{Contraction, Nothing, Gives, Binders, ◌or◌, on}
use Rattle.dh_syntax.specs.Normalising.ContractRecords.{select}
use Rattle.dh_syntax.specs.Normalising.Steps.{is_constant, op_in_fragment, in_fragment, row_in_fragment}
use Rattle.dh_confluence.specs.FragmentSteps.{applied, let_put, reduct, reduct_of}
use Rattle.dh_confluence.proofs.Confluent.{both-true}

module _ {A B : Type 0} (binders : Binders A B) where
  -- what the table answers, where it gives this or nothing
  abbrev pub answer_of : Option (Tree A B) → Contraction (Tree A B)
  answer_of None = Nothing
  answer_of (Some e) = Gives e

  no-call : (stage : ℕ) (b : Builtin) (args : List (Tree A B)) → is_constant b ≡ true → contract_call binders stage b args ≡ Nothing
  no-call stage builtins.TypeConst args h = refl
  no-call stage builtins.Kind args h = refl
  no-call stage builtins.Sort args h = refl
  no-call stage builtins.Bool args h = refl
  no-call stage builtins.Natural args h = refl
  no-call stage builtins.Integer args h = refl
  no-call stage builtins.Text args h = refl
  no-call stage builtins.List args h = refl
  no-call stage builtins.Optional args h = refl
  no-call stage builtins.None args h = refl
  no-call stage b args h = absurd cc

  no-calls : (stage : ℕ) (args : List (Tree A B)) (f : Tree A B) → in_fragment f ≡ true
      → on (as_call_before args f) (λ (b, args). contract_call binders stage b args) ≡ Nothing
  no-calls stage args (Node (ops.Builtin b) r) h = no-call stage b args (both-true (is_constant b) (row_in_fragment r) h).0
  no-calls stage args (Node ops.App (kid None f (kid None a r))) h =
      no-calls stage (a ∷ args) f (both-true (in_fragment f) (in_fragment a && row_in_fragment r) h).0
  no-calls stage args (Node op r) h = refl
  no-calls stage args (Leaf a) h = refl

  or-nothing : (c d : Contraction (Tree A B)) → d ≡ Nothing → c or d ≡ c or Nothing
  or-nothing c d p = ap (λ x. c or x) p

  application-given : (stage : ℕ) (f a : Tree A B) → in_fragment f ≡ true → application binders (suc stage) f a ≡ answer_of (applied binders.put f a)
  application-given stage f a h = ap (λ z. on (as_lambda f) (λ (x, b). Gives (binders.put x a b)) or z) (no-calls stage (a ∷ []) f h) ∙ by (as_lambda f)
    where
      by : (o : Option (B × Tree A B)) → on o (λ (x, b). Gives (binders.put x a b)) or Nothing ≡ answer_of (option_map (λ (x, b). binders.put x a b) o)
      by None = refl
      by (Some p) = refl

  pub let-given : (stage : ℕ) (typed : Bool) (r : Row A B) → contract_node binders stage (ops.Let typed) r ≡ answer_of (let_put binders.put r)
  let-given stage typed (kid None a (kid (Some x) b end)) = refl
  let-given stage typed (kid None t (kid None a (kid (Some x) b end))) = refl
  let-given stage typed r = refl

  field-given : (x : Name) (fs : Fields A B) (o : Option (Tree A B)) → field_at x fs ≡ o → (on (field_at x fs) (λ v. Gives v) or Nothing) ≡ answer_of (field_at x fs)
  field-given x fs None p = ap (λ o. on o (λ v. Gives v) or Nothing) p ∙ sym (ap answer_of p)
  field-given x fs (Some e) p = ap (λ o. on o (λ v. Gives v) or Nothing) p ∙ sym (ap answer_of p)

  select-given : (stage : ℕ) (e : Tree A B) (x : Name) → in_fragment e ≡ true
      → select (suc stage) e x ≡ answer_of (option_and_then (field_at x) (as_record e))
  select-given stage (Leaf a) x h = refl
  select-given stage (Node (ops.Record xs) r) x h = by (fields xs r)
    where
      by : (o : Option (Fields A B)) → (on o (λ fs. on (field_at x fs) (λ v. Gives v)) or Nothing or Nothing or Nothing) ≡ answer_of (option_and_then (field_at x) o)
      by None = refl
      by (Some fs) = field-given x fs (field_at x fs) refl
  select-given stage (Node (ops.Project xs) r) x h = absurd cc
  select-given stage (Node (ops.Bin o) r) x h = absurd cc
  select-given stage (Node op r) x h = refl

  -- the table, once a part may have been headed
  pub node-given : (stage : ℕ) (op : Op) (r : Row A B) → op_in_fragment op ≡ true → row_in_fragment r ≡ true
      → contract_node binders (suc stage) op r ≡ answer_of (reduct binders.put op r)
  node-given stage ops.App (kid None f (kid None a r)) o h = application-given stage f a (both-true (in_fragment f) (in_fragment a && row_in_fragment r) h).0
  node-given stage ops.App r o h = refl
  node-given stage (ops.Let typed) r o h = let-given (suc stage) typed r
  node-given stage ops.Annot (kid None e r) o h = refl
  node-given stage ops.Annot r o h = refl
  node-given stage (ops.Field x) (kid None e r) o h = select-given stage e x (both-true (in_fragment e) (row_in_fragment r) h).0
  node-given stage (ops.Field x) r o h = refl
  node-given stage ops.If r o h = absurd cc
  node-given stage (ops.Bin b) r o h = absurd cc
  node-given stage (ops.Text ps) r o h = absurd cc
  node-given stage (ops.Merge typed) r o h = absurd cc
  node-given stage (ops.ToMap typed) r o h = absurd cc
  node-given stage (ops.Project xs) r o h = absurd cc
  node-given stage ops.ProjectType r o h = absurd cc
  node-given stage (ops.With path) r o h = absurd cc
  node-given stage op r o h = refl

  pub table-given : (stage : ℕ) (e : Tree A B) → in_fragment e ≡ true → contract_at binders (suc stage) e ≡ answer_of (reduct_of binders.put e)
  table-given stage (Leaf a) h = refl
  table-given stage (Node op r) h =
      let (o, k) = both-true (op_in_fragment op) (row_in_fragment r) h in
      node-given stage op r o k
