-- Parts of a node, and what a node of another form is not.
use Rattle.std.specs.Prelude.{◌≡◌, ◌<◌, ◌≤◌, ℕ, List, [], ◌∷◌, drop, length, true, false, Option, Some, None, option_map, option_and_then, slice_get, refl}
use Rattle.std.proofs.Common.{sym, ◌∙◌, ap, get_or, ◌+◌}
use Rattle.std.proofs.lemmas.List.{drop_more, drop_all}
use Rattle.dh_syntax.specs.declared.expressions.Alt.{Alt}
use Rattle.dh_syntax.specs.declared.expressions.Kid.{Kid}
use Rattle.dh_syntax.specs.declared.expressions.Op.{Op}
use Rattle.dh_syntax.specs.declared.expressions.Op.TheVariants as ops
use Rattle.dh_syntax.specs.declared.operators.Builtin.{Builtin}
use Rattle.dh_syntax.specs.declared.operators.Builtin.TheVariants as builtins
use Rattle.dh_syntax.specs.Expressions.Bridge.{term, row_of}
use Rattle.dh_syntax.specs.Expressions.Numbers.{bytes_eq}
use Rattle.dh_syntax.specs.Expressions.Tree.{Node, Row, Var, Name, Term, kid, end}
use Rattle.dh_syntax.specs.Expressions.Views.{as_alternative, as_union, first_part, is_none}
use Rattle.dh_syntax.proofs.Bridge.{row_of-nil, row_of-cons}
use Rattle.dh_json.specs.JsonValue.{alternative}

abbrev first_of : Option Name → Term → Option Term
first_of None e = Some e
first_of (Some x) e = None

abbrev of_kid : Option Kid → Option Term
of_kid None = None
of_kid (Some k) = first_of k.binder (term k.body)

first_kid : (b : Option Name) (e : Term) (r : Row Var Name) → first_part (kid b e r) ≡ first_of b e
first_kid None e r = refl
first_kid (Some x) e r = refl

first_is : (ks : List Kid) → first_part (row_of ks) ≡ of_kid (slice_get ks 0)
first_is [] = ap first_part row_of-nil
first_is (k ∷ ks) = ap first_part (row_of-cons k ks) ∙ first_kid k.binder (term k.body) (row_of ks)

-- the first part, by the first kid
pub first_none : (ks : List Kid) → None ≡ slice_get ks 0 → None ≡ first_part (row_of ks)
first_none ks p = sym (first_is ks ∙ ap of_kid (sym p))

pub first_bound : (ks : List Kid) (k : Kid) (x : Name) → Some k ≡ slice_get ks 0 → k.binder ≡ Some x → None ≡ first_part (row_of ks)
first_bound ks k x p b = sym (first_is ks ∙ ap of_kid (sym p) ∙ ap (λ o. first_of o (term k.body)) b)

pub first_plain : (ks : List Kid) (k : Kid) → Some k ≡ slice_get ks 0 → k.binder ≡ None → Some (term k.body) ≡ first_part (row_of ks)
first_plain ks k p b = sym (first_is ks ∙ ap of_kid (sym p) ∙ ap (λ o. first_of o (term k.body)) b)

-- ---- nodes of other forms

pub no_union : (op : Op) (r : Row Var Name) → ((alts : List Alt) → op ≡ ops.Union alts → ⊥) → None ≡ as_union (Node op r)
no_union (ops.Builtin b) r h = refl
no_union (ops.Bool b) r h = refl
no_union (ops.Nat n) r h = refl
no_union (ops.Int z) r h = refl
no_union (ops.Text ps) r h = refl
no_union (ops.Import i) r h = refl
no_union ops.Lam r h = refl
no_union ops.Pi r h = refl
no_union (ops.Let b) r h = refl
no_union ops.App r h = refl
no_union ops.If r h = refl
no_union (ops.Bin o) r h = refl
no_union ops.EmptyList r h = refl
no_union ops.List r h = refl
no_union ops.Some r h = refl
no_union (ops.Merge b) r h = refl
no_union (ops.RecordType xs) r h = refl
no_union (ops.Record xs) r h = refl
no_union (ops.Field x) r h = refl
no_union (ops.Project xs) r h = refl
no_union ops.ProjectType r h = refl
no_union (ops.Union alts) r h = absurd (h alts refl)
no_union ops.Assert r h = refl
no_union ops.Annot r h = refl
no_union (ops.ToMap b) r h = refl
no_union (ops.With xs) r h = refl

pub no_none : (op : Op) (r : Row Var Name) → ((b : Builtin) → op ≡ ops.Builtin b → ⊥) → false ≡ is_none (Node op r)
no_none (ops.Builtin b) r h = absurd (h b refl)
no_none (ops.Bool b) r h = refl
no_none (ops.Nat n) r h = refl
no_none (ops.Int z) r h = refl
no_none (ops.Text ps) r h = refl
no_none (ops.Import i) r h = refl
no_none ops.Lam r h = refl
no_none ops.Pi r h = refl
no_none (ops.Let b) r h = refl
no_none ops.App r h = refl
no_none ops.If r h = refl
no_none (ops.Bin o) r h = refl
no_none ops.EmptyList r h = refl
no_none ops.List r h = refl
no_none ops.Some r h = refl
no_none (ops.Merge b) r h = refl
no_none (ops.RecordType xs) r h = refl
no_none (ops.Record xs) r h = refl
no_none (ops.Field x) r h = refl
no_none (ops.Project xs) r h = refl
no_none ops.ProjectType r h = refl
no_none (ops.Union alts) r h = refl
no_none ops.Assert r h = refl
no_none ops.Annot r h = refl
no_none (ops.ToMap b) r h = refl
no_none (ops.With xs) r h = refl

pub no_field : (op : Op) (r : Row Var Name) → ((x : Name) → op ≡ ops.Field x → ⊥) → None ≡ as_alternative (Node op r)
no_field (ops.Builtin b) r h = refl
no_field (ops.Bool b) r h = refl
no_field (ops.Nat n) r h = refl
no_field (ops.Int z) r h = refl
no_field (ops.Text ps) r h = refl
no_field (ops.Import i) r h = refl
no_field ops.Lam r h = refl
no_field ops.Pi r h = refl
no_field (ops.Let b) r h = refl
no_field ops.App r h = refl
no_field ops.If r h = refl
no_field (ops.Bin o) r h = refl
no_field ops.EmptyList r h = refl
no_field ops.List r h = refl
no_field ops.Some r h = refl
no_field (ops.Merge b) r h = refl
no_field (ops.RecordType xs) r h = refl
no_field (ops.Record xs) r h = refl
no_field (ops.Field x) r h = absurd (h x refl)
no_field (ops.Project xs) r h = refl
no_field ops.ProjectType r h = refl
no_field (ops.Union alts) r h = refl
no_field ops.Assert r h = refl
no_field ops.Annot r h = refl
no_field (ops.ToMap b) r h = refl
no_field (ops.With xs) r h = refl

pub other_builtin : (b : Builtin) (r : Row Var Name) → (b ≡ builtins.None → ⊥) → false ≡ is_none (Node (ops.Builtin b) r)
other_builtin builtins.TypeConst r h = refl
other_builtin builtins.Kind r h = refl
other_builtin builtins.Sort r h = refl
other_builtin builtins.Bool r h = refl
other_builtin builtins.Natural r h = refl
other_builtin builtins.Integer r h = refl
other_builtin builtins.Text r h = refl
other_builtin builtins.List r h = refl
other_builtin builtins.Optional r h = refl
other_builtin builtins.None r h = absurd (h refl)
other_builtin builtins.NaturalFold r h = refl
other_builtin builtins.NaturalBuild r h = refl
other_builtin builtins.NaturalIsZero r h = refl
other_builtin builtins.NaturalEven r h = refl
other_builtin builtins.NaturalOdd r h = refl
other_builtin builtins.NaturalToInteger r h = refl
other_builtin builtins.NaturalShow r h = refl
other_builtin builtins.NaturalSubtract r h = refl
other_builtin builtins.IntegerShow r h = refl
other_builtin builtins.IntegerNegate r h = refl
other_builtin builtins.IntegerClamp r h = refl
other_builtin builtins.ListBuild r h = refl
other_builtin builtins.ListFold r h = refl
other_builtin builtins.ListLength r h = refl
other_builtin builtins.ListHead r h = refl
other_builtin builtins.ListLast r h = refl
other_builtin builtins.ListIndexed r h = refl
other_builtin builtins.ListReverse r h = refl
other_builtin builtins.TextShow r h = refl
other_builtin builtins.TextReplace r h = refl

-- a selection, by its first part
abbrev pub selected : Name → Option Term → Option (Name × List Alt)
selected x None = None
selected x (Some u) = option_map (λ alts. (x, alts)) (as_union u)

pub selection_is : (x : Name) (r : Row Var Name) → as_alternative (Node (ops.Field x) r) ≡ selected x (first_part r)
selection_is x end = refl
selection_is x (kid None u r) = refl
selection_is x (kid (Some y) u r) = refl

-- ---- the alternatives of a union

pub alternative_here : (x : Name) (as' : List Alt) (i : ℕ) (a : Alt) → i < length as' → a ≡ get_or as' i a → bytes_eq x a.label ≡ true → alternative x (drop i as') ≡ alternative x as' → Some a.typed ≡ alternative x as'
alternative_here x as' i a p e h k =
    let d = drop_more as' i a p in
    sym (sym k ∙ ap (alternative x) (d ∙ ap (λ b. b ∷ drop (i + 1) as') (sym e)) ∙ (rw h refl))

pub alternative_past : (x : Name) (as' : List Alt) (i : ℕ) (a : Alt) → i < length as' → a ≡ get_or as' i a → bytes_eq x a.label ≡ false → alternative x (drop i as') ≡ alternative x as' → alternative x (drop (i + 1) as') ≡ alternative x as'
alternative_past x as' i a p e h k =
    let d = drop_more as' i a p in
    sym (ap (alternative x) (d ∙ ap (λ b. b ∷ drop (i + 1) as') (sym e)) ∙ (rw h refl)) ∙ k

pub alternative_nowhere : (x : Name) (as' : List Alt) (i : ℕ) → length as' ≤ i → alternative x (drop i as') ≡ alternative x as' → None ≡ alternative x as'
alternative_nowhere x as' i p k = sym (sym k ∙ ap (alternative x) (drop_all i as' p))

-- what is selected from a part, by what is known of it
pub selected_from : (e : Term) (op : Op) (ks js : List Kid) (x : Name) (o : Option Term) → as_alternative e ≡ as_alternative (Node op (row_of ks)) → op ≡ ops.Field x → js ≡ ks → o ≡ first_part (row_of js)
    → option_and_then (λ (a : Name × List Alt). alternative a.0 a.1) (as_alternative e) ≡ option_and_then (λ (a : Name × List Alt). alternative a.0 a.1) (selected x o)
selected_from e op ks js x o a b c h =
    ap (option_and_then (λ (a : Name × List Alt). alternative a.0 a.1)) (a ∙ ap (λ p. as_alternative (Node p (row_of ks))) b ∙ selection_is x (row_of ks) ∙ ap (λ l. selected x (first_part (row_of l))) (sym c) ∙ ap (selected x) (sym h))

pub selected_alternative : (x : Name) (o : Option Term) (u : Term) (found : Option (List Alt)) (alts : List Alt) → o ≡ Some u → found ≡ as_union u → found ≡ Some alts
    → option_and_then (λ (a : Name × List Alt). alternative a.0 a.1) (selected x o) ≡ alternative x alts
selected_alternative x o u found alts p h k =
    ap (λ q. option_and_then (λ (a : Name × List Alt). alternative a.0 a.1) (selected x q)) p ∙ ap (λ q. option_and_then (λ (a : Name × List Alt). alternative a.0 a.1) (option_map (λ alts. (x, alts)) q)) (sym h ∙ k)

pub selected_no_union : (x : Name) (o : Option Term) (u : Term) (found : Option (List Alt)) → o ≡ Some u → found ≡ as_union u → found ≡ None → option_and_then (λ (a : Name × List Alt). alternative a.0 a.1) (selected x o) ≡ None
selected_no_union x o u found p h k =
    ap (λ q. option_and_then (λ (a : Name × List Alt). alternative a.0 a.1) (selected x q)) p ∙ ap (λ q. option_and_then (λ (a : Name × List Alt). alternative a.0 a.1) (option_map (λ alts. (x, alts)) q)) (sym h ∙ k)

pub selected_nothing : (x : Name) (o : Option Term) → o ≡ None → option_and_then (λ (a : Name × List Alt). alternative a.0 a.1) (selected x o) ≡ None
selected_nothing x o p = ap (λ q. option_and_then (λ (a : Name × List Alt). alternative a.0 a.1) (selected x q)) p
