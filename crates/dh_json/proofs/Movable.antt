-- JSON values do not depend on the leaves and the binders of an expression.
use Rattle.std.specs.Prelude.{◌≡◌, if◌then◌else◌, [], ◌∷◌, Some, None, option_map, refl}
use Rattle.std.proofs.Common.{sym, ◌∙◌, ap}
use Rattle.serde_json.specs.Data.{null}
use Rattle.dh_syntax.specs.declared.expressions.Op.{Op}
use Rattle.dh_syntax.specs.declared.expressions.Op.TheVariants as ops
use Rattle.dh_syntax.specs.declared.operators.Builtin.TheVariants as builtins
use Rattle.dh_syntax.specs.Expressions.Tree.{Tree, Row, Leaf, Node, Name, Term, kid, end}
use Rattle.dh_syntax.specs.Expressions.Views.{as_alternative, as_union, first_part, is_none}
use Rattle.dh_syntax.specs.Names.Alpha.{IsSame}
use Rattle.dh_syntax.specs.Names.Moves.{Move, entered, moved, moved_row}
use Rattle.dh_syntax.specs.Names.Nameless.{bare, forgetting, going_nameless, to_core}
use Rattle.dh_laws.proofs.Names.AlphaForms.{same-bare}
use Rattle.dh_json.specs.JsonValue.{Whole, applied, application_in, by_case, case_of, json, jsons, selection, selection_in}

module _ {S A B C D : Type 0} (m : Move S A B C D) where
  none_moved : (s : S) (e : Tree A B) → is_none (moved m s e) ≡ is_none e
  none_moved s (Leaf a) = refl
  none_moved s (Node (ops.Builtin builtins.TypeConst) r) = refl
  none_moved s (Node (ops.Builtin builtins.Kind) r) = refl
  none_moved s (Node (ops.Builtin builtins.Sort) r) = refl
  none_moved s (Node (ops.Builtin builtins.Bool) r) = refl
  none_moved s (Node (ops.Builtin builtins.Natural) r) = refl
  none_moved s (Node (ops.Builtin builtins.Integer) r) = refl
  none_moved s (Node (ops.Builtin builtins.Text) r) = refl
  none_moved s (Node (ops.Builtin builtins.List) r) = refl
  none_moved s (Node (ops.Builtin builtins.Optional) r) = refl
  none_moved s (Node (ops.Builtin builtins.None) r) = refl
  none_moved s (Node (ops.Builtin builtins.NaturalFold) r) = refl
  none_moved s (Node (ops.Builtin builtins.NaturalBuild) r) = refl
  none_moved s (Node (ops.Builtin builtins.NaturalIsZero) r) = refl
  none_moved s (Node (ops.Builtin builtins.NaturalEven) r) = refl
  none_moved s (Node (ops.Builtin builtins.NaturalOdd) r) = refl
  none_moved s (Node (ops.Builtin builtins.NaturalToInteger) r) = refl
  none_moved s (Node (ops.Builtin builtins.NaturalShow) r) = refl
  none_moved s (Node (ops.Builtin builtins.NaturalSubtract) r) = refl
  none_moved s (Node (ops.Builtin builtins.IntegerShow) r) = refl
  none_moved s (Node (ops.Builtin builtins.IntegerNegate) r) = refl
  none_moved s (Node (ops.Builtin builtins.IntegerClamp) r) = refl
  none_moved s (Node (ops.Builtin builtins.ListBuild) r) = refl
  none_moved s (Node (ops.Builtin builtins.ListFold) r) = refl
  none_moved s (Node (ops.Builtin builtins.ListLength) r) = refl
  none_moved s (Node (ops.Builtin builtins.ListHead) r) = refl
  none_moved s (Node (ops.Builtin builtins.ListLast) r) = refl
  none_moved s (Node (ops.Builtin builtins.ListIndexed) r) = refl
  none_moved s (Node (ops.Builtin builtins.ListReverse) r) = refl
  none_moved s (Node (ops.Builtin builtins.TextShow) r) = refl
  none_moved s (Node (ops.Builtin builtins.TextReplace) r) = refl
  none_moved s (Node (ops.Bool b) r) = refl
  none_moved s (Node (ops.Nat n) r) = refl
  none_moved s (Node (ops.Int z) r) = refl
  none_moved s (Node (ops.Text ps) r) = refl
  none_moved s (Node (ops.Import i) r) = refl
  none_moved s (Node ops.Lam r) = refl
  none_moved s (Node ops.Pi r) = refl
  none_moved s (Node (ops.Let b) r) = refl
  none_moved s (Node ops.App r) = refl
  none_moved s (Node ops.If r) = refl
  none_moved s (Node (ops.Bin o) r) = refl
  none_moved s (Node ops.EmptyList r) = refl
  none_moved s (Node ops.List r) = refl
  none_moved s (Node ops.Some r) = refl
  none_moved s (Node (ops.Merge b) r) = refl
  none_moved s (Node (ops.RecordType xs) r) = refl
  none_moved s (Node (ops.Record xs) r) = refl
  none_moved s (Node (ops.Field x) r) = refl
  none_moved s (Node (ops.Project xs) r) = refl
  none_moved s (Node ops.ProjectType r) = refl
  none_moved s (Node (ops.Union alts) r) = refl
  none_moved s (Node ops.Assert r) = refl
  none_moved s (Node ops.Annot r) = refl
  none_moved s (Node (ops.ToMap b) r) = refl
  none_moved s (Node (ops.With xs) r) = refl

  union_moved : (s : S) (e : Tree A B) → as_union (moved m s e) ≡ as_union e
  union_moved s (Leaf a) = refl
  union_moved s (Node (ops.Builtin b) r) = refl
  union_moved s (Node (ops.Bool b) r) = refl
  union_moved s (Node (ops.Nat n) r) = refl
  union_moved s (Node (ops.Int z) r) = refl
  union_moved s (Node (ops.Text ps) r) = refl
  union_moved s (Node (ops.Import i) r) = refl
  union_moved s (Node ops.Lam r) = refl
  union_moved s (Node ops.Pi r) = refl
  union_moved s (Node (ops.Let b) r) = refl
  union_moved s (Node ops.App r) = refl
  union_moved s (Node ops.If r) = refl
  union_moved s (Node (ops.Bin o) r) = refl
  union_moved s (Node ops.EmptyList r) = refl
  union_moved s (Node ops.List r) = refl
  union_moved s (Node ops.Some r) = refl
  union_moved s (Node (ops.Merge b) r) = refl
  union_moved s (Node (ops.RecordType xs) r) = refl
  union_moved s (Node (ops.Record xs) r) = refl
  union_moved s (Node (ops.Field x) r) = refl
  union_moved s (Node (ops.Project xs) r) = refl
  union_moved s (Node ops.ProjectType r) = refl
  union_moved s (Node (ops.Union alts) r) = refl
  union_moved s (Node ops.Assert r) = refl
  union_moved s (Node ops.Annot r) = refl
  union_moved s (Node (ops.ToMap b) r) = refl
  union_moved s (Node (ops.With xs) r) = refl

  selected_moved : (s : S) (x : Name) (r : Row A B) → as_alternative (Node (ops.Field x) (moved_row m s r)) ≡ as_alternative (Node (ops.Field x) r)
  selected_moved s x end = refl
  selected_moved s x (kid None u r) = ap (option_map (λ alts. (x, alts))) (union_moved s u)
  selected_moved s x (kid (Some y) u r) = refl

  alternative_moved : (s : S) (e : Tree A B) → as_alternative (moved m s e) ≡ as_alternative e
  alternative_moved s (Leaf a) = refl
  alternative_moved s (Node (ops.Builtin b) r) = refl
  alternative_moved s (Node (ops.Bool b) r) = refl
  alternative_moved s (Node (ops.Nat n) r) = refl
  alternative_moved s (Node (ops.Int z) r) = refl
  alternative_moved s (Node (ops.Text ps) r) = refl
  alternative_moved s (Node (ops.Import i) r) = refl
  alternative_moved s (Node ops.Lam r) = refl
  alternative_moved s (Node ops.Pi r) = refl
  alternative_moved s (Node (ops.Let b) r) = refl
  alternative_moved s (Node ops.App r) = refl
  alternative_moved s (Node ops.If r) = refl
  alternative_moved s (Node (ops.Bin o) r) = refl
  alternative_moved s (Node ops.EmptyList r) = refl
  alternative_moved s (Node ops.List r) = refl
  alternative_moved s (Node ops.Some r) = refl
  alternative_moved s (Node (ops.Merge b) r) = refl
  alternative_moved s (Node (ops.RecordType xs) r) = refl
  alternative_moved s (Node (ops.Record xs) r) = refl
  alternative_moved s (Node (ops.Field x) r) = selected_moved s x r
  alternative_moved s (Node (ops.Project xs) r) = refl
  alternative_moved s (Node ops.ProjectType r) = refl
  alternative_moved s (Node (ops.Union alts) r) = refl
  alternative_moved s (Node ops.Assert r) = refl
  alternative_moved s (Node ops.Annot r) = refl
  alternative_moved s (Node (ops.ToMap b) r) = refl
  alternative_moved s (Node (ops.With xs) r) = refl

  application_moved : (s : S) (r : Row A B) → application_in (first_part (moved_row m s r)) ≡ application_in (first_part r)
  application_moved s end = refl
  application_moved s (kid None f r) = ap (λ b. if b then Whole null else applied (as_alternative (moved m s f))) (none_moved s f) ∙ ap (λ o. if is_none f then Whole null else applied o) (alternative_moved s f)
  application_moved s (kid (Some y) f r) = refl

  selection_moved : (s : S) (x : Name) (r : Row A B) → selection_in x (first_part (moved_row m s r)) ≡ selection_in x (first_part r)
  selection_moved s x end = refl
  selection_moved s x (kid None u r) = ap (selection x) (union_moved s u)
  selection_moved s x (kid (Some y) u r) = refl

  case_moved : (s : S) (op : Op) (r : Row A B) → case_of op (moved_row m s r) ≡ case_of op r
  case_moved s (ops.Builtin b) r = refl
  case_moved s (ops.Bool b) r = refl
  case_moved s (ops.Nat n) r = refl
  case_moved s (ops.Int z) r = refl
  case_moved s (ops.Text ps) r = refl
  case_moved s (ops.Import i) r = refl
  case_moved s ops.Lam r = refl
  case_moved s ops.Pi r = refl
  case_moved s (ops.Let b) r = refl
  case_moved s ops.App r = application_moved s r
  case_moved s ops.If r = refl
  case_moved s (ops.Bin o) r = refl
  case_moved s ops.EmptyList r = refl
  case_moved s ops.List r = refl
  case_moved s ops.Some r = refl
  case_moved s (ops.Merge b) r = refl
  case_moved s (ops.RecordType xs) r = refl
  case_moved s (ops.Record xs) r = refl
  case_moved s (ops.Field x) r = selection_moved s x r
  case_moved s (ops.Project xs) r = refl
  case_moved s ops.ProjectType r = refl
  case_moved s (ops.Union alts) r = refl
  case_moved s ops.Assert r = refl
  case_moved s ops.Annot r = refl
  case_moved s (ops.ToMap b) r = refl
  case_moved s (ops.With xs) r = refl

  mutual
    json_moved : (s : S) (e : Tree A B) → json (moved m s e) ≡ json e
    json_moved s (Leaf a) = refl
    json_moved s (Node op r) = ap (λ c. by_case c (jsons (moved_row m s r))) (case_moved s op r) ∙ ap (by_case (case_of op r)) (jsons_moved s r)

    jsons_moved : (s : S) (r : Row A B) → jsons (moved_row m s r) ≡ jsons r
    jsons_moved s end = refl
    jsons_moved s (kid b e r) = ap (λ a. a ∷ jsons (moved_row m s r)) (json_moved (entered m s b) e) ∙ ap (λ as'. json e ∷ as') (jsons_moved s r)

json_bare : (e : Term) → json (bare e) ≡ json e
json_bare e = json_moved forgetting tt (to_core e) ∙ json_moved going_nameless [] e

pub json_same : (e f : Term) → IsSame e f → json e ≡ json f
json_same e f h = sym (json_bare e) ∙ ap json (same-bare e f h) ∙ json_bare f
