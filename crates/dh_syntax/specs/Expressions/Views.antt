-- Views: whether an expression has a form, and with which parts. No view looks past a binder.
use Rattle.std.specs.Prelude.{ℕ, ℤ, Bool, true, false, not, ◌==◌, List, [], ◌∷◌, Option, Some, None, option_map}
use Rattle.dh_syntax.specs.declared.expressions.Alt.{Alt}
use Rattle.dh_syntax.specs.declared.expressions.Op.TheVariants as ops
use Rattle.dh_syntax.specs.declared.operators.BinOp.TheVariants as bins
use Rattle.dh_syntax.specs.declared.operators.Builtin.{Builtin}
use Rattle.dh_syntax.specs.declared.operators.Builtin.TheVariants as builtins
use Rattle.dh_syntax.specs.Expressions.Forms.{Fields, TextParts}
use Rattle.dh_syntax.specs.Expressions.Tree.{Tree, Row, Node, end, kid, Name}

module _ {A B : Type 0} where
  -- ---- parts

  -- the parts, where none of them stands under a binder
  abbrev pub bodies : Row A B → Option (List (Tree A B))
  bodies end = Some []
  bodies (kid None e r) = option_map (λ es. e ∷ es) (bodies r)
  bodies (kid (Some x) e r) = None

  abbrev pub first_part : Row A B → Option (Tree A B)
  first_part (kid None e r) = Some e
  first_part _ = None

  abbrev pub first_two : Row A B → Option (Tree A B × Tree A B)
  first_two (kid None e (kid None f r)) = Some (e, f)
  first_two _ = None

  abbrev pub first_three : Row A B → Option (Tree A B × Tree A B × Tree A B)
  first_three (kid None e (kid None f (kid None g r))) = Some (e, f, g)
  first_three _ = None

  -- the parts under their labels
  abbrev pub fields : List Name → Row A B → Option (Fields A B)
  fields [] end = Some []
  fields (x ∷ xs) (kid None e r) = option_map (λ fs. (x, e) ∷ fs) (fields xs r)
  fields _ _ = None

  -- ---- literals

  abbrev pub is_true : Tree A B → Bool
  is_true (Node (ops.Bool b) r) = b
  is_true _ = false

  abbrev pub is_false : Tree A B → Bool
  is_false (Node (ops.Bool b) r) = not b
  is_false _ = false

  abbrev pub as_natural : Tree A B → Option ℕ
  as_natural (Node (ops.Nat n) r) = Some n
  as_natural _ = None

  -- whether an expression is the literal n
  abbrev pub is_literal : ℕ → Tree A B → Bool
  is_literal n (Node (ops.Nat m) r) = m == n
  is_literal n _ = false

  abbrev pub as_integer : Tree A B → Option ℤ
  as_integer (Node (ops.Int z) r) = Some z
  as_integer _ = None

  -- a text: its pieces and its interpolations
  abbrev pub as_text : Tree A B → Option (TextParts A B)
  as_text (Node (ops.Text ps) r) = option_map (λ es. (ps, es)) (bodies r)
  as_text _ = None

  -- a text without interpolation
  abbrev pub as_plain_text : Tree A B → Option (List ℕ)
  as_plain_text (Node (ops.Text (p ∷ [])) r) = Some p
  as_plain_text _ = None

  -- ---- lists and optional values

  -- a list: its elements, none for `[] : t`
  abbrev pub as_list : Tree A B → Option (List (Tree A B))
  as_list (Node ops.EmptyList r) = Some []
  as_list (Node ops.List r) = bodies r
  as_list _ = None

  -- `[] : t`
  abbrev pub is_empty_list : Tree A B → Bool
  is_empty_list (Node ops.EmptyList r) = true
  is_empty_list _ = false

  -- the built-in `None`
  abbrev pub is_none : Tree A B → Bool
  is_none (Node (ops.Builtin builtins.None) r) = true
  is_none _ = false

  abbrev pub as_some : Tree A B → Option (Tree A B)
  as_some (Node ops.Some r) = first_part r
  as_some _ = None

  -- ---- records and unions

  abbrev pub as_record : Tree A B → Option (Fields A B)
  as_record (Node (ops.Record xs) r) = fields xs r
  as_record _ = None

  -- `{=}`
  abbrev pub is_empty_record : Tree A B → Bool
  is_empty_record (Node (ops.Record []) r) = true
  is_empty_record _ = false

  abbrev pub as_record_type : Tree A B → Option (Fields A B)
  as_record_type (Node (ops.RecordType xs) r) = fields xs r
  as_record_type _ = None

  -- `{}`
  abbrev pub is_empty_record_type : Tree A B → Bool
  is_empty_record_type (Node (ops.RecordType []) r) = true
  is_empty_record_type _ = false

  abbrev pub as_union : Tree A B → Option (List Alt)
  as_union (Node (ops.Union alts) r) = Some alts
  as_union _ = None

  -- `U.x` where U is a union: x and the alternatives of U
  abbrev pub as_alternative : Tree A B → Option (Name × List Alt)
  as_alternative (Node (ops.Field x) (kid None u r)) = option_map (λ alts. (x, alts)) (as_union u)
  as_alternative _ = None

  -- `e.{ .. }`
  abbrev pub as_projection : Tree A B → Option (Tree A B)
  as_projection (Node (ops.Project xs) r) = first_part r
  as_projection _ = None

  -- `l ⫽ r`
  abbrev pub as_prefer : Tree A B → Option (Tree A B × Tree A B)
  as_prefer (Node (ops.Bin bins.Prefer) r) = first_two r
  as_prefer _ = None

  -- `l ∧ r`
  abbrev pub as_combine : Tree A B → Option (Tree A B × Tree A B)
  as_combine (Node (ops.Bin bins.Combine) r) = first_two r
  as_combine _ = None

  -- ---- functions

  -- `λ(x : t) → b`: x and b
  abbrev pub as_lambda : Tree A B → Option (B × Tree A B)
  as_lambda (Node ops.Lam (kid None t (kid (Some x) b r))) = Some (x, b)
  as_lambda _ = None

  abbrev pub as_app : Tree A B → Option (Tree A B × Tree A B)
  as_app (Node ops.App r) = first_two r
  as_app _ = None

  -- a built-in applied to arguments and then to these
  abbrev pub as_call_before : List (Tree A B) → Tree A B → Option (Builtin × List (Tree A B))
  as_call_before args (Node (ops.Builtin b) r) = Some (b, args)
  as_call_before args (Node ops.App (kid None f (kid None a r))) = as_call_before (a ∷ args) f
  as_call_before args _ = None

  -- a built-in applied to arguments
  abbrev pub as_call : Tree A B → Option (Builtin × List (Tree A B))
  as_call e = as_call_before [] e
