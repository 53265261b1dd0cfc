-- Kept types at work, and where a law would be false.
use Rattle.std.specs.Prelude.{◌≡◌, ℕ, suc, true, List, [], ◌∷◌, Option, Some, None, option_map, option_and_then, codes, refl}
use Rattle.dh_syntax.specs.declared.expressions.Op.TheVariants as ops
use Rattle.dh_syntax.specs.declared.operators.BinOp.TheVariants as bins
use Rattle.dh_syntax.specs.declared.operators.Builtin.TheVariants as builtins
use Rattle.dh_syntax.specs.Typing.BuiltinTypes.{type_of}
use Rattle.dh_syntax.specs.Expressions.Forms as form
use Rattle.dh_syntax.specs.Expressions.Forms.{Fields, record_type}
use Rattle.dh_syntax.specs.Normalising.Heads.{Whole, run}
use Rattle.dh_syntax.specs.Typing.Inference.{Judgment, Has, Ill, IsOver, judged, judged_within}
use Rattle.dh_syntax.specs.Expressions.Labels.{field_at, prepend_field, all_fields}
use Rattle.dh_syntax.specs.Names.Nameless.{Ref, Bound, to_core, ren, sub, first, Core}
use Rattle.dh_syntax.specs.Normalising.NamelessRuns.{cores}
use Rattle.dh_syntax.specs.Typing.NamelessTyping.{core_scopes}
use Rattle.dh_syntax.specs.Normalising.Normal.{endless}
use Rattle.dh_syntax.specs.Expressions.Tree.{Row, Leaf, Node, end, kid, Name}
use Rattle.dh_syntax.specs.Typing.TypeRules as rule
use Rattle.dh_syntax.specs.Typing.TypeRulesRecords.{joined, joined_field}
use Rattle.dh_syntax.specs.Typing.Typing.{typing}
use Rattle.dh_syntax.specs.Expressions.Views.{as_record_type}
use Rattle.dh_laws.specs.NamelessAnswers.{answer_map}
use Rattle.dh_typing_laws.specs.KeptTypes.{Value, Coded, embed, meaning, cell_sub, held, kept_typing, Kept, Is, At, Unknown, answer}

abbrev core_kept : (Core → Kept Core) → ℕ → Coded Name → Judgment (Coded Name)
core_kept kept units d =
    judged (λ u e. answer_map embed (run (endless cores) 60 Whole u (meaning e))) 100 units
    (kept_typing (λ b. option_map to_core (type_of b)) (λ x. x) (λ depth c v. answer (kept v) (typing core_scopes depth c v)) 30 [] d)

abbrev plainly : ℕ → Core → Judgment Core
plainly units e = judged_within cores 60 100 units (typing core_scopes 30 [] e)

-- ---- `let f = λ(x : Natural) → x in [ f, f ]`, once f's value is normalised

abbrev natural : Core
natural = form.builtin builtins.Natural

abbrev identity : Core
identity = form.lambda (codes "x") natural (Leaf (Bound 0))

abbrev arrow : Core
arrow = form.forall (codes "x") natural natural

abbrev twice : Core
twice = form.list (Leaf (Bound 0) ∷ Leaf (Bound 0) ∷ [])

-- put in, it is typed twice: 4 + 4, and the type `List (∀(x : Natural) → Natural)` has 5 nodes
plain_twice : plainly 13 (sub (first identity) twice) ≡ Has (form.list_type arrow) 0
plain_twice = refl

plain_twice_over : plainly 12 (sub (first identity) twice) ≡ IsOver
plain_twice_over = refl

-- kept, its type costs nothing
kept_twice : core_kept (λ v. Is arrow) 5 (cell_sub (held identity) (embed twice)) ≡ Has (embed (form.list_type arrow)) 0
kept_twice = refl

-- not kept, the value is typed at each use
unknown_twice : core_kept (λ v. Unknown) 13 (cell_sub (held identity) (embed twice)) ≡ Has (embed (form.list_type arrow)) 0
unknown_twice = refl

-- ---- a value whose own typing fails: `1 + [ True + 1 ]` in `{ a = x }`

abbrev ill : Core
ill = form.operator bins.Plus (form.natural 1) (form.list (form.operator bins.Plus (form.bool true) (form.natural 1) ∷ []))

abbrev field : Core
field = Node (ops.Record (codes "a" ∷ [])) (kid None (Leaf (Bound 0)) end)

plain_ill : plainly 9 (sub (first ill) field) ≡ Ill (0 ∷ 1 ∷ 0 ∷ []) rule.LeftSide
plain_ill = refl

kept_ill : core_kept (λ v. At (1 ∷ 0 ∷ []) rule.LeftSide) 9 (cell_sub (held ill) (embed field)) ≡ Ill (0 ∷ 1 ∷ 0 ∷ []) rule.LeftSide
kept_ill = refl

-- ---- where substitution would be FALSE: an annotation that is a variable with the value `Sort`

abbrev empty : Core
empty = form.empty_list (Leaf (Bound 0))

-- put in, the annotation is the constant `Sort`, which is not typed, and the rule fails at the root
put_sort : plainly 9 (sub (first (form.builtin builtins.Sort)) empty) ≡ Ill [] rule.EmptyListAnnotation
put_sort = refl

-- kept as any other value, it is typed and has no type
kept_sort : core_kept (λ v. At [] rule.SortHasNoType) 9 (form.empty_list (Leaf (Value (form.builtin builtins.Sort)))) ≡ Ill (0 ∷ []) rule.SortHasNoType
kept_sort = refl

-- so `held` puts this one value in
held_sort : core_kept (λ v. At [] rule.SortHasNoType) 9 (cell_sub (held (form.builtin builtins.Sort)) (embed empty)) ≡ Ill [] rule.EmptyListAnnotation
held_sort = refl

-- ---- where all three laws would be FALSE: joining record types that looks past a binder, on a node that is not well formed

abbrev mutual
  past : Core → Core → Option Core
  past (Node (ops.RecordType xs) r) u = option_and_then (λ gs. option_map (λ fs. record_type (all_fields (λ d e. d) fs gs)) (past_fields r xs gs)) (as_record_type u)
  past _ u = None

  past_fields : Row Ref Name → List Name → Fields Ref Name → Option (Fields Ref Name)
  past_fields end xs gs = Some []
  past_fields (kid b t r) (x ∷ xs) gs = prepend_field x (joined_field (λ u. past t u) t (field_at x gs)) (past_fields r xs gs)
  past_fields (kid b t r) [] gs = None

-- a record type whose part stands under a binder, and mentions it
abbrev bad : Core
bad = Node (ops.RecordType (codes "a" ∷ [])) (kid (Some (codes "y")) (Leaf (Bound 0)) end)

renamed_first : past (ren (λ k. suc k) bad) (record_type []) ≡ Some (record_type ((codes "a", Leaf (Bound 0)) ∷ []))
renamed_first = refl

joined_first : option_map (ren (λ k. suc k)) (past bad (record_type [])) ≡ Some (record_type ((codes "a", Leaf (Bound 1)) ∷ []))
joined_first = refl

-- it stops there
stops : joined bad (record_type []) ≡ None
stops = refl
