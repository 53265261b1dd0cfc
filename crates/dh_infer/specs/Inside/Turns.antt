-- Which part of a node is typed next.
use Rattle.std.specs.Prelude.{◌≡◌, ◌<◌, ◌&&◌, ℕ, Bool, true, false, List, [], Option, Some, None, option_map, slice_get}
use Rattle.dh_syntax.specs.declared.expressions.Op.{Op}
use Rattle.dh_syntax.specs.declared.operators.Builtin.TheVariants as builtins
use Rattle.dh_syntax.specs.Expressions.Tree.{Name}
use Rattle.dh_syntax.specs.Names.Nameless.{Ref, Core}
use Rattle.dh_syntax.specs.Typing.Inference.{Inference}
use Rattle.dh_syntax.specs.Typing.NamelessTyping.{core_scopes}
use Rattle.dh_syntax.specs.Typing.Scopes.{Context}
use Rattle.dh_syntax.specs.Typing.Typing as typings
use Rattle.dh_syntax.specs.Typing.TypeViews.{is_constant}
use Rattle.dh_store.specs.declared.codes.CodeKid.{CodeKid}
use Rattle.dh_store.specs.declared.codes.Codes.{Codes}
use Rattle.dh_store.specs.Growth.{count}
use Rattle.dh_types.specs.Shown.{IsNode}
use Rattle.dh_infer.specs.declared.frames.Entry.{Entry}
use Rattle.dh_infer.specs.declared.parts.Turn.{Turn}
use Rattle.dh_infer.specs.declared.parts.Turn.TheVariants as turns
use Rattle.dh_infer.specs.Inside.Scopes.{Models, in_scope}

-- whether the part `at` of a node with this operator is an annotation
abbrev pub IsAnnotation : Op → ℕ → Bool → Type 0
IsAnnotation op at b = (below : Context Ref Name → Core → Inference Core) → typings.is_annotation core_scopes below [] op at ≡ b

-- the part is an annotation that is the constant `Sort` in the scope, or it is none
abbrev pub IsUntyped : Codes → List Entry → Op → ℕ → ℕ → Bool → Type 0
IsUntyped cs es op at c b =
    (g : ℕ → Core) → Models cs g → (below : Context Ref Name → Core → Inference Core)
    → (typings.is_annotation core_scopes below [] op at && is_constant builtins.Sort (in_scope g es c)) ≡ b

-- what is done with the part `at` of a node with this operator and these parts
abbrev pub IsTurnOf : Codes → List Entry → Op → List CodeKid → ℕ → Turn → Type 0
IsTurnOf cs es op ks at turns.Done = slice_get ks at ≡ None
IsTurnOf cs es op ks at turns.Skip = (c : CodeKid) × (slice_get ks at ≡ Some c) × IsUntyped cs es op at c.code true
IsTurnOf cs es op ks at (turns.Type p) = (c : CodeKid) × (slice_get ks at ≡ Some c) × (c.code ≡ p) × (p < count cs) × IsUntyped cs es op at p false

-- what is done with the part `at` of a code
abbrev pub IsTurn : Codes → List Entry → ℕ → ℕ → Turn → Type 0
IsTurn cs es k at turn = (op : Op) × (ks : List CodeKid) × IsNode cs k op ks × IsTurnOf cs es op ks at turn

-- the part with this number, of these
abbrev pub code_at : List CodeKid → ℕ → Option ℕ
code_at ks at = option_map (λ (k : CodeKid). k.code) (slice_get ks at)
