-- Typing (the standard's "Type inference").
--
-- The parts of an expression are typed from left to right, and then the checks of its rule follow in their order; what
-- fails there fails at the expression itself. The normal forms that a rule needs are taken where it needs them, and a
-- type that a rule makes is normalised again. A `let` is typed as its body with the normal form of the value in the
-- place of the variable, so a place in it is one of that body.
use Rattle.std.specs.Prelude.{ℕ, zero, suc, Bool, true, false, ◌&&◌, List, [], ◌∷◌, Option, Some, None, codes, option_and_then, slice_get, if◌then◌else◌}
use Rattle.dh_syntax.specs.declared.expressions.Op.{Op}
use Rattle.dh_syntax.specs.declared.expressions.Op.TheVariants as ops
use Rattle.dh_syntax.specs.declared.operators.BinOp.TheVariants as bins
use Rattle.dh_syntax.specs.declared.operators.Builtin.TheVariants as builtins
use Rattle.dh_syntax.specs.Expressions.Forms as form
use Rattle.dh_syntax.specs.Typing.Inference.{Inference, Gives, Fails, Deeper, FromNormal, FromPart, Aside, Instead}
use Rattle.dh_syntax.specs.Typing.Scopes.{Scopes, Context, enter}
use Rattle.dh_syntax.specs.Expressions.Tree.{Tree, Row, Leaf, Node, end, kid}
use Rattle.dh_syntax.specs.Typing.TypeRules as rule
use Rattle.dh_syntax.specs.Typing.TypeRules.{Rule}
use Rattle.dh_syntax.specs.Typing.TypeRulesOperators.{operator_ruling}
use Rattle.dh_syntax.specs.Typing.TypeRulesUnions.{record_ruling}
use Rattle.dh_syntax.specs.Typing.TypeRuling.{prepend_type, Ruling, Takes, Forms, Refuses, WithNormal, WithUniverse}
use Rattle.dh_syntax.specs.Typing.TypeViews.{first_of, is_constant, as_forall}
use Rattle.dh_syntax.specs.Typing.Universes.{as_universe, function_check}
use Rattle.dh_syntax.specs.Expressions.Views.{bodies}

module _ {T : Type 0} where
  -- what follows if an expression has a form; the rule fails if not
  abbrev pub given_form : {X : Type 0} → Option X → Rule → (X → Inference T) → Inference T
  given_form (Some x) rule next = next x
  given_form None rule next = Fails rule

  -- the type, where there is one
  abbrev pub given_type : Option T → Rule → Inference T
  given_type (Some t) rule = Gives t
  given_type None rule = Fails rule

-- In the following, `below` is typing in a context, with one less of depth.
module _ {A B : Type 0} (S : Scopes A B) (below : Context A B → Tree A B → Inference (Tree A B)) (context : Context A B) where
  -- ---- rules on nodes whose parts are typed

  -- what a rule answers, where the parts are these and have these types (a part that is not there fails as the last rule
  -- does: no node that has its parts comes to that)
  abbrev pub settled : List (Tree A B) → List (Tree A B) → Ruling (Tree A B) → Inference (Tree A B)
  settled es ts (Takes t) = Gives t
  settled es ts (Forms t) = FromNormal t (λ f. Gives f)
  settled es ts (Refuses rule) = Fails rule
  settled es ts (WithNormal k next) = given_form (slice_get es k) rule.NotResolved (λ e. FromNormal e (λ f. settled es ts (next f)))
  settled es ts (WithUniverse k next) =
      given_form (slice_get ts k) rule.NotResolved (λ t. Aside (below context t) (λ u. settled es ts (next (option_and_then as_universe u))))

  -- whether the part k is an annotation
  abbrev pub is_annotation : Op → ℕ → Bool
  is_annotation (ops.Let true) zero = true
  is_annotation ops.EmptyList zero = true
  is_annotation ops.Annot (suc zero) = true
  is_annotation (ops.ToMap true) (suc zero) = true
  is_annotation (ops.Merge true) (suc (suc zero)) = true
  is_annotation op k = false

  -- what follows from the type of the part k, by whether it has none
  abbrev pub unless_untyped : Bool → ℕ → Tree A B → (Option (Tree A B) → Inference (Tree A B)) → Inference (Tree A B)
  unless_untyped true k e next = next None
  unless_untyped false k e next = FromPart k (below context e) (λ t. next (Some t))

  -- what follows from the type of the part k; an annotation that is the constant `Sort` has none and is not typed
  abbrev pub from_part : Op → ℕ → Tree A B → (Option (Tree A B) → Inference (Tree A B)) → Inference (Tree A B)
  from_part op k e next = unless_untyped (is_annotation op k && is_constant builtins.Sort e) k e next

  -- what follows from the types of the parts, the first of which has the number k
  abbrev pub from_parts : Op → ℕ → List (Tree A B) → (List (Tree A B) → Inference (Tree A B)) → Inference (Tree A B)
  from_parts op k [] next = next []
  from_parts op k (e ∷ es) next = from_part op k e (λ t. from_parts op (suc k) es (λ ts. next (prepend_type t ts)))

  -- a node with the parts es by the rule that belongs to it
  abbrev pub grouped : Op → List (Tree A B) → Inference (Tree A B)
  grouped op es =
      from_parts op 0 es (λ ts.
      given_form (first_of (operator_ruling S op ts) (record_ruling S op ts)) rule.NotResolved (λ r.
      settled es ts r))

  -- ---- rules that stand for themselves

  -- `λ(x : a) → b`
  abbrev pub lambda : B → Tree A B → Tree A B → Inference (Tree A B)
  lambda x a b =
      FromPart 0 (below context a) (λ c.
      given_form (as_universe c) rule.LambdaDomain (λ u.
      FromNormal a (λ a'.
      FromPart 1 (below (enter S x a' context) b) (λ t.
      if is_constant builtins.Sort t then Fails rule.LambdaBody else FromNormal (form.forall x a' t) (λ f. Gives f)))))

  -- `∀(x : a) → b`
  abbrev pub forall : B → Tree A B → Tree A B → Inference (Tree A B)
  forall x a b =
      FromPart 0 (below context a) (λ c.
      given_form (as_universe c) rule.ForallDomain (λ u.
      FromNormal a (λ a'.
      FromPart 1 (below (enter S x a' context) b) (λ d.
      given_form (as_universe d) rule.ForallRange (λ v.
      Gives (form.builtin (function_check u v)))))))

  -- `f a`
  abbrev pub application : Tree A B → Tree A B → Inference (Tree A B)
  application f a =
      FromPart 0 (below context f) (λ t.
      FromPart 1 (below context a) (λ u.
      given_form (as_forall t) rule.NoFunction (λ (d, x, b).
      if S.same u d then FromNormal (S.put x a b) (λ r. Gives r) else Fails rule.WrongArgument)))

  -- the body b, which is the part k, with the normal form of a for its variable
  abbrev pub let_body : ℕ → B → Tree A B → Tree A B → Inference (Tree A B)
  let_body k x a b = FromNormal a (λ a'. FromPart k (below context (S.put x a' b)) (λ t. Gives t))

  -- `let x = a in b`
  abbrev pub let_in : B → Tree A B → Tree A B → Inference (Tree A B)
  let_in x a b = FromPart 0 (below context a) (λ t. let_body 1 x a b)

  -- `let x : t = a in b`
  abbrev pub let_typed : B → Tree A B → Tree A B → Tree A B → Inference (Tree A B)
  let_typed x t a b =
      from_part (ops.Let true) 0 t (λ c.
      FromPart 1 (below context a) (λ u.
      FromNormal t (λ t'.
      if S.same u t' then let_body 2 x a b else Fails rule.LetAnnotation)))

  -- `t::r`, which stands for `(t.default ⫽ r) : t.Type`
  abbrev pub completion : Tree A B → Tree A B → Inference (Tree A B)
  completion t r =
      FromPart 0 (below context t) (λ c.
      FromPart 1 (below context r) (λ d.
      Instead (below context (form.annotation (form.operator bins.Prefer (form.field t (codes "default")) r) (form.field t (codes "Type")))) rule.CompletionHasNoType))

  -- ---- an expression

  -- a node by its form; a form without a rule of its own has that of its group, and an import and `?` have none
  abbrev pub node : Op → Row A B → Inference (Tree A B)
  node (ops.Builtin b) r = given_type (S.type_of b) rule.SortHasNoType
  node (ops.Bool b) r = Gives (form.builtin builtins.Bool)
  node (ops.Nat n) r = Gives (form.builtin builtins.Natural)
  node (ops.Int z) r = Gives (form.builtin builtins.Integer)
  node ops.Lam (kid None a (kid (Some x) b end)) = lambda x a b
  node ops.Pi (kid None a (kid (Some x) b end)) = forall x a b
  node (ops.Let false) (kid None a (kid (Some x) b end)) = let_in x a b
  node (ops.Let true) (kid None t (kid None a (kid (Some x) b end))) = let_typed x t a b
  node ops.App (kid None f (kid None a end)) = application f a
  node (ops.Bin bins.Complete) (kid None t (kid None r end)) = completion t r
  node op r = given_form (bodies r) rule.NotResolved (λ es. grouped op es)

  -- an expression by its form
  abbrev pub expression : Tree A B → Inference (Tree A B)
  expression (Leaf a) = given_type (S.type_in context a) rule.UnboundVariable
  expression (Node op r) = node op r

-- The typing of an expression in a context. An expression that is typed for the type of another one stands one deeper than
-- that one; so much depth is enough or the inference says that it is not.
abbrev pub typing : {A B : Type 0} → Scopes A B → ℕ → Context A B → Tree A B → Inference (Tree A B)
typing S zero context e = Deeper
typing S (suc depth) context e = expression S (typing S depth) context e
