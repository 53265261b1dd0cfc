-- What follows in the typing of a node once a part is typed.
use Rattle.std.specs.Prelude.{◌≡◌, ℕ, zero, suc, List, [], ◌∷◌, ◌++◌, map, drop, Option, Some, None, codes, option_map, option_and_then, if◌then◌else◌}
use Rattle.dh_syntax.specs.declared.expressions.Op.{Op}
use Rattle.dh_syntax.specs.declared.expressions.Op.TheVariants as ops
use Rattle.dh_syntax.specs.declared.operators.BinOp.TheVariants as bins
use Rattle.dh_syntax.specs.declared.operators.Builtin.{Builtin}
use Rattle.dh_syntax.specs.declared.operators.Builtin.TheVariants as builtins
use Rattle.dh_syntax.specs.Expressions.Forms as form
use Rattle.dh_syntax.specs.Expressions.Tree.{Leaf, Node, Name}
use Rattle.dh_syntax.specs.Expressions.Views.{bodies}
use Rattle.dh_syntax.specs.Names.Nameless.{Core, sub, first}
use Rattle.dh_syntax.specs.Normalising.NamelessRuns.{nameless_eq}
use Rattle.dh_syntax.specs.Typing.Inference.{Gives, Fails, FromNormal, FromPart, Instead}
use Rattle.dh_syntax.specs.Typing.NamelessTyping.{core_scopes}
use Rattle.dh_syntax.specs.Typing.Scopes.{enter}
use Rattle.dh_syntax.specs.Typing.TypeRules as rule
use Rattle.dh_syntax.specs.Typing.TypeRulesOperators.{operator_ruling}
use Rattle.dh_syntax.specs.Typing.TypeRulesUnions.{record_ruling}
use Rattle.dh_syntax.specs.Typing.TypeRuling as ruling
use Rattle.dh_syntax.specs.Typing.TypeRuling.{Ruling}
use Rattle.dh_syntax.specs.Typing.TypeViews.{first_of, is_constant, as_forall}
use Rattle.dh_syntax.specs.Typing.Typing as typings
use Rattle.dh_syntax.specs.Typing.Typing.{given_form}
use Rattle.dh_syntax.specs.Typing.Universes.{as_universe, function_check}
use Rattle.dh_types.specs.declared.steps.Found.{Found}
use Rattle.dh_types.specs.declared.steps.Step.{Step}
use Rattle.dh_types.specs.Following.{Facts, follow, facts_of, course_of}
use Rattle.dh_infer.specs.Inside.Debts.{Family}
use Rattle.dh_infer.specs.Inside.OpenTyping.{typing_in, typing_at}

-- ---- nodes with the rule of a group

-- the operator of a node; a variable has that of application, which is not used
abbrev pub op_of : Core → Op
op_of (Node op r) = op
op_of (Leaf r) = ops.App

-- the expressions, or none where there are none
abbrev pub those : Option (List Core) → List Core
those (Some es) = es
those None = []

-- the parts of a node that stand under no binder, none where one of them does
abbrev pub bodies_of : Core → List Core
bodies_of (Node op r) = those (bodies r)
bodies_of (Leaf r) = []

-- how far a rule goes on what is known
abbrev pub reached : {X : Type 0} → Ruling Core → Option X → (X → Ruling Core) → Ruling Core
reached here (Some x) after = after x
reached here None after = here

-- how far a ruling goes on the normal forms and universes that are known
abbrev pub reach : Facts Core → Ruling Core → Ruling Core
reach facts (ruling.Takes t) = ruling.Takes t
reach facts (ruling.Forms t) = ruling.Forms t
reach facts (ruling.Refuses r) = ruling.Refuses r
reach facts (ruling.WithNormal k next) = reached (ruling.WithNormal k next) (facts.normal k) (λ e. reach facts (next e))
reach facts (ruling.WithUniverse k next) = reached (ruling.WithUniverse k next) (facts.universe k) (λ u. reach facts (next u))

-- the ruling for a node whose parts have these types, by the rules of operators and then of records
abbrev pub rule_of : Op → List Core → Option (Ruling Core)
rule_of op us = first_of (operator_ruling core_scopes op us) (record_ruling core_scopes op us)

-- how far a step goes on the rule of a node whose parts have these types; none for a node without a rule
abbrev pub IsStepOf : (ℕ → Core) → ℕ → List ℕ → Found → Option Step → Type 0
IsStepOf g k us found o = option_map (course_of g) o ≡ option_map (follow (facts_of g found)) (rule_of (op_of (g k)) (map g us))

-- what `t::r` stands for: `(t.default ⫽ r) : t.Type`
abbrev pub longer : Core → Core → Core
longer t r = form.annotation (form.operator bins.Prefer (form.field t (codes "default")) r) (form.field t (codes "Type"))

-- ---- what follows

module _ (ts : List Core) where
  -- ---- application

  abbrev pub argument_next : Core → Core → Core → Family
  argument_next t a u d =
      given_form (as_forall t) rule.NoFunction (λ (domain, x, b).
      if nameless_eq u domain then FromNormal (sub (first a) b) (λ r. Gives r) else Fails rule.WrongArgument)

  abbrev pub function_next : Core → Core → Family
  function_next a t d = FromPart 1 (typing_at ts d a) (λ u. argument_next t a u d)

  -- ---- λ and ∀

  abbrev pub lambda_body_next : Name → Core → Core → Family
  lambda_body_next x a t d = if is_constant builtins.Sort t then Fails rule.LambdaBody else FromNormal (form.forall x a t) (λ f. Gives f)

  abbrev pub lambda_domain_next : Name → Core → Core → Core → Family
  lambda_domain_next x a b c d =
      given_form (as_universe c) rule.LambdaDomain (λ u.
      FromNormal a (λ e. FromPart 1 (typing_in ts d (enter core_scopes x e []) b) (λ t. lambda_body_next x e t d)))

  abbrev pub range_next : Builtin → Core → Family
  range_next u c d = given_form (as_universe c) rule.ForallRange (λ v. Gives (form.builtin (function_check u v)))

  abbrev pub forall_domain_next : Name → Core → Core → Core → Family
  forall_domain_next x a b c d =
      given_form (as_universe c) rule.ForallDomain (λ u.
      FromNormal a (λ e. FromPart 1 (typing_in ts d (enter core_scopes x e []) b) (λ t. range_next u t d)))

  -- ---- `let`

  abbrev pub let_body : ℕ → Core → Core → Family
  let_body k a b d = FromNormal a (λ e. FromPart k (typing_at ts d (sub (first e) b)) (λ t. Gives t))

  abbrev pub value_next : Core → Core → Core → Family
  value_next a b t d = let_body 1 a b d

  abbrev pub let_value_next : Core → Core → Core → Core → Family
  let_value_next t a b u d = FromNormal t (λ e. if nameless_eq u e then let_body 2 a b d else Fails rule.LetAnnotation)

  abbrev pub let_annotation_next : Core → Core → Core → Core → Family
  let_annotation_next t a b c d = FromPart 1 (typing_at ts d a) (λ u. let_value_next t a b u d)

  -- ---- `t::r`

  abbrev pub completed : Core → Core → Core → Family
  completed t r u d = Instead (typing_at ts d (longer t r)) rule.CompletionHasNoType

  abbrev pub completion_next : Core → Core → Core → Family
  completion_next t r c d = FromPart 1 (typing_at ts d r) (λ u. completed t r u d)

  -- ---- a node by the rule of its group

  abbrev pub settled_by : List Core → List Core → Ruling Core → Family
  settled_by es us r d = typings.settled core_scopes (typing_in ts d) [] es us r

  -- the rule of a node whose parts have these types
  abbrev pub ruled : Core → List Core → Family
  ruled e us d = given_form (rule_of (op_of e) us) rule.NotResolved (λ r. settled_by (bodies_of e) us r d)

  -- the same from where what is known leads
  abbrev pub rule_next : Core → List Core → Facts Core → Family
  rule_next e us facts d = given_form (rule_of (op_of e) us) rule.NotResolved (λ r. settled_by (bodies_of e) us (reach facts r) d)

  -- the parts of a node from the place k on, where those before have these types
  abbrev pub parts_next : Core → ℕ → List Core → Family
  parts_next e k us d = typings.from_parts core_scopes (typing_in ts d) [] (op_of e) k (drop k (bodies_of e)) (λ vs. ruled e (us ++ vs) d)

  abbrev pub part_next : Core → ℕ → List Core → Core → Family
  part_next e k us t = parts_next e (suc k) (us ++ t ∷ [])

-- the universe of a part, beside what was found before
abbrev pub with_universe : Found → ℕ → Option Builtin → Found
with_universe found zero u = record found { first_universe = Some u }
with_universe found (suc zero) u = record found { second_universe = Some u }
with_universe found (suc (suc k)) u = found

-- the normal form of a part, beside what was found before
abbrev pub with_normal : Found → ℕ → ℕ → Found
with_normal found zero c = record found { first = Some c }
with_normal found (suc zero) c = record found { second = Some c }
with_normal found (suc (suc zero)) c = record found { third = Some c }
with_normal found (suc (suc (suc k))) c = found

-- what follows from the type of the type of a part, if it has one
abbrev pub universe_next : (ℕ → Core) → List Core → Core → ℕ → List Core → Found → Option Core → Family
universe_next g ts e k us found o = rule_next ts e us (facts_of g (with_universe found k (option_and_then as_universe o)))
