-- Typing of expressions with names, and the faults that may be answered
-- (the standard's "Type inference"; units, heights and limits are this project's own).
use Rattle.std.specs.Prelude.{◌≡◌, ℕ, zero, suc, List, [], ◌∷◌, Option, Some, None, if◌then◌else◌, ⊤}
use Rattle.dh_syntax.specs.declared.faults.NormFault.{NormFault}
use Rattle.dh_syntax.specs.declared.faults.NormFault.TheVariants as limit
use Rattle.dh_syntax.specs.declared.faults.TypeFault.{TypeFault}
use Rattle.dh_syntax.specs.declared.faults.TypeFault.TheVariants as fault
use Rattle.dh_syntax.specs.Names.Alpha.{same}
use Rattle.dh_syntax.specs.Typing.BuiltinTypes.{type_of}
use Rattle.dh_syntax.specs.Typing.Inference.{Judgment, Has, Ill, judged_within, plainly_judged, ComesTo, IsLicensedIn}
use Rattle.dh_syntax.specs.Normalising.Named.{names, put}
use Rattle.dh_syntax.specs.Expressions.Nesting.{nesting}
use Rattle.dh_syntax.specs.Expressions.Numbers.{bytes_eq}
use Rattle.dh_syntax.specs.Typing.Scopes.{Scopes, Context}
use Rattle.dh_syntax.specs.Names.Subst.{shift_up, shift_down, is_free}
use Rattle.dh_syntax.specs.Expressions.Tree.{Name, Var, Term}
use Rattle.dh_syntax.specs.Typing.TypeRules.{Rule, rule_number}
use Rattle.dh_syntax.specs.Typing.Typing.{typing}

-- ---- names

-- the type of `x@n`
abbrev pub type_in : Context Var Name → Name → ℕ → Option Term
type_in [] x n = None
type_in ((y, t) ∷ context) x zero = if bytes_eq y x then Some t else type_in context x zero
type_in ((y, t) ∷ context) x (suc n) = if bytes_eq y x then type_in context x n else type_in context x (suc n)

-- an expression that stands below a binder of x, seen from outside
abbrev pub down : Name → Term → Option Term
down x e = if is_free x 0 e then None else Some (shift_down x 0 e)

-- what typing does with the variables and binders of named expressions
abbrev pub scopes : Scopes Var Name
scopes = record {
  type_of = type_of;
  type_in = λ context v. type_in context v.name v.index;
  binder = λ x. x;
  up = λ x e. shift_up x 0 e;
  down = down;
  put = put;
  same = same;
}

-- ---- judgments

-- what typing comes to with so many heights for each normalising, such a purse for each typing aside, so much depth and
-- so many units
abbrev pub infer : ℕ → ℕ → ℕ → Context Var Name → ℕ → Term → Judgment Term
infer heights purse depth context units e = judged_within names heights purse units (typing scopes depth context e)

-- the same over the plain normaliser, which ends by height and nesting
abbrev pub plain_infer : ℕ → ℕ → Context Var Name → ℕ → Term → Judgment Term
plain_infer purse depth context units e = plainly_judged names nesting purse units (typing scopes depth context e)

-- with so many units e comes to this judgment, where the heights, the purse and the depth suffice
abbrev pub Infers : Context Var Name → ℕ → Term → Judgment Term → Type 0
Infers context units e judgment = (depth : ℕ) × ComesTo names units (typing scopes depth context e) judgment

-- the same over the plain normaliser
abbrev pub PlainlyInfers : Context Var Name → ℕ → Term → Judgment Term → Type 0
PlainlyInfers context units e judgment = (purse : ℕ) × (depth : ℕ) × (plain_infer purse depth context units e ≡ judgment)

-- e has the type t, which n units suffice to find and no fewer
abbrev pub HasType : Context Var Name → Term → Term → ℕ → Type 0
HasType context e t n = Infers context n e (Has t 0)

-- ---- faults

-- the first place of e where no type can be derived is the path, by the rule with this number; so it is with some number
-- of units
abbrev pub IsIll : Context Var Name → Term → List ℕ → ℕ → Type 0
IsIll context e path number = (rule : Rule) × (units : ℕ) × Infers context units e (Ill path rule) × (number ≡ rule_number rule)

-- the limit may be answered for the typing of e with so many units
abbrev pub IsTypeLimit : Context Var Name → ℕ → Term → NormFault → Type 0
IsTypeLimit context units e fault = (depth : ℕ) × IsLicensedIn names nesting units (typing scopes depth context e) fault

-- the fault may be answered for the typing of e with so many units, of which only `Spent` speaks
abbrev pub IsTypeFault : Context Var Name → ℕ → Term → TypeFault → Type 0
IsTypeFault context units e (fault.Ill ill) = IsIll context e ill.path ill.rule
IsTypeFault context units e fault.Wide = IsTypeLimit context units e limit.Wide
IsTypeFault context units e fault.Spent = IsTypeLimit context units e limit.Spent
IsTypeFault context units e fault.Deep = IsTypeLimit context units e limit.Deep
IsTypeFault context units e fault.Memory = ⊤
