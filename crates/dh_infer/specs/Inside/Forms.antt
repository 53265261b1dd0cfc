-- What an expression is, as typing sees it.
use Rattle.std.specs.Prelude.{◌≡◌, ◌<◌, ℕ, suc, ℤ, Bool, true, false, List, ◌∷◌, Some, None, IsSome}
use Rattle.dh_syntax.specs.declared.expressions.Op.{Op}
use Rattle.dh_syntax.specs.declared.expressions.Op.TheVariants as ops
use Rattle.dh_syntax.specs.declared.operators.BinOp.TheVariants as bins
use Rattle.dh_syntax.specs.declared.operators.Builtin.{Builtin}
use Rattle.dh_syntax.specs.Expressions.Forms as form
use Rattle.dh_syntax.specs.Expressions.Tree.{Row, Leaf, Node, end, kid, Name}
use Rattle.dh_syntax.specs.Expressions.Views.{bodies}
use Rattle.dh_syntax.specs.Names.Nameless as ref
use Rattle.dh_syntax.specs.Names.Nameless.{Ref, Core, sub}
use Rattle.dh_syntax.specs.Typing.Inference.{Gives}
use Rattle.dh_infer.specs.declared.forms.Form.{Form}
use Rattle.dh_infer.specs.declared.forms.Form.TheVariants as forms
use Rattle.dh_infer.specs.Inside.OpenTyping.{level, typing_at}

-- whether a node with this operator has a rule of its own
abbrev pub has_own_rule : Op → Bool
has_own_rule (ops.Builtin b) = true
has_own_rule (ops.Bool b) = true
has_own_rule (ops.Nat n) = true
has_own_rule (ops.Int z) = true
has_own_rule ops.Lam = true
has_own_rule ops.Pi = true
has_own_rule (ops.Let b) = true
has_own_rule ops.App = true
has_own_rule (ops.Bin bins.Complete) = true
has_own_rule op = false

module _ (g : ℕ → Core) where
  -- these parts, the last one under a binder
  abbrev pub IsBinding : Row Ref Name → Name → ℕ → ℕ → Type 0
  IsBinding r x a b = r ≡ kid None (g a) (kid (Some x) (g b) end)

  abbrev pub IsTwiceBinding : Row Ref Name → ℕ → ℕ → ℕ → Type 0
  IsTwiceBinding r t a b = (x : Name) × (r ≡ kid None (g t) (kid None (g a) (kid (Some x) (g b) end)))

  -- these parts, none under a binder
  abbrev pub IsPair : Row Ref Name → ℕ → ℕ → Type 0
  IsPair r a b = r ≡ kid None (g a) (kid None (g b) end)

  -- the node with this operator and parts such as these
  abbrev pub IsNodeOf : Core → Op → (Row Ref Name → Type 0) → Type 0
  IsNodeOf e op parts = (r : Row Ref Name) × (e ≡ Node op r) × parts r

  abbrev pub IsForm : Core → Form → Type 0
  IsForm e (forms.Bound i) = e ≡ Leaf (ref.Bound i)
  IsForm e (forms.Level n) = e ≡ Leaf (level n)
  IsForm e forms.Free = (b : ℕ) × (x : Name) × (n : ℕ) × (e ≡ Leaf (ref.Free (b ∷ x) n))
  IsForm e (forms.Builtin b) = IsNodeOf e (ops.Builtin b) (λ r. Unit {0})
  IsForm e forms.Bool = (b : Bool) × IsNodeOf e (ops.Bool b) (λ r. Unit {0})
  IsForm e forms.Natural = (n : ℕ) × IsNodeOf e (ops.Nat n) (λ r. Unit {0})
  IsForm e forms.Integer = (z : ℤ) × IsNodeOf e (ops.Int z) (λ r. Unit {0})
  IsForm e (forms.Lambda x a b) = IsNodeOf e ops.Lam (λ r. IsBinding r x.now a b)
  IsForm e (forms.Forall x a b) = IsNodeOf e ops.Pi (λ r. IsBinding r x.now a b)
  IsForm e (forms.Let a b) = IsNodeOf e (ops.Let false) (λ r. (x : Name) × IsBinding r x a b)
  IsForm e (forms.LetTyped t a b) = IsNodeOf e (ops.Let true) (λ r. IsTwiceBinding r t a b)
  IsForm e (forms.Application f a) = IsNodeOf e ops.App (λ r. IsPair r f a)
  IsForm e (forms.Completion t r) = IsNodeOf e (ops.Bin bins.Complete) (λ q. IsPair q t r)
  IsForm e forms.Plain = (op : Op) × (has_own_rule op ≡ false) × IsNodeOf e op (λ r. IsSome (bodies r))

-- its parts are there
abbrev pub IsFormThere : ℕ → Form → Type 0
IsFormThere n (forms.Lambda x a b) = (a < n) × (b < n)
IsFormThere n (forms.Forall x a b) = (a < n) × (b < n)
IsFormThere n (forms.Let a b) = (a < n) × (b < n)
IsFormThere n (forms.LetTyped t a b) = (t < n) × (a < n) × (b < n)
IsFormThere n (forms.Application f a) = (f < n) × (a < n)
IsFormThere n (forms.Completion t r) = (t < n) × (r < n)
IsFormThere n form = Unit {0}

-- in every scope the type is this built-in
abbrev pub IsLiteral : Core → Builtin → Type 0
IsLiteral e b = (ts : List Core) (s : ℕ → Core) (d : ℕ) → typing_at ts (suc d) (sub s e) ≡ Gives (form.builtin b)
