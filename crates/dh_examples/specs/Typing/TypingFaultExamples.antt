-- Faults of typing, each with what it may be answered for.
use Rattle.std.specs.Prelude.{◌≡◌, refl, ℕ, zero, suc, Bool, true, false, ◌-◌, ◌^◌, [], ◌∷◌}
use Rattle.std.proofs.Common.{ap, sym, ◌∙◌, inl, inr}
use Rattle.dh_syntax.specs.declared.faults.TypeFault.TheVariants as fault
use Rattle.dh_syntax.specs.Names.Alpha.{alpha}
use Rattle.dh_syntax.specs.Expressions.Forms.{natural, app, let_in, lambda}
use Rattle.dh_syntax.specs.Typing.Inference.{Judgment, Has, IsOver}
use Rattle.dh_syntax.specs.Typing.NamedTyping.{infer, HasType, IsTypeFault}
use Rattle.dh_syntax.specs.Typing.Scopes.{Context}
use Rattle.dh_syntax.specs.Expressions.Tree.{Name, Var, Term}
use Rattle.dh_examples.specs.Vocabulary.{bool_type, natural_type, one, plus, true_literal, var, x, y, ◌⟶◌}
use Rattle.dh_syntax.specs.Typing.TypeRules as rule

-- `let x = 1 + 1 in x`, where the value costs 2
typed : HasType [] (let_in x (plus one one) (var x 0)) natural_type 2
typed = (3, (10, 0, refl))

-- `λ(x : Bool) → x + 1`
ill : IsTypeFault [] 1 (lambda x bool_type (plus (var x 0) one)) (fault.Ill (record { path = 1 ∷ []; rule = 13 }))
ill = (rule.LeftSide, 1, (5, (10, 0, refl)), refl)

-- `let x = 1 + 1 in x + True` whatever the units: with 2 the value has a normal form
ill_without_units : (units : ℕ) → IsTypeFault [] units (let_in x (plus one one) (plus (var x 0) true_literal)) (fault.Ill (record { path = 1 ∷ []; rule = 14 }))
ill_without_units units = (rule.RightSide, 2, (5, (10, 0, refl)), refl)

-- `let x = 1 + 1 in x` with 1 unit, and it is not over with 2
spent : IsTypeFault [] 1 (let_in x (plus one one) (var x 0)) fault.Spent
spent = (3, inl (10, 0, refl))

-- whether the units have run out
abbrev is_over : Judgment Term → Bool
is_over IsOver = true
is_over _ = false

enough : (depth heights purse : ℕ) → is_over (infer heights purse depth [] 2 (let_in x (plus one one) (var x 0))) ≡ false
enough zero heights purse = refl
enough (suc zero) heights purse = refl
enough (suc (suc zero)) heights purse = refl
enough (suc (suc (suc depth))) zero purse = refl
enough (suc (suc (suc depth))) (suc zero) purse = refl
enough (suc (suc (suc depth))) (suc (suc heights)) purse = refl

-- `let x = 340282366920938463463374607431768211455 + 1 in x` without units: with one unit the sum is too wide
wide : IsTypeFault [] 0 (let_in x (plus (natural (2 ^ 128 - 1)) one) (var x 0)) fault.Wide
wide = (3, inr (natural_type, (0, 0, (10, 0, refl)), inl (1, 0, (10, refl))))

-- `let y = 1 + 1 in let x = 340282366920938463463374607431768211455 + 1 in x` without units: y's value costs 2
wide_after : IsTypeFault [] 0 (let_in y (plus one one) (let_in x (plus (natural (2 ^ 128 - 1)) one) (var x 0))) fault.Wide
wide_after = (4, inr (natural_type, (0, 0, (10, 0, refl)), inr (natural 2, (2, 0, (10, refl)), inl (inr (natural_type, (0, 0, (10, 0, refl)), inl (1, 0, (10, refl)))))))

-- `let x = 340282366920938463463374607431768211455 + 1 in 1`: the value is normalised though nothing uses it. So there is no
-- type, whatever the units, and that a number is too wide may be answered.
abbrev unused : Term
unused = let_in x (plus (natural (2 ^ 128 - 1)) one) one

unused_wide : (units : ℕ) → IsTypeFault [] units unused fault.Wide
unused_wide units = (3, inr (natural_type, (0, 0, (10, 0, refl)), inl (1, 0, (10, refl))))

-- whether a type was derived
abbrev is_type : Judgment Term → Bool
is_type (Has t left) = true
is_type _ = false

no_type : (depth heights purse units : ℕ) → is_type (infer heights purse depth [] units unused) ≡ false
no_type zero heights purse units = refl
no_type (suc zero) heights purse units = refl
no_type (suc (suc zero)) heights purse units = refl
no_type (suc (suc (suc depth))) zero purse units = refl
no_type (suc (suc (suc depth))) (suc zero) purse zero = refl
no_type (suc (suc (suc depth))) (suc zero) purse (suc units) = refl
no_type (suc (suc (suc depth))) (suc (suc heights)) purse zero = refl
no_type (suc (suc (suc depth))) (suc (suc heights)) purse (suc units) = refl

unused_untyped : (t : Term) (units : ℕ) → HasType [] unused t units → ⊥
unused_untyped t units (depth, (heights, purse, has)) = let contrary : true ≡ false = sym (ap is_type has) ∙ no_type depth heights purse units in absurd cc

-- x is a function on Natural, and y is a Natural
abbrev context : Context Var Name
context = (x, natural_type ⟶ natural_type) ∷ (y, natural_type) ∷ []

-- `x (x .. y)` with n times x
abbrev calls : ℕ → Term
calls zero = var y 0
calls (suc n) = app (var x 0) (calls n)

-- `let x = x (x .. y) in 1` with 501 times x: the value has a type, and then it nests 501 deep in its normal form
deep : IsTypeFault context 0 (let_in x (calls 501) one) fault.Deep
unfolding alpha
deep = (503, inr (natural_type, (501, 0, (10, 0, refl)), inl (inr (inr (calls 501, (1003, 0, (502, refl)), refl)))))
