-- α-normal forms that were worked out by hand.
use Rattle.std.specs.Prelude.{◌≡◌, true, false, codes, refl}
use Rattle.dh_examples.specs.Vocabulary.{bool_type, plus, var, x, y}
use Rattle.dh_syntax.specs.Expressions.Forms.{forall, lambda, let_in, let_typed, natural}
use Rattle.dh_syntax.specs.Names.Alpha.{alpha, same, blank}

blank_name : blank ≡ codes "_"
blank_name = refl

-- `λ(y : Bool) → y@1` is `λ(_ : Bool) → y`: no binder of y is left above the free y
alpha_free : alpha (lambda y bool_type (var y 1)) ≡ lambda blank bool_type (var y 0)
unfolding alpha
alpha_free = refl

-- `λ(x : Bool) → λ(x : Bool) → x@1` is `λ(_ : Bool) → λ(_ : Bool) → _@1`
alpha_same_name : alpha (lambda x bool_type (lambda x bool_type (var x 1))) ≡ lambda blank bool_type (lambda blank bool_type (var blank 1))
unfolding alpha
alpha_same_name = refl

-- `λ(x : Bool) → λ(y : Bool) → x + y` is `λ(_ : Bool) → λ(_ : Bool) → _@1 + _`
alpha_other_name : alpha (lambda x bool_type (lambda y bool_type (plus (var x 0) (var y 0)))) ≡ lambda blank bool_type (lambda blank bool_type (plus (var blank 1) (var blank 0)))
unfolding alpha
alpha_other_name = refl

-- `λ(x : Bool) → λ(_ : Bool) → x + _ + _@1` is `λ(_ : Bool) → λ(_ : Bool) → _@1 + _ + _@2`: `_@1` is free
alpha_blank_below : alpha (lambda x bool_type (lambda blank bool_type (plus (plus (var x 0) (var blank 0)) (var blank 1))))
    ≡ lambda blank bool_type (lambda blank bool_type (plus (plus (var blank 1) (var blank 0)) (var blank 2)))
unfolding alpha
alpha_blank_below = refl

-- `λ(_ : Bool) → λ(x : Bool) → _ + x` is `λ(_ : Bool) → λ(_ : Bool) → _@1 + _`
alpha_blank_above : alpha (lambda blank bool_type (lambda x bool_type (plus (var blank 0) (var x 0)))) ≡ lambda blank bool_type (lambda blank bool_type (plus (var blank 1) (var blank 0)))
unfolding alpha
alpha_blank_above = refl

-- `∀(x : Bool) → ∀(y : x) → x` is `∀(_ : Bool) → ∀(_ : _) → _@1`
alpha_pi : alpha (forall x bool_type (forall y (var x 0) (var x 0))) ≡ forall blank bool_type (forall blank (var blank 0) (var blank 1))
unfolding alpha
alpha_pi = refl

-- `let x = 1 in x + y` is `let _ = 1 in _ + y`
alpha_let : alpha (let_in x (natural 1) (plus (var x 0) (var y 0))) ≡ let_in blank (natural 1) (plus (var blank 0) (var y 0))
unfolding alpha
alpha_let = refl

-- `let x : x = x in x + _` is `let _ : x = x in _ + _@1`
alpha_let_typed : alpha (let_typed x (var x 0) (var x 0) (plus (var x 0) (var blank 0))) ≡ let_typed blank (var x 0) (var x 0) (plus (var blank 0) (var blank 1))
unfolding alpha
alpha_let_typed = refl

-- `λ(x : Bool) → x` and `λ(y : Bool) → y` are the same, and `λ(x : Bool) → y` is another
same_names : same (lambda x bool_type (var x 0)) (lambda y bool_type (var y 0)) ≡ true
unfolding alpha
same_names = refl

same_not : same (lambda x bool_type (var x 0)) (lambda x bool_type (var y 0)) ≡ false
unfolding alpha
same_not = refl
