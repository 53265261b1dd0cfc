-- Shifting and substitution on terms whose results were worked out by hand.
use Rattle.std.specs.Prelude.{◌≡◌, true, false, refl}
use Rattle.dh_examples.specs.Vocabulary.{bool_type, plus, var, x, y}
use Rattle.dh_syntax.specs.Expressions.Forms.{forall, lambda, let_in, let_typed, natural}
use Rattle.dh_syntax.specs.Names.Subst.{shift_up, shift_down, subst, is_free}

-- up at x from 0: `λ(x : Bool) → x@1` is `λ(x : Bool) → x@2`: in the binder the count is from 1
up_free : shift_up x 0 (lambda x bool_type (var x 1)) ≡ lambda x bool_type (var x 2)
up_free = refl

-- up at x from 0: `λ(x : Bool) → x` stays
up_bound : shift_up x 0 (lambda x bool_type (var x 0)) ≡ lambda x bool_type (var x 0)
up_bound = refl

-- up at x from 0: `λ(y : Bool) → x + y` is `λ(y : Bool) → x@1 + y`
up_other_binder : shift_up x 0 (lambda y bool_type (plus (var x 0) (var y 0))) ≡ lambda y bool_type (plus (var x 1) (var y 0))
up_other_binder = refl

-- up at x from 1: `x + x@1` is `x + x@2`
up_from_one : shift_up x 1 (plus (var x 0) (var x 1)) ≡ plus (var x 0) (var x 2)
up_from_one = refl

-- up at x from 0: `λ(x : x) → x` is `λ(x : x@1) → x`: the type is not under the binder
up_type : shift_up x 0 (lambda x (var x 0) (var x 0)) ≡ lambda x (var x 1) (var x 0)
up_type = refl

-- up at x from 0: `let x = x in x + x@1` is `let x = x@1 in x + x@2`
up_let : shift_up x 0 (let_in x (var x 0) (plus (var x 0) (var x 1))) ≡ let_in x (var x 1) (plus (var x 0) (var x 2))
up_let = refl

-- up at x from 0: `∀(x : Bool) → ∀(x : x@1) → x@2 + x@1` is `∀(x : Bool) → ∀(x : x@2) → x@3 + x@1`
up_nested : shift_up x 0 (forall x bool_type (forall x (var x 1) (plus (var x 2) (var x 1)))) ≡ forall x bool_type (forall x (var x 2) (plus (var x 3) (var x 1)))
up_nested = refl

-- down at x from 0: `λ(x : Bool) → x@2 + x` is `λ(x : Bool) → x@1 + x`
down_free : shift_down x 0 (lambda x bool_type (plus (var x 2) (var x 0))) ≡ lambda x bool_type (plus (var x 1) (var x 0))
down_free = refl

-- `y` for x@0 in `λ(y : Bool) → x` is `λ(y : Bool) → y@1`: the free y is no variable of that binder
subst_captures_nothing : subst x 0 (var y 0) (lambda y bool_type (var x 0)) ≡ lambda y bool_type (var y 1)
subst_captures_nothing = refl

-- `y` for x@0 in `λ(y : Bool) → λ(y : Bool) → x` is `λ(y : Bool) → λ(y : Bool) → y@2`
subst_below_two : subst x 0 (var y 0) (lambda y bool_type (lambda y bool_type (var x 0))) ≡ lambda y bool_type (lambda y bool_type (var y 2))
subst_below_two = refl

-- `1` for x@0 in `λ(x : x) → x + x@1` is `λ(x : 1) → x + 1`
subst_same_binder : subst x 0 (natural 1) (lambda x (var x 0) (plus (var x 0) (var x 1))) ≡ lambda x (natural 1) (plus (var x 0) (natural 1))
subst_same_binder = refl

-- `x` for x@0 in `λ(x : Bool) → x@1` is `λ(x : Bool) → x@1`
subst_itself : subst x 0 (var x 0) (lambda x bool_type (var x 1)) ≡ lambda x bool_type (var x 1)
subst_itself = refl

-- `1` for x@1 in `x + x@1 + x@2` is `x + 1 + x@2`: each other variable stays
subst_only : subst x 1 (natural 1) (plus (plus (var x 0) (var x 1)) (var x 2)) ≡ plus (plus (var x 0) (natural 1)) (var x 2)
subst_only = refl

-- `y` for x@0 in `let y : x = x in x + y` is `let y : y = y in y@1 + y`
subst_let : subst x 0 (var y 0) (let_typed y (var x 0) (var x 0) (plus (var x 0) (var y 0))) ≡ let_typed y (var y 0) (var y 0) (plus (var y 1) (var y 0))
subst_let = refl

-- x@0 is free in `λ(x : Bool) → x@1` and in `∀(x : x) → x`, and not in `λ(x : Bool) → x`
free_below : is_free x 0 (lambda x bool_type (var x 1)) ≡ true
free_below = refl

free_in_type : is_free x 0 (forall x (var x 0) (var x 0)) ≡ true
free_in_type = refl

free_not : is_free x 0 (lambda x bool_type (var x 0)) ≡ false
free_not = refl

-- x@1 is not free in `λ(y : Bool) → x`, and x@0 is
free_other_index : is_free x 1 (lambda y bool_type (var x 0)) ≡ false
free_other_index = refl

free_other_binder : is_free x 0 (lambda y bool_type (var x 0)) ≡ true
free_other_binder = refl
