-- Nameless forms that were worked out by hand.
use Rattle.std.specs.Prelude.{◌≡◌, ℕ, refl}
use Rattle.dh_syntax.specs.Names.Nameless.{Ref, Bound, Free, to_core, from_core, bare, sub, first}
use Rattle.dh_examples.specs.Vocabulary.{bool_type, plus, var, x, y}
use Rattle.dh_syntax.specs.Expressions.Forms.{lambda, let_in}
use Rattle.dh_syntax.specs.Expressions.Tree.{Tree, Leaf}

-- a variable that the binder of this number, from the nearest on, binds
abbrev bound : {B : Type 0} → ℕ → Tree Ref B
bound i = Leaf (Bound i)

-- `λ(x : Bool) → λ(x : Bool) → x@1 + x + x@2`: the outer, the inner, and a free x
same_name : to_core (lambda x bool_type (lambda x bool_type (plus (plus (var x 1) (var x 0)) (var x 2)))) ≡ lambda x bool_type (lambda x bool_type (plus (plus (bound 1) (bound 0)) (Leaf (Free x 0))))
same_name = refl

-- `λ(x : Bool) → λ(y : Bool) → x + y@1`
other_name : to_core (lambda x bool_type (lambda y bool_type (plus (var x 0) (var y 1)))) ≡ lambda x bool_type (lambda y bool_type (plus (bound 1) (Leaf (Free y 0))))
other_name = refl

-- `let x = x in x`
in_let : to_core (let_in x (var x 0) (var x 0)) ≡ let_in x (Leaf (Free x 0)) (bound 0)
in_let = refl

-- `λ(x : Bool) → λ(y : Bool) → x` without names
no_names : bare (lambda x bool_type (lambda y bool_type (var x 0))) ≡ lambda tt bool_type (lambda tt bool_type (bound 1))
no_names = refl

-- below two binders of y the outer one is `y@1`, and a free y is `y@2`
read_back : from_core (lambda y bool_type (lambda y bool_type (plus (bound 1) (Leaf (Free y 0))))) ≡ lambda y bool_type (lambda y bool_type (plus (var y 1) (var y 2)))
read_back = refl

-- `Bound 2` for the nearest binder in `0 + 1 + λ(x : Bool) → 1 + 2`: below the binder it is `Bound 3`
substitute : sub {B = ℕ} (first (bound 2)) (plus (plus (bound 0) (bound 1)) (lambda 7 bool_type (plus (bound 1) (bound 2)))) ≡ plus (plus (bound 2) (bound 0)) (lambda 7 bool_type (plus (bound 3) (bound 1)))
substitute = refl
