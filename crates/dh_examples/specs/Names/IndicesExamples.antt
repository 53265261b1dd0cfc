-- How far indices reach, worked out by hand.
use Rattle.std.specs.Prelude.{◌≡◌, refl, ◌<◌, [], ◌∷◌}
use Rattle.dh_examples.specs.Vocabulary.{bool_type, var, x, y}
use Rattle.dh_syntax.specs.Expressions.Forms.{lambda}
use Rattle.dh_syntax.specs.Names.Indices.{IndicesBelow, count, FreeIndicesBelow}

-- two of these four binders have the name x
counted : count x (y ∷ x ∷ y ∷ x ∷ []) ≡ 2
counted = refl

-- `λ(x : x) → x@1`
below : IndicesBelow 2 (lambda x (var x 0) (var x 1)) ≡ ((0 < 2) × ((1 < 2) × Unit {0}))
below = refl

-- `λ(x : x) → λ(y : Bool) → x@1`: the limit is one more below the binder of x, and no more below that of y
free_below : FreeIndicesBelow 3 [] (lambda x (var x 0) (lambda y bool_type (var x 1))) ≡ ((0 < 3) × ((Unit {0} × ((1 < 4) × Unit {0})) × Unit {0}))
free_below = refl
