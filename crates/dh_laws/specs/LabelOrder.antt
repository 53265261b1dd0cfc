-- The order of labels by their bytes.
use Rattle.std.specs.Prelude.{◌≡◌, ℕ, List, true, false}
use Rattle.dh_syntax.specs.Expressions.Order.{before}

-- no label comes before itself
abbrev pub Irreflexive : Type 0
Irreflexive = (x : List ℕ) → before x x ≡ false

-- a label that comes before one that comes before a third comes before that
abbrev pub Transitive : Type 0
Transitive = (x y z : List ℕ) → before x y ≡ true → before y z ≡ true → before x z ≡ true

-- labels of which none comes before the other are equal
abbrev pub Total : Type 0
Total = (x y : List ℕ) → before x y ≡ false → before y x ≡ false → x ≡ y
