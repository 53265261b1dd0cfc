-- Walks, one after the other.
use Rattle.std.specs.Prelude.{List, [], ◌∷◌, Option}
use Rattle.dh_syntax.specs.declared.locations.Key.{Key}
use Rattle.dh_syntax.specs.Expressions.Tree.{Term}
use Rattle.dh_imports.specs.Walk.{Ask, Walked, Ready, and_then, or_else, in_order, walk_key}

-- how two walks end, the second after the first
abbrev pub after : {X Y : Type 0} → Walked X → Walked Y → Walked (Unit {0})
after v w = and_then v (λ _. and_then w (λ _. Ready tt))

-- how the walks of the parts of `l ? r` end
abbrev pub choice : List (Walked Term) → Walked (Unit {0})
choice (v ∷ w ∷ []) = and_then (or_else v w) (λ e. Ready tt)
choice ws = and_then (in_order ws) (λ es. Ready tt)

-- how the walks of imports with these keys end, one after the other, in the text of this key
abbrev pub in_turn : Option Key → Ask → List Key → Walked (Unit {0})
in_turn parent ask [] = Ready tt
in_turn parent ask (k ∷ ks) = after (walk_key parent ask k) (in_turn parent ask ks)
