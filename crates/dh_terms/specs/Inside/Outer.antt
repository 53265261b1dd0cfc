-- The binders above a place in an expression.
use Rattle.std.specs.Prelude.{List, [], ◌∷◌}
use Rattle.dh_syntax.specs.Expressions.Tree.{Name}
use Rattle.dh_terms.specs.declared.binders.Outer.{Outer}
use Rattle.dh_terms.specs.declared.binders.Outer.TheOpen as level
use Rattle.dh_terms.specs.declared.binders.Outer.TheOpen.{Outer-F}
use Rattle.dh_terms.specs.declared.binders.Outer.TheFolds.{fold-Outer}

-- the names of the binders above, where the further ones are named already
abbrev pub outer_step : Outer-F (List Name) → List Name
outer_step level.Top = []
outer_step (level.Below y ys) = y.now ∷ ys.now

-- their names, the nearest one first
unfoldable pub outer : Outer → List Name
outer = fold-Outer (List Name) outer_step
