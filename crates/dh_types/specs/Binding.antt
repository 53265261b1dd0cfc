-- A type below a binder of its own: what a λ does with the type of its body (the standard's "Type inference", "Functions").
--
-- In the context a variable is a free variable with a number; below the binder it is the variable of that binder.
use Rattle.std.specs.Prelude.{ℕ, suc, [], if◌then◌else◌}
use Rattle.dh_syntax.specs.Expressions.Tree.{Name}
use Rattle.dh_syntax.specs.Names.Moves.{Move, moved}
use Rattle.dh_syntax.specs.Names.Nameless.{Ref, Bound, Core}
use Rattle.dh_syntax.specs.Normalising.NamelessRuns.{ref_eq}
use Rattle.dh_store.specs.Cells.{outside}

-- the variable of the context with the number n as that of the binder so many above; each other variable stays
abbrev pub bound_ref : ℕ → ℕ → Ref → Ref
bound_ref n k r = if ref_eq (outside [] n) r then Bound k else r

-- the walk that makes the variable of the context with the number n that of the binder above
abbrev pub binding : ℕ → Move ℕ Ref Name Ref Name
binding n = record { leaf = bound_ref n; binder = λ y. y; enter = λ k y. suc k }

-- an expression with no loose variable as it is below one binder, that of the variable with the number n
abbrev pub bound_in : ℕ → Core → Core
bound_in n e = moved (binding n) 0 e
