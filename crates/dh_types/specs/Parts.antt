-- The parts of types, as the rules of typing see them.
use Rattle.std.specs.Prelude.{ℕ, List, [], ◌∷◌, map}
use Rattle.dh_syntax.specs.declared.expressions.Alt.{Alt}
use Rattle.dh_syntax.specs.Expressions.Forms.{Fields}
use Rattle.dh_syntax.specs.Expressions.Tree.{Name}
use Rattle.dh_syntax.specs.Names.Nameless.{Ref, Core}
use Rattle.dh_syntax.specs.Typing.TypeViews.{Alternatives, alternatives}
use Rattle.dh_store.specs.declared.codes.CodeKid.{CodeKid}

-- what these parts stand for
abbrev pub cores_of : (ℕ → Core) → List CodeKid → List Core
cores_of f ks = map (λ (k : CodeKid). f k.code) ks

-- the fields with these labels, which hold what these parts stand for
abbrev pub fields_of : (ℕ → Core) → List Name → List CodeKid → Fields Ref Name
fields_of f (x ∷ xs) (k ∷ ks) = (x, f k.code) ∷ fields_of f xs ks
fields_of f _ _ = []

-- these alternatives, whose types are what these parts stand for
abbrev pub alternatives_of : (ℕ → Core) → List Alt → List CodeKid → Alternatives Ref Name
alternatives_of f alts ks = alternatives alts (cores_of f ks)
