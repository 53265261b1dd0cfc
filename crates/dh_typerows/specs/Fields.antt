-- Fields that codes hold.
use Rattle.std.specs.Prelude.{ℕ, List, [], ◌∷◌, map}
use Rattle.dh_syntax.specs.Expressions.Forms.{Fields}
use Rattle.dh_syntax.specs.Expressions.Tree.{Name}
use Rattle.dh_syntax.specs.Names.Nameless.{Ref, Core}
use Rattle.dh_store.specs.declared.codes.CodeKid.{CodeKid}
use Rattle.dh_typerows.specs.declared.preferring.Side.{Side}
use Rattle.dh_typerows.specs.declared.preferring.Side.TheVariants as sides

-- the fields with these labels, which hold what these codes stand for
abbrev pub fields_with : (ℕ → Core) → List Name → List ℕ → Fields Ref Name
fields_with f (x ∷ xs) (c ∷ cs) = (x, f c) ∷ fields_with f xs cs
fields_with f _ _ = []

-- the codes of these parts
abbrev pub ids : List CodeKid → List ℕ
ids ks = map (λ (k : CodeKid). k.code) ks

-- the type of a field that both record types have
abbrev pub on_side : Side → Core → Core → Core
on_side sides.First d e = d
on_side sides.Second d e = e
