-- Bindings round a body, from the innermost on.
use Rattle.std.proofs.Common.{◌≡◌, List, [], ◌∷◌, ◌++◌, map, refl, ap, sym, ◌∙◌}
use Rattle.dh_grammar.specs.Stubs.{Part, let_part, around}
use Rattle.dh_operands.specs.declared.bindings.Binding.{Binding}
use Rattle.dh_operands.specs.Operands.{note_of, part_of, binding_of}

abbrev pub bound : Binding → Part → Part
bound b e = let_part b.name (note_of b.annotation) (part_of b.value) e

innermost : (bs : List Binding) (b : Binding) (e : Part) → around (map binding_of bs) (bound b e) ≡ around (map binding_of (bs ++ b ∷ [])) e
innermost [] b e = refl
innermost (a ∷ bs) b e = ap (bound a) (innermost bs b e)

pub last_bound : (old new : List Binding) (b : Binding) (p q : Part) → old ≡ new ++ b ∷ [] → q ≡ bound b p →
    around (map binding_of new) q ≡ around (map binding_of old) p
last_bound old new b p q e f = ap (around (map binding_of new)) f ∙ innermost new b p ∙ ap (λ bs. around (map binding_of bs) p) (sym e)
