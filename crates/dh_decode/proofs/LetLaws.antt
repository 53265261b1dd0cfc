-- Chains of lets, the innermost first.
use Rattle.std.proofs.Common.{◌≡◌, List, [], ◌∷◌, ◌++◌, map, refl, sym, ◌∙◌, ap}
use Rattle.dh_binary.specs.Machine as machine
use Rattle.dh_binary.specs.Stubs.{Kept, stubs}
use Rattle.dh_decode.specs.Inside.Views.{binding_of}
use Rattle.dh_decode.specs.declared.places.Binding.{Binding}

lets_last : (bs : List Binding) (b : Binding) (e : Kept) → machine.lets_made stubs (map binding_of (bs ++ b ∷ [])) e ≡ machine.lets_made stubs (map binding_of bs) (machine.let_made stubs (binding_of b) e)
lets_last [] b e = refl
lets_last (x ∷ bs) b e = ap (machine.let_made stubs (binding_of x)) (lets_last bs b e)

pub lets_next : (all bs : List Binding) (b : Binding) (e f : Kept) → all ≡ bs ++ b ∷ [] → f ≡ machine.let_made stubs (binding_of b) e → machine.lets_made stubs (map binding_of bs) f ≡ machine.lets_made stubs (map binding_of all) e
lets_next all bs b e f h g = ap (machine.lets_made stubs (map binding_of bs)) g ∙ sym (lets_last bs b e) ∙ ap (λ xs. machine.lets_made stubs (map binding_of xs) e) (sym h)
