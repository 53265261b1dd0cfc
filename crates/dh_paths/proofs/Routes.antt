-- The folder of a route.
use Rattle.std.proofs.Common.{◌≡◌, ℕ, ◌-◌, ◌≤◌, Bool, true, false, List, [], ◌∷◌, length, take, codes, refl, ◌∙◌, ap, arith}
use Rattle.dh_syntax.specs.Imports.Locations.{Comps, folder}
use Rattle.dh_paths.specs.Inside.Paths.{route}

folder-take : (c : List ℕ) (cs : Comps) → folder (c ∷ cs) ≡ take (length cs) (c ∷ cs)
folder-take c [] = refl
folder-take c (d ∷ cs) = ap (λ p. c ∷ p) (folder-take d cs)

folder-front : (c : List ℕ) (cs : Comps) → folder (c ∷ cs) ≡ take (length (c ∷ cs) - 1) (c ∷ cs)
folder-front c cs = let n : length cs ≡ length (c ∷ cs) - 1 = omega arith in folder-take c cs ∙ ap (λ k. take k (c ∷ cs)) n

pub folder-route : (up : Bool) (cs : Comps) → 1 ≤ length cs → folder (route up cs) ≡ route up (take (length cs - 1) cs)
folder-route up [] h = absurd (omega arith)
folder-route true (c ∷ cs) h = ap (λ p. codes ".." ∷ p) (folder-front c cs)
folder-route false (c ∷ cs) h = folder-front c cs
