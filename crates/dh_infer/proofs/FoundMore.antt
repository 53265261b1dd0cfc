-- What is found of a node's parts, once one thing more is found.
use Rattle.std.specs.Prelude.{◌≡◌, ◌<◌, ◌⊎◌, ℕ, zero, suc, List, length, Option, Some, None, option_map, slice_get, refl}
use Rattle.std.proofs.Common.{ap, sym, ◌∙◌, arith, inl, inr, subst as along}
use Rattle.dh_syntax.specs.declared.operators.Builtin.{Builtin}
use Rattle.dh_syntax.specs.Names.Nameless.{Core}
use Rattle.dh_syntax.specs.Normalising.NamelessRuns.{cores}
use Rattle.dh_syntax.specs.Normalising.Normal.{HasNormalForm}
use Rattle.dh_types.specs.declared.steps.Found.{Found}
use Rattle.dh_types.specs.Following.{normal_found, universe_found, facts_of}
use Rattle.dh_infer.specs.Inside.Debts.{whole, IsUniverse, AreUniverses}
use Rattle.dh_infer.specs.Inside.Levels.{IsOf}
use Rattle.dh_infer.specs.Inside.Machine.{AreNormals, AreFoundBelow}
use Rattle.dh_infer.specs.Inside.Rests.{with_normal, with_universe}
use Rattle.dh_infer.proofs.Ruling.{IsMore}

-- ---- a normal form more

normal-split : (found : Found) (j c k : ℕ) → ((k ≡ j) × (normal_found (with_normal found j c) k ≡ Some c)) ⊎ (normal_found (with_normal found j c) k ≡ normal_found found k)
normal-split found zero c zero = inl (refl, refl)
normal-split found zero c (suc zero) = inr refl
normal-split found zero c (suc (suc zero)) = inr refl
normal-split found zero c (suc (suc (suc k))) = inr refl
normal-split found (suc zero) c zero = inr refl
normal-split found (suc zero) c (suc zero) = inl (refl, refl)
normal-split found (suc zero) c (suc (suc zero)) = inr refl
normal-split found (suc zero) c (suc (suc (suc k))) = inr refl
normal-split found (suc (suc zero)) c zero = inr refl
normal-split found (suc (suc zero)) c (suc zero) = inr refl
normal-split found (suc (suc zero)) c (suc (suc zero)) = inl (refl, refl)
normal-split found (suc (suc zero)) c (suc (suc (suc k))) = inr refl
normal-split found (suc (suc (suc j))) c k = inr refl

pub normal-itself : (found : Found) (j c : ℕ) → j < 3 → normal_found (with_normal found j c) j ≡ Some c
normal-itself found zero c l = refl
normal-itself found (suc zero) c l = refl
normal-itself found (suc (suc zero)) c l = refl
normal-itself found (suc (suc (suc j))) c l = absurd (omega (arith, l))

universes-still : (found : Found) (j c k : ℕ) → universe_found (with_normal found j c) k ≡ universe_found found k
universes-still found zero c zero = refl
universes-still found zero c (suc zero) = refl
universes-still found zero c (suc (suc k)) = refl
universes-still found (suc zero) c zero = refl
universes-still found (suc zero) c (suc zero) = refl
universes-still found (suc zero) c (suc (suc k)) = refl
universes-still found (suc (suc zero)) c zero = refl
universes-still found (suc (suc zero)) c (suc zero) = refl
universes-still found (suc (suc zero)) c (suc (suc k)) = refl
universes-still found (suc (suc (suc j))) c k = refl

pub normal-more : (g : ℕ → Core) (found : Found) (j c : ℕ) → (facts_of g found).normal j ≡ None → IsMore (facts_of g found) (facts_of g (with_normal found j c))
normal-more g found j c unknown = record {
  normals = λ k e h. by k e h (normal-split found j c k);
  universes = λ k u h. universes-still found j c k ∙ h;
}
  where
    by : (k : ℕ) (e : Core) → option_map g (normal_found found k) ≡ Some e → ((k ≡ j) × (normal_found (with_normal found j c) k ≡ Some c)) ⊎ (normal_found (with_normal found j c) k ≡ normal_found found k)
        → option_map g (normal_found (with_normal found j c) k) ≡ Some e
    by k e h (inl (p, q)) = let n = along (λ i. option_map g (normal_found found i) ≡ None) (sym p) unknown in absurd cc
    by k e h (inr q) = ap (option_map g) q ∙ h

once : {X : Type 0} (x y : X) → Some x ≡ Some y → x ≡ y
once x y h = cc

pub normals-with : (g : ℕ → Core) (ts es : List Core) (found : Found) (j c : ℕ) → AreNormals g ts es found
    → (e : Core) × (slice_get es j ≡ Some e) × HasNormalForm cores e (g c) × IsOf (length ts) (g c) → AreNormals g ts es (with_normal found j c)
normals-with g ts es found j c a n k d h = by (normal-split found j c k)
  where
    by : ((k ≡ j) × (normal_found (with_normal found j c) k ≡ Some c)) ⊎ (normal_found (with_normal found j c) k ≡ normal_found found k)
        → (e : Core) × (slice_get es k ≡ Some e) × HasNormalForm cores e (g d) × IsOf (length ts) (g d)
    by (inl (p, q)) =
        along (λ i. (e : Core) × (slice_get es i ≡ Some e) × HasNormalForm cores e (g d) × IsOf (length ts) (g d)) (sym p)
        (along (λ i. (e : Core) × (slice_get es j ≡ Some e) × HasNormalForm cores e (g i) × IsOf (length ts) (g i)) (once c d (sym q ∙ h)) n)
    by (inr q) = a k d (sym q ∙ h)

pub universes-with_normal : (ts us : List Core) (found : Found) (j c : ℕ) → AreUniverses ts us found → AreUniverses ts us (with_normal found j c)
universes-with_normal ts us found j c a k v h = a k v (sym (universes-still found j c k) ∙ h)

pub below-with_normal : (n : ℕ) (found : Found) (j c : ℕ) → c < n → AreFoundBelow n found → AreFoundBelow n (with_normal found j c)
below-with_normal n found zero c l h = record { first = l; second = h.second; third = h.third }
below-with_normal n found (suc zero) c l h = record { first = h.first; second = l; third = h.third }
below-with_normal n found (suc (suc zero)) c l h = record { first = h.first; second = h.second; third = l }
below-with_normal n found (suc (suc (suc j))) c l h = h

-- ---- a universe more

universe-split : (found : Found) (j : ℕ) (v : Option Builtin) (k : ℕ)
    → ((k ≡ j) × (universe_found (with_universe found j v) k ≡ Some v)) ⊎ (universe_found (with_universe found j v) k ≡ universe_found found k)
universe-split found zero v zero = inl (refl, refl)
universe-split found zero v (suc zero) = inr refl
universe-split found zero v (suc (suc k)) = inr refl
universe-split found (suc zero) v zero = inr refl
universe-split found (suc zero) v (suc zero) = inl (refl, refl)
universe-split found (suc zero) v (suc (suc k)) = inr refl
universe-split found (suc (suc j)) v k = inr refl

pub universe-itself : (found : Found) (j : ℕ) (v : Option Builtin) → j < 2 → universe_found (with_universe found j v) j ≡ Some v
universe-itself found zero v l = refl
universe-itself found (suc zero) v l = refl
universe-itself found (suc (suc j)) v l = absurd (omega (arith, l))

normals-still : (found : Found) (j : ℕ) (v : Option Builtin) (k : ℕ) → normal_found (with_universe found j v) k ≡ normal_found found k
normals-still found zero v zero = refl
normals-still found zero v (suc zero) = refl
normals-still found zero v (suc (suc zero)) = refl
normals-still found zero v (suc (suc (suc k))) = refl
normals-still found (suc zero) v zero = refl
normals-still found (suc zero) v (suc zero) = refl
normals-still found (suc zero) v (suc (suc zero)) = refl
normals-still found (suc zero) v (suc (suc (suc k))) = refl
normals-still found (suc (suc j)) v k = refl

pub universe-more : (g : ℕ → Core) (found : Found) (j : ℕ) (v : Option Builtin) → (facts_of g found).universe j ≡ None → IsMore (facts_of g found) (facts_of g (with_universe found j v))
universe-more g found j v unknown = record {
  normals = λ k e h. ap (option_map g) (normals-still found j v k) ∙ h;
  universes = λ k u h. by k u h (universe-split found j v k);
}
  where
    by : (k : ℕ) (u : Option Builtin) → universe_found found k ≡ Some u
        → ((k ≡ j) × (universe_found (with_universe found j v) k ≡ Some v)) ⊎ (universe_found (with_universe found j v) k ≡ universe_found found k)
        → universe_found (with_universe found j v) k ≡ Some u
    by k u h (inl (p, q)) = let n = along (λ i. universe_found found i ≡ None) (sym p) unknown in absurd cc
    by k u h (inr q) = q ∙ h

pub normals-with_universe : (g : ℕ → Core) (ts es : List Core) (found : Found) (j : ℕ) (v : Option Builtin) → AreNormals g ts es found → AreNormals g ts es (with_universe found j v)
normals-with_universe g ts es found j v a k c h = a k c (sym (normals-still found j v k) ∙ h)

pub universes-with : (ts us : List Core) (found : Found) (j : ℕ) (v : Option Builtin) → AreUniverses ts us found
    → (t : Core) × (slice_get us j ≡ Some t) × IsUniverse (whole ts t) v → AreUniverses ts us (with_universe found j v)
universes-with ts us found j v a n k w h = by (universe-split found j v k)
  where
    by : ((k ≡ j) × (universe_found (with_universe found j v) k ≡ Some v)) ⊎ (universe_found (with_universe found j v) k ≡ universe_found found k)
        → (t : Core) × (slice_get us k ≡ Some t) × IsUniverse (whole ts t) w
    by (inl (p, q)) =
        along (λ i. (t : Core) × (slice_get us i ≡ Some t) × IsUniverse (whole ts t) w) (sym p)
        (along (λ z. (t : Core) × (slice_get us j ≡ Some t) × IsUniverse (whole ts t) z) (once v w (sym q ∙ h)) n)
    by (inr q) = a k w (sym q ∙ h)

pub below-with_universe : (n : ℕ) (found : Found) (j : ℕ) (v : Option Builtin) → AreFoundBelow n found → AreFoundBelow n (with_universe found j v)
below-with_universe n found zero v h = record { first = h.first; second = h.second; third = h.third }
below-with_universe n found (suc zero) v h = record { first = h.first; second = h.second; third = h.third }
below-with_universe n found (suc (suc j)) v h = h
