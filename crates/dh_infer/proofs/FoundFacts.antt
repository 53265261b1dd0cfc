-- Types that were found of codes that stand by themselves.
use Rattle.std.specs.Prelude.{◌≡◌, ℕ, zero, suc, List, [], ◌∷◌, ◌++◌, map, length, reverse, Some, slice_get}
use Rattle.std.proofs.Common.{sym, arith, subst as along}
use Rattle.dh_syntax.specs.Names.Nameless.{Core}
use Rattle.dh_store.specs.declared.codes.Codes.{Codes}
use Rattle.dh_infer.specs.declared.facts.Fact.{Fact}
use Rattle.dh_infer.specs.Inside.Facts.{AreFacts, IsFact, IsFactFor, IsTyped, IsTypeOf}
use Rattle.dh_infer.specs.Inside.Levels.{AreOf}
use Rattle.dh_infer.proofs.Leading.{found-grown}
use Rattle.dh_infer.proofs.LevelTypes.{of-more}

pub no-facts : (g : ℕ → Core) (fs : List Fact) → fs ≡ [] → AreFacts g fs
no-facts g fs e = along (AreFacts g) (sym e) tt

pub facts-more : (g : ℕ → Core) (fs : List Fact) (f : Fact) → AreFacts g fs → IsFact g f → AreFacts g (fs ++ f ∷ [])
facts-more g [] f h k = (k, tt)
facts-more g (d ∷ fs) f h k = (h.0, facts-more g fs f h.1 k)

pub fact-at : (g : ℕ → Core) (fs : List Fact) (i : ℕ) (f : Fact) → slice_get fs i ≡ Some f → AreFacts g fs → IsFact g f
fact-at g [] i f p h = absurd cc
fact-at g (d ∷ fs) zero f p h = let q : d ≡ f = cc in along (IsFact g) q h.0
fact-at g (d ∷ fs) (suc i) f p h = fact-at g fs i f p h.1

-- so it is below further binders
known-above : (g : ℕ → Core) (above ls : List ℕ) (c t : ℕ) → AreOf (map g (above ++ ls)) → IsTypeOf g ls c t → IsTypeOf g (above ++ ls) c t
known-above g [] ls c t a h = h
known-above g (l ∷ above) ls c t a h =
    let (o, f) = known-above g above ls c t a.1 h in
    let ts = map g (above ++ ls) in
    (of-more (length ts) (suc (length ts)) (g c) (omega arith) o, found-grown (g l) ts a (g c) (g t) o f)

pub fact-told : (g : ℕ → Core) (cs : Codes) (ls : List ℕ) (c : ℕ) (f : Fact) → IsFactFor cs ls c f → IsFact g f → IsTyped g ls c f.typed
fact-told g cs ls c f k h a =
    along (λ z. IsTypeOf g ls z f.typed) k.code
    (along (λ z. IsTypeOf g z f.code f.typed) (sym k.levels)
    (known-above g k.above (reverse f.levels.items) f.code f.typed (along (λ z. AreOf (map g z)) k.levels a) h))
