-- The root of a run with honest entries ends as it does without entries, but for the names of binders.
use Rattle.std.specs.Prelude.{◌≡◌, ◌⊎◌, ℕ, Bool, true, false, [], Option, Some, None, refl}
use Rattle.std.proofs.Common.{ap, sym, ◌∙◌, subst, inl, inr}
use Rattle.dh_syntax.specs.declared.locations.Key.{Key}
use Rattle.dh_imports.specs.declared.outcomes.Blame.{Blame}
use Rattle.dh_syntax.specs.Bytes.BinaryRead.{Reads}
use Rattle.dh_syntax.specs.Expressions.Tree.{Term}
use Rattle.dh_imports.specs.Keeps.{Visited, by_root}
use Rattle.dh_imports.specs.Outcomes.{Outcome}
use Rattle.dh_imports.specs.Records.{Record}
use Rattle.dh_imports.specs.Replay.{RootEnd, ready, bad, end_of}
use Rattle.dh_imports.specs.Resolver.{resolve, ResolvesRoot}
use Rattle.dh_imports.specs.RootEnds.{AreFew, EndsBy, resolved, overflows}
use Rattle.dh_imports.specs.Walk.{Ask, Walked, Ready, Fails, Turns, Needs, walk}
use Rattle.dh_syntax.specs.Names.Alpha.{alpha, IsSame}
use Rattle.dh_syntax.proofs.BinaryReadLaws.{reads-unique}
use Rattle.dh_laws.proofs.KeyOrder.{none-some, some-equal}
use Rattle.dh_laws.proofs.Names.AlphaForms.{alpha-alpha}
use Rattle.dh_import_laws.specs.ImportLaws.{IsDecided}
use Rattle.dh_import_laws.proofs.Facts.{decided_same}
use Rattle.dh_import_laws.proofs.Grow.{plus, resolve-rises, rises-plus, rises-plus_left}
use Rattle.dh_import_laws.proofs.Walks.{Grown, walk-grown}
use Rattle.dh_cache_laws.specs.WarmCache.{IsLimit, IsSameOutcome, AreSameOutcomes, IsWarm, HonestEntries, WarmKeys, WarmRoot, WarmEnd}
use Rattle.dh_cache_laws.proofs.CalmAsks.{calm_ask-known}
use Rattle.dh_cache_laws.proofs.WarmKeys.{same_keys}
use Rattle.dh_cache_laws.proofs.WarmWalks.{EndsAs, ReadyAs, walk-as}

-- ---- entries

as_read : (v e : Term) → alpha v ≡ e → IsSame v e
as_read v e h = sym (alpha-alpha v) ∙ ap alpha h

pub honest_entries : HonestEntries
honest_entries r ask root plain h = record {
  none_good = h.none_good;
  same = λ k d bytes e visited p q. let (v, origin, g, b, i) = h.honest k d bytes e visited p q in (v, origin, g, as_read v e i);
}

-- ---- keys

module _ (r plain : Record) (root : Term) (w : IsWarm r root plain) where
  abbrev ask : Ask
  ask = resolve r w.spend []

  -- what is visited is known, or nothing is known of it with so much to spend
  pub visited-as : (m : ℕ) (k : Key) → Visited r ask root k → AreSameOutcomes (resolve plain m [] k) (ask k)
  visited-as m k v = same_keys r plain w.agree ask root w.entries m w.spend [] (λ y o c e. e) k v

  root-as : (m : ℕ) → EndsAs IsSame (walk None (resolve plain m []) root) (walk None ask root)
  root-as m = walk-as (λ k. Visited r ask root k) None (resolve plain m []) ask ask (visited-as m) (calm_ask-known ask) root (λ y i. by_root i)

  abbrev Ends : Term → Walked Term → Type 0
  Ends v end = ((u : Term) × (end ≡ Ready u) × IsSame v u) ⊎ ((b : Blame) × (end ≡ Fails b) × IsLimit b)

  ready-as : (v : Term) (end : Walked Term) → IsDecided end → ReadyAs IsSame v end → Ends v end
  ready-as v (Ready u) d h = inl (u, refl, h)
  ready-as v (Fails b) d h = inr (b, refl, h)
  ready-as v (Turns j) d h = absurd h
  ready-as v (Needs y) d h = absurd d

  root-ends : (v : Term) → ResolvesRoot plain root (Ready v) → Ends v (walk None ask root)
  root-ends v (m, h) = ready-as v (walk None ask root) w.decided (subst (λ z. EndsAs IsSame z (walk None ask root)) h (root-as m))

root-known : (r plain : Record) (root v : Term) (w : IsWarm r root plain) → Ends r plain root w v (walk None (resolve r w.spend []) root)
    → ((u : Term) × ResolvesRoot r root (Ready u) × IsSame v u) ⊎ ((b : Blame) × ResolvesRoot r root (Fails b) × IsLimit b)
root-known r plain root v w (inl (u, p, s)) = inl (u, (w.spend, p), s)
root-known r plain root v w (inr (b, p, h)) = inr (b, (w.spend, p), h)

pub warm_root : WarmRoot
warm_root r plain root v w h = root-known r plain root v w (root-ends r plain root w v h)

known-as : (o p : Outcome) (x y : Option Outcome) → AreSameOutcomes x y → x ≡ Some o → y ≡ Some p → IsSameOutcome o p
known-as o p x y h e g = subst (λ z. AreSameOutcomes (Some o) z) g (subst (λ z. AreSameOutcomes z y) e h)

pub warm_keys : WarmKeys
warm_keys r plain root w k o p v (m, h) g = known-as o p _ _ (visited-as r plain root w m k v) h g

-- ---- one end

pub roots-one : (r : Record) (root : Term) (a b : Walked Term) → ResolvesRoot r root a → ResolvesRoot r root b → IsDecided a → IsDecided b → a ≡ b
roots-one r root a b (n, h) (m, g) d e =
    sym (decided_same (resolve r (plus n m) []) a (walk None (resolve r (plus n m) []) root)
    (subst (λ z. Grown (resolve r (plus n m) []) z (walk None (resolve r (plus n m) []) root)) h
    (walk-grown None (resolve r n []) (resolve r (plus n m) []) (λ k o q. rises-plus_left (λ x. resolve r x [] k) (λ x p i. resolve-rises r x [] k p i) n m o q) root)) d)
    ∙ decided_same (resolve r (plus n m) []) b (walk None (resolve r (plus n m) []) root)
    (subst (λ z. Grown (resolve r (plus n m) []) z (walk None (resolve r (plus n m) []) root)) g
    (walk-grown None (resolve r m []) (resolve r (plus n m) []) (λ k o q. rises-plus (λ x. resolve r x [] k) (λ x p i. resolve-rises r x [] k p i) n m o q) root)) e

ends-decided : (w : Walked Term) (end : RootEnd) → end_of w ≡ Some end → IsDecided w
ends-decided (Ready e) end h = tt
ends-decided (Fails b) end h = tt
ends-decided (Turns j) end h = tt
ends-decided (Needs y) end h = none-some refl h

ready-of : (w : Walked Term) (v : Term) → end_of w ≡ Some (ready v) → w ≡ Ready v
ready-of (Ready e) v h = cc
ready-of (Fails b) v h = absurd cc
ready-of (Turns j) v h = absurd cc
ready-of (Needs y) v h = none-some refl h

false-true : {A : Type 0} (b : Bool) → b ≡ true → b ≡ false → A
false-true b h g = cc

-- the root that is ready by an end
ready-root : (r : Record) (root v : Term) (end : RootEnd) → end ≡ ready v → EndsBy r root end → ResolvesRoot r root (Ready v)
ready-root r root v end p (resolved w few h g) = subst (ResolvesRoot r root) (ready-of w v (g ∙ ap Some p)) h
ready-root r root v _ p (overflows h) = absurd cc

pub ends-ready : (r : Record) (root v : Term) → EndsBy r root (ready v) → ResolvesRoot r root (Ready v)
ends-ready r root v h = ready-root r root v (ready v) refl h

-- an end where the root comes to this and the keys are not too many
pub known-end : (r : Record) (root : Term) (w : Walked Term) (end e : RootEnd) → AreFew r root → IsDecided w → end_of w ≡ Some e → ResolvesRoot r root w → EndsBy r root end → end ≡ e
known-end r root w end e few d q h (resolved v f g p) =
    some-equal (sym p ∙ ap end_of (roots-one r root v w g h (ends-decided v end p) d) ∙ q)
known-end r root w _ e few d q h (overflows many) = false-true _ many few

pub ready-end : (r : Record) (root v : Term) (end : RootEnd) → AreFew r root → ResolvesRoot r root (Ready v) → EndsBy r root end → end ≡ ready v
ready-end r root v end few h g = known-end r root (Ready v) end (ready v) few tt refl h g

pub bad-end : (r : Record) (root : Term) (b : Blame) (end : RootEnd) → AreFew r root → ResolvesRoot r root (Fails b) → EndsBy r root end → end ≡ bad b
bad-end r root b end few h g = known-end r root (Fails b) end (bad b) few tt refl h g

end-known : (r : Record) (root v : Term) (end : RootEnd) → AreFew r root → EndsBy r root end
    → ((u : Term) × ResolvesRoot r root (Ready u) × IsSame v u) ⊎ ((b : Blame) × ResolvesRoot r root (Fails b) × IsLimit b)
    → ((w : Term) × (end ≡ ready w) × IsSame v w) ⊎ ((b : Blame) × (end ≡ bad b) × IsLimit b)
end-known r root v end few g (inl (u, p, s)) = inl (u, ready-end r root u end few p g, s)
end-known r root v end few g (inr (b, p, h)) = inr (b, bad-end r root b end few p g, h)

pub warm_end : WarmEnd
warm_end r plain root v end w few h g = end-known r root v end few g (warm_root r plain root v w (ends-ready plain root v h))
