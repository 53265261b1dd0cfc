-- How far the walks of texts are known to come, as more is kept.
use Rattle.std.specs.Prelude.{◌≡◌, ◌<◌, ◌⊎◌, ◌++◌, ℕ, zero, suc, List, [], ◌∷◌, length, slice_set, Some, None, refl}
use Rattle.std.proofs.Common.{ap, sym, ◌∙◌, subst, inl, inr, arith, length-append}
use Rattle.std.proofs.lemmas.Bool.Decides.{eqb_tells}
use Rattle.std.proofs.lemmas.List.{get_or-set_same, get_or-set_other}
use Rattle.dh_syntax.proofs.SameTree.{locs_tell, digests_tell}
use Rattle.dh_syntax.specs.declared.locations.Key.{Key}
use Rattle.dh_syntax.specs.declared.locations.Loc.{Loc}
use Rattle.dh_imports.specs.Records as found
use Rattle.dh_imports.specs.Records.{look_at, text_at}
use Rattle.dh_import_laws.proofs.Calm.{at-grown}
use Rattle.dh_import_laws.proofs.Grow.{Longer, longer-itself}
use Rattle.dh_import_laws.proofs.Keep.{named-grown, limits_longer}
use Rattle.dh_import_laws.proofs.Walks.{Knows}
use Rattle.dh_demand.specs.declared.headways.Headway.{Headway}
use Rattle.dh_demand.specs.declared.headways.Headway.TheVariants as headway
use Rattle.dh_record.specs.declared.rows.recorded.Entrant.{Entrant}
use Rattle.dh_record.specs.Entering.{keys_in}
use Rattle.dh_record.specs.Rows.{key_named}
use Rattle.dh_record.specs.Ways.{IsWay}
use Rattle.dh_record.proofs.Ways.{way-stays}
use Rattle.dh_watch_laws.specs.Kept.{Kept, keep_look, keep_outcome, keep_text, known}
use Rattle.dh_watch_rows.specs.KeptRows.{Decides}
use Rattle.dh_watch_runs.specs.Resolving.{AreMore, named}
use Rattle.dh_watch_runs.proofs.Reversing.{named-more}
use Rattle.dh_watch.specs.Sources.{HasFetched, HasMissed, LacksLook}
use Rattle.dh_watch.specs.Ways.{AreWays, IsWayOf, way_at}
use Rattle.dh_watch.proofs.SourceSteps.{key-count, lacks-look, named-key}

-- ---- a list of them

pub way-pushed : (ways : List Headway) (m : ℕ) → way_at (ways ++ headway.Unknown ∷ []) m ≡ way_at ways m
way-pushed [] zero = refl
way-pushed [] (suc m) = refl
way-pushed (w ∷ ways) zero = refl
way-pushed (w ∷ ways) (suc m) = way-pushed ways m

pub way-set : (ways : List Headway) (n m : ℕ) (way : Headway) → n < length ways → (way_at (slice_set ways n way) m ≡ way_at ways m) ⊎ ((m ≡ n) × (way_at (slice_set ways n way) m ≡ way))
way-set ways n m way l =
    elim (eqb_tells m n) [
      | inl p ↦ inr (p.1, subst (λ x. way_at (slice_set ways n way) x ≡ way) (sym p.1) (get_or-set_same ways n way headway.Unknown l))
      | inr p ↦ inl (get_or-set_other ways n m way headway.Unknown p.1)
    ]

-- the same after such a list was before
pub way-noted : (ways old : List Headway) (n m : ℕ) (way : Headway) → n < length ways → ((x : ℕ) → way_at ways x ≡ way_at old x)
    → (way_at (slice_set ways n way) m ≡ way_at old m) ⊎ ((m ≡ n) × (way_at (slice_set ways n way) m ≡ way))
way-noted ways old n m way l same = go (way-set ways n m way l)
  where
    go : (way_at (slice_set ways n way) m ≡ way_at ways m) ⊎ ((m ≡ n) × (way_at (slice_set ways n way) m ≡ way))
        → (way_at (slice_set ways n way) m ≡ way_at old m) ⊎ ((m ≡ n) × (way_at (slice_set ways n way) m ≡ way))
    go (inl e) = inl (e ∙ same m)
    go (inr e) = inr e

-- ---- what is known of keys

-- of a key with a number
pub way-here : (s : Kept) (es : List Entrant) (n : ℕ) (way : Headway) → IsWayOf s (keys_in es) n way → IsWay s.recorded (known s.outcomes) (key_named es n) way
way-here s es n way (inl e) = subst (λ w. IsWay s.recorded (known s.outcomes) (key_named es n) w) (sym e) tt
way-here s es n way (inr h) = subst (λ k. IsWay s.recorded (known s.outcomes) k way) (named-key es n) h.1

pub ways-noted : (s : Kept) (es : List Entrant) (old new : List Headway) (n : ℕ) (way : Headway) → n < length es → AreWays s (keys_in es) old
    → IsWay s.recorded (known s.outcomes) (key_named es n) way
    → ((m : ℕ) → (way_at new m ≡ way_at old m) ⊎ ((m ≡ n) × (way_at new m ≡ way))) → AreWays s (keys_in es) new
ways-noted s es old new n way l h w f m = go (f m)
  where
    here : IsWayOf s (keys_in es) n way
    here = inr (omega (arith, l, key-count es), subst (λ k. IsWay s.recorded (known s.outcomes) k way) (sym (named-key es n)) w)

    go : (way_at new m ≡ way_at old m) ⊎ ((m ≡ n) × (way_at new m ≡ way)) → IsWayOf s (keys_in es) m (way_at new m)
    go (inl e) = subst (λ x. IsWayOf s (keys_in es) m x) (sym e) (h m)
    go (inr e) = subst (λ x. IsWayOf s (keys_in es) m x) (sym e.1) (subst (λ x. IsWayOf s (keys_in es) x way) (sym e.0) here)

pub ways-none : (s : Kept) (keys : List Key) → AreWays s keys []
ways-none s keys n = inl refl

-- ---- more is kept

pub ways-grown : (s s' : Kept) (keys keys' : List Key) (ways : List Headway) → Longer s.recorded s'.recorded → Knows (known s.outcomes) (known s'.outcomes) → AreMore keys keys' → AreWays s keys ways → AreWays s' keys' ways
ways-grown s s' keys keys' ways longer knows more h n = go (h n)
  where
    go : IsWayOf s keys n (way_at ways n) → IsWayOf s' keys' n (way_at ways n)
    go (inl e) = inl e
    go (inr w) =
        inr (
          omega (arith, w.0, ap (λ z. length z) more.1, length-append keys more.0),
          subst (λ k. IsWay s'.recorded (known s'.outcomes) k (way_at ways n)) (sym (named-more keys keys' more n w.0))
              (way-stays s.recorded s'.recorded longer (known s.outcomes) (known s'.outcomes) knows (named keys n) (way_at ways n) w.1),
        )

pub ways-same : (s s' : Kept) (keys keys' : List Key) (ways : List Headway) → s' ≡ s → AreMore keys keys' → AreWays s keys ways → AreWays s' keys' ways
ways-same s s' keys keys' ways e more h =
    subst (λ z. AreWays z keys' ways) (sym e) (ways-grown s s keys keys' ways (longer-itself s.recorded) (λ k o q. q) more h)

pub ways-text : (s s' : Kept) (l : Loc) (keys keys' : List Key) (ways : List Headway) → text_at s.recorded l ≡ None → HasFetched s l s' → AreMore keys keys' → AreWays s keys ways → AreWays s' keys' ways
ways-text s s' l keys keys' ways none (t, e) more h =
    subst (λ z. AreWays z keys' ways) (sym e)
    (ways-grown s (keep_text s l t) keys keys' ways (record { texts = named-grown locs_tell s.recorded.texts l t none; looks = λ d look q. q }) (λ k o q. q) more h)

pub ways-look : (s s' : Kept) (k : Key) (keys keys' : List Key) (ways : List Headway) → LacksLook s k → HasMissed s k s' → AreMore keys keys' → AreWays s keys ways → AreWays s' keys' ways
ways-look s s' k keys keys' ways (d, p, e) (c, r, q) more h =
    let same : Some d ≡ Some c = sym p ∙ r in
    let one : d ≡ c = cc in
    let none : look_at s.recorded c ≡ None = subst (λ z. look_at s.recorded z ≡ None) one (lacks-look s k d e) in
    subst (λ z. AreWays z keys' ways) (sym q)
    (ways-grown s (keep_look s c found.Miss) keys keys' ways (record { texts = λ l t x. x; looks = named-grown digests_tell s.recorded.looks c found.Miss none }) (λ j o x. x) more h)

pub ways-outcome : (s s' : Kept) (k : Key) (keys keys' : List Key) (ways : List Headway) → known s.outcomes k ≡ None → Decides s k s' → AreMore keys keys' → AreWays s keys ways → AreWays s' keys' ways
ways-outcome s s' k keys keys' ways open_key d more h =
    subst (λ z. AreWays z keys' ways) (sym d.kept)
    (ways-grown s (keep_outcome s k d.limit d.outcome) keys keys' ways (limits_longer s.recorded k d.limit) (at-grown s.outcomes k d.outcome open_key) more h)

-- the same keys are more of them
pub more-itself : (keys keys' : List Key) → keys' ≡ keys → AreMore keys keys'
more-itself keys keys' e = ([], e ∙ sym (append-none keys))
  where
    append-none : (ks : List Key) → ks ++ [] ≡ ks
    append-none [] = refl
    append-none (k ∷ ks) = ap (λ z. k ∷ z) (append-none ks)
