-- What is kept holds together, and is the resolver's.
use Rattle.std.specs.Prelude.{◌≡◌, ◌⊎◌, ℕ, zero, true, false, ◌∷◌, Option, Some, None, refl}
use Rattle.std.proofs.Common.{ap, sym, ◌∙◌, subst, inl, inr}
use Rattle.dh_syntax.specs.declared.locations.Key.{Key}
use Rattle.dh_imports.specs.declared.outcomes.Why.{Why}
use Rattle.dh_syntax.proofs.SameTree.{locs_tell, digests_tell}
use Rattle.dh_syntax.specs.Imports.Keys.{key_eq}
use Rattle.dh_imports.specs.LastStep.{Code, own, last_step}
use Rattle.dh_imports.specs.Machine.{with_text, with_look, with_limit}
use Rattle.dh_imports.specs.Outcomes.{Outcome, Good, Bad, Loop}
use Rattle.dh_imports.specs.Records.{Record, limit_at}
use Rattle.dh_imports.specs.Resolver.{Has, Meets, stage, unless_limit, ended}
use Rattle.dh_imports.specs.Walk.{Ask}
use Rattle.dh_laws.proofs.KeyOrder.{bool-case, none-some, some-equal, key_eq-true, key_eq-itself}
use Rattle.dh_import_laws.proofs.Walks.{Knows}
use Rattle.dh_import_laws.proofs.Grow.{Longer, longer-itself, StageGrown, stage-grown, ended-grown, ended-limit, StageTold, stage-told}
use Rattle.dh_import_laws.proofs.Calm.{at-same, at-other, at-grown, quiet}
use Rattle.dh_import_laws.proofs.Keep.{keys_tell, named-same, named-other, named-grown, limits_longer}
use Rattle.dh_import_laws.proofs.Sound.{Log, start, fin, decided}
use Rattle.dh_watch_laws.specs.Kept.{Outcomes, known, IsNoLoop, Found, nothing, one_more, IsLimited, Kept, IsSound, TextKept, LookKept, OutcomeKept, KeptAreResolved}

knows-itself : (ask : Ask) → Knows ask ask
knows-itself ask k o h = h

-- ---- the resolver's

pub log-of : (r : Record) {l : Outcomes} → Found r l → Log r l
log-of r nothing = start
log-of r (one_more f e c n h) = fin (log-of r f) e n h

pub kept_are_resolved : KeptAreResolved
kept_are_resolved s h k o e = decided s.recorded s.outcomes (log-of s.recorded h.found) k o e

-- ---- under a longer record

-- the keys that have an outcome have the same limits
abbrev SameLimits : Record → Record → Outcomes → Type 0
SameLimits r r' l = (k : Key) (o : Outcome) → known l k ≡ Some o → limit_at r k ≡ limit_at r' k

pub found-grown : (r r' : Record) → Longer r r' → {l : Outcomes} → Found r l → SameLimits r r' l → Found r' l
found-grown r r' g nothing s = nothing
found-grown r r' g (one_more {l = l} {k = k} {o = o} f e c n h) s =
    one_more (found-grown r r' g f (λ x p q. s x p (at-grown l k o e x p q))) e c n
    (sym (ended-limit r r' n k (stage r' (known l) k) (s k o (at-same l k k o (key_eq-itself k))))
    ∙ ended-grown r n k (known l) (stage r (known l) k) (stage r' (known l) k) o (stage-grown r r' g (known l) (known l) (knows-itself (known l)) k) h)

-- what is due stays due, over a longer record and by more outcomes
pub has-grown : (r r' : Record) → Longer r r' → (less more : Ask) → Knows less more → (k : Key) (i : _) → stage r less k ≡ Has i → stage r' more k ≡ Has i
has-grown r r' g less more h k i e = subst (λ s. StageGrown more s (stage r' more k)) e (stage-grown r r' g less more h k)

limited-grown : (r r' : Record) → Longer r r' → (less more : Ask) → Knows less more → (k : Key) (w : Why) → IsLimited r less k w → IsLimited r' more k w
limited-grown r r' g less more h k w i = record {
  code = i.code;
  allow = i.allow;
  due = has-grown r r' g less more h k _ i.due;
  licensed = i.licensed;
  decides = h k (own k w) i.decides;
}

-- the record grew by no limit
sound-grown : (s : Kept) (r' : Record) → Longer s.recorded r' → ((k : Key) → limit_at s.recorded k ≡ limit_at r' k) → IsSound s → IsSound (record { recorded = r'; outcomes = s.outcomes })
sound-grown s r' g e h = record {
  found = found-grown s.recorded r' g h.found (λ k o q. e k);
  limited = λ k w q. limited-grown s.recorded r' g (known s.outcomes) (known s.outcomes) (knows-itself (known s.outcomes)) k w (h.limited k w (e k ∙ q));
}

pub text_kept : TextKept
text_kept s l t h e =
    sound-grown s (with_text s.recorded l t) (record { texts = named-grown locs_tell s.recorded.texts l t e; looks = λ d look q. q }) (λ k. refl) h

pub look_kept : LookKept
look_kept s d look h e =
    sound-grown s (with_look s.recorded d look) (record { texts = λ l t q. q; looks = named-grown digests_tell s.recorded.looks d look e }) (λ k. refl) h

-- ---- one more outcome

same_limits : (r : Record) (l : Outcomes) (k : Key) (limit : Option Why) → known l k ≡ None → SameLimits r (with_limit r k limit) l
same_limits r l k None e x o h = refl
same_limits r l k (Some w) e x o h = go (bool-case (key_eq k x))
  where
    go : (key_eq k x ≡ true) ⊎ (key_eq k x ≡ false) → limit_at r x ≡ limit_at (with_limit r k (Some w)) x
    go (inl t) = none-some e (subst (λ z. known l z ≡ Some o) (sym (key_eq-true k x t)) h)
    go (inr t) = sym (named-other keys_tell r.limits k x w t)

pub outcome_kept : OutcomeKept
outcome_kept s k None o h e (c, (n, q)) = record {
  found = one_more h.found e c n q;
  limited = λ x w p. limited-grown s.recorded s.recorded (longer-itself s.recorded) (known s.outcomes) (known ((k, o) ∷ s.outcomes)) (at-grown s.outcomes k o e) x w (h.limited x w p);
}
outcome_kept s k (Some w) o h e (x, allow, due, licensed, q) = record {
  found =
      one_more (found-grown s.recorded r' longer h.found (same_limits s.recorded s.outcomes k (Some w) e)) e (subst IsNoLoop (sym q) tt) zero
      (ap (λ z. ended (with_limit s.recorded k (Some w)) zero k z) due
      ∙ ap (λ z. unless_limit k z (last_step zero k (Code x allow))) (named-same keys_tell s.recorded.limits k k w (key_eq-itself k))
      ∙ ap (λ z. Some z) (sym q));
  limited = λ j v p. each j v p (bool-case (key_eq k j));
}
  where
    r' : Record
    r' = with_limit s.recorded k (Some w)

    longer : Longer s.recorded (with_limit s.recorded k (Some w))
    longer = limits_longer s.recorded k (Some w)

    each : (j : Key) (v : Why) → limit_at (with_limit s.recorded k (Some w)) j ≡ Some v → (key_eq k j ≡ true) ⊎ (key_eq k j ≡ false)
        → IsLimited (with_limit s.recorded k (Some w)) (known ((k, o) ∷ s.outcomes)) j v
    each j v p (inr t) =
        limited-grown s.recorded (with_limit s.recorded k (Some w)) (limits_longer s.recorded k (Some w)) (known s.outcomes) (known ((k, o) ∷ s.outcomes))
        (at-grown s.outcomes k o e) j v (h.limited j v (sym (named-other keys_tell s.recorded.limits k j w t) ∙ p))
    each j v p (inl t) =
        let same : w ≡ v = some-equal (sym (named-same keys_tell s.recorded.limits k j w t) ∙ p) in
        subst (λ z. IsLimited (with_limit s.recorded k (Some w)) (known ((k, o) ∷ s.outcomes)) z v) (key_eq-true k j t)
        (subst (λ z. IsLimited (with_limit s.recorded k (Some w)) (known ((k, o) ∷ s.outcomes)) k z) same (record {
          code = x;
          allow = allow;
          due = has-grown s.recorded (with_limit s.recorded k (Some w)) (limits_longer s.recorded k (Some w)) (known s.outcomes) (known ((k, o) ∷ s.outcomes)) (at-grown s.outcomes k o e) k _ due;
          licensed = licensed;
          decides = at-same s.outcomes k k o (key_eq-itself k) ∙ ap (λ z. Some z) q;
        }))

-- ---- no loops, no limits of keys without an outcome

known-no-loop : (r : Record) {l : Outcomes} → Found r l → (k j : Key) → known l k ≡ Some (Loop j) → ⊥
known-no-loop r nothing k j e = none-some refl e
known-no-loop r (one_more {l = l} {k = x} {o = o} f e c n q) k j h = go (bool-case (key_eq x k)) (known-no-loop r f k j)
  where
    go : (key_eq x k ≡ true) ⊎ (key_eq x k ≡ false) → (known l k ≡ Some (Loop j) → ⊥) → ⊥
    go (inl t) i = subst IsNoLoop (some-equal (sym (at-same l x k o t) ∙ h)) c
    go (inr u) i = i (sym (at-other l x k o u) ∙ h)

-- what comes of a key by what is kept is no loop
pub no-loop : (s : Kept) → IsSound s → (n : ℕ) (k : Key) (o : Outcome) → ended s.recorded n k (stage s.recorded (known s.outcomes) k) ≡ Some o → IsNoLoop o
no-loop s h n k (Good v x) e = tt
no-loop s h n k (Bad b) e = tt
no-loop s h n k (Loop j) e =
    let m = quiet s.recorded n k (stage s.recorded (known s.outcomes) k) j e in
    let t : StageTold s.recorded (known s.outcomes) k (Meets j) = subst (StageTold s.recorded (known s.outcomes) k) m (stage-told s.recorded (known s.outcomes) k) in
    known-no-loop s.recorded h.found t.0 j t.1

-- a key without an outcome has no limit
pub unlimited : (s : Kept) → IsSound s → (k : Key) → known s.outcomes k ≡ None → limit_at s.recorded k ≡ None
unlimited s h k e = go (limit_at s.recorded k) refl
  where
    go : (w : Option Why) → limit_at s.recorded k ≡ w → limit_at s.recorded k ≡ None
    go None q = q
    go (Some w) q = none-some e (h.limited k w q).decides
