-- What is forgotten asked a location whose text was taken away.
use Rattle.std.specs.Prelude.{◌≡◌, ◌⊎◌, ℕ, Bool, true, false, if◌then◌else◌, List, ◌∷◌, Option, Some, None, Result, Ok, Err, refl}
use Rattle.std.proofs.Common.{ap, sym, ◌∙◌, subst, inl, inr}
use Rattle.dh_syntax.specs.declared.faults.ParseFault.{ParseFault}
use Rattle.dh_syntax.specs.declared.locations.Digest.{Digest}
use Rattle.dh_syntax.specs.declared.locations.Key.{Key}
use Rattle.dh_syntax.specs.declared.locations.Loc.{Loc}
use Rattle.dh_syntax.specs.declared.locations.Mode.{Mode}
use Rattle.dh_syntax.specs.declared.locations.Mode.TheVariants as modes
use Rattle.dh_imports.specs.declared.outcomes.Why.{Why}
use Rattle.dh_syntax.specs.Expressions.Tree.{Term}
use Rattle.dh_imports.specs.Keeps.{asked_by}
use Rattle.dh_syntax.specs.Imports.Keys.{key_eq}
use Rattle.dh_imports.specs.Machine.{IsAmong}
use Rattle.dh_imports.specs.Outcomes.{Outcome}
use Rattle.dh_imports.specs.Records as found
use Rattle.dh_imports.specs.Records.{lookup, Record, Noted, Seen, text_at, look_at}
use Rattle.dh_imports.specs.Resolver.{Part, TextOf, LookOf, Plan, Unknown, Now, Walks, Asks, plan_parsed, plan_found, plan_text, plan_fetch, plan_mode, plan_look, plan_digest, plan, Stage, Lacks, Has, Meets, Waits, of_plan, stage, ended, unfetched}
use Rattle.dh_imports.specs.Walk.{Ask}
use Rattle.dh_laws.proofs.KeyOrder.{bool-case, true_false, none-some, key_eq-true}
use Rattle.dh_import_laws.proofs.Walks.{Knows}
use Rattle.dh_import_laws.proofs.Grow.{Longer, PlanGrown, plan-grown, OnWait, StageGrown, stage-grown, StageTold, stage-told}
use Rattle.dh_import_laws.proofs.Calm.{at-same, at-other, at-grown}
use Rattle.dh_watch_laws.specs.Depending.{part_fetched, part_of_mode, part_of_digest, part_of, From, here, there}
use Rattle.dh_watch_laws.specs.Kept.{Outcomes, known, Found, nothing, one_more}
use Rattle.dh_watch_laws.specs.Sweeping.{is_due, left, with_texts, SweptOnly}
use Rattle.dh_watch_laws.proofs.Needing.{asked-needed}
use Rattle.dh_watch_laws.proofs.Sweeping.{left-known}

-- ---- parts that are not recorded

abbrev pub IsAbsent : Record → Part → Type 0
IsAbsent r (TextOf l) = text_at r l ≡ None
IsAbsent r (LookOf d) = look_at r d ≡ None

abbrev part_or : Part → Plan → Part
part_or p (Unknown q) = q
part_or p (Now i) = p
part_or p (Walks e allow) = p
part_or p (Asks j) = p

unknown-same : {p q : Part} → Unknown p ≡ Unknown q → p ≡ q
unknown-same {p = p} h = ap (part_or p) h

parsed-known : {P : Type 0} (k : Key) (allow : Option (List ℕ)) (parsed : Result Term ParseFault) (p : Part) → plan_parsed k allow parsed ≡ Unknown p → P
parsed-known k allow (Ok e) p h = cc
parsed-known k allow (Err f) p h = cc

found-known : {P : Type 0} (k : Key) (b : Bool) (bytes : List ℕ) (allow : Option (List ℕ)) (parsed : Result Term ParseFault) (p : Part) → plan_found k b bytes allow parsed ≡ Unknown p → P
found-known k true bytes allow parsed p h = cc
found-known k false bytes allow parsed p h = parsed-known k allow parsed p h

text-unknown : (r : Record) (k : Key) (b : Bool) (t : Option Noted) (p : Part) → text_at r k.loc ≡ t → plan_text k b t ≡ Unknown p → (Some (TextOf k.loc) ≡ Some p) × IsAbsent r p
text-unknown r k b None p e h = let s = unknown-same h in (ap (λ z. Some z) s, subst (IsAbsent r) s e)
text-unknown r k b (Some (found.Found bytes allow parsed)) p e h = found-known k b bytes allow parsed p h
text-unknown r k b (Some found.Absent) p e h = cc
text-unknown r k b (Some (found.Broken n)) p e h = cc
text-unknown r k b (Some found.Failed) p e h = cc

fetch-unknown : (r : Record) (k : Key) (b : Bool) (w : Option Why) (p : Part) → plan_fetch r k b w ≡ Unknown p → (part_fetched k.loc w ≡ Some p) × IsAbsent r p
fetch-unknown r k b (Some w) p h = cc
fetch-unknown r k b None p h = text-unknown r k b (text_at r k.loc) p refl h

mode-unknown : (r : Record) (k : Key) (m : Mode) (p : Part) → plan_mode r k m ≡ Unknown p → (part_of_mode k.loc m ≡ Some p) × IsAbsent r p
mode-unknown r k modes.Location p h = cc
mode-unknown r k modes.Text p h = fetch-unknown r k true (unfetched k.loc) p h
mode-unknown r k modes.Code p h = fetch-unknown r k false (unfetched k.loc) p h

look-unknown : (r : Record) (k : Key) (d : Digest) (s : Option Seen) (p : Part) → look_at r d ≡ s → plan_look k d s ≡ Unknown p → (Some (LookOf d) ≡ Some p) × IsAbsent r p
look-unknown r k d None p e h = let s = unknown-same h in (ap (λ z. Some z) s, subst (IsAbsent r) s e)
look-unknown r k d (Some (found.Good bytes x)) p e h = cc
look-unknown r k d (Some found.Miss) p e h = cc
look-unknown r k d (Some found.Failed) p e h = cc

digest-unknown : (r : Record) (k : Key) (d : Option Digest) (p : Part) → plan_digest r k d ≡ Unknown p → (part_of_digest k d ≡ Some p) × IsAbsent r p
digest-unknown r k None p h = mode-unknown r k k.mode p h
digest-unknown r k (Some d) p h = look-unknown r k d (look_at r d) p refl h

pub plan-unknown : (r : Record) (k : Key) (p : Part) → plan r k ≡ Unknown p → (part_of k ≡ Some p) × IsAbsent r p
plan-unknown r k p h = digest-unknown r k k.digest p h

-- the look of such a part is asked first
fetch-no_look : {P : Type 0} (l : Loc) (w : Option Why) (d : Digest) → part_fetched l w ≡ Some (LookOf d) → P
fetch-no_look l (Some w) d h = none-some refl h
fetch-no_look l None d h = cc

mode-no_look : {P : Type 0} (l : Loc) (m : Mode) (d : Digest) → part_of_mode l m ≡ Some (LookOf d) → P
mode-no_look l modes.Location d h = none-some refl h
mode-no_look l modes.Text d h = fetch-no_look l (unfetched l) d h
mode-no_look l modes.Code d h = fetch-no_look l (unfetched l) d h

abbrev digest_or : Digest → Option Part → Digest
digest_or x None = x
digest_or x (Some (TextOf l)) = x
digest_or x (Some (LookOf y)) = y

part_digest : {c d : Digest} → Some (LookOf c) ≡ Some (LookOf d) → c ≡ d
part_digest {c = c} p = ap (digest_or c) p

look-lacks : (r : Record) (k : Key) (q : Option Digest) (d : Digest) → part_of_digest k q ≡ Some (LookOf d) → look_at r d ≡ None → plan_digest r k q ≡ Unknown (LookOf d)
look-lacks r k None d h e = mode-no_look k.loc k.mode d h
look-lacks r k (Some c) d h e =
    let s : c ≡ d = part_digest h in
    subst (λ z. plan_look k c (look_at r c) ≡ Unknown (LookOf z)) s (ap (plan_look k c) (subst (λ z. look_at r z ≡ None) (sym s) e))

-- ---- the law

abbrev Forgot : Record → Record → Ask → Key → Type 0
Forgot r r1 more k = (j : Key) × (l : Loc) × From r more k j × (part_of j ≡ Some (TextOf l)) × (text_at r1 l ≡ None)

module _ (r r1 : Record) (g : Longer r1 r) (looks : (d : Digest) → look_at r1 d ≡ look_at r d) (more : Ask) where
  -- the stage by what is left, at a key whose last step was due
  module _ {l : Outcomes} (f : Found r l) (h : Knows (known l) more) (k : Key) (o : Outcome) (n : ℕ) (q : ended r n k (stage r (known l) k) ≡ Some o)
      (on : (y : Key) (p : Outcome) → known l y ≡ Some p → known (left r1 l) y ≡ None → Forgot r r1 more y) where
    lost-part : (p : Part) → (part_of k ≡ Some p) × IsAbsent r1 p → Forgot r r1 more k
    lost-part (TextOf l) (e, a) = (k, l, here, e, a)
    lost-part (LookOf d) (e, a) =
        none-some refl (subst (λ z. ended r n k (of_plan (known l) k z) ≡ Some o) (look-lacks r k k.digest d e (sym (looks d) ∙ a)) q)

    waited-plan : (p : Plan) (y : Key) → PlanGrown p (plan r k) → of_plan (known (left r1 l)) k p ≡ Waits y → plan r k ≡ p
    waited-plan (Unknown p) y i e = cc
    waited-plan (Now i') y i e = i
    waited-plan (Walks x allow) y i e = i
    waited-plan (Asks j) y i e = i

    lost-wait : (y : Key) → stage r1 (known (left r1 l)) k ≡ Waits y → Forgot r r1 more k
    lost-wait y e = by (known l y) refl
      where
        below : Knows (known (left r1 l)) (known l)
        below = left-known r1 r f

        gone : known (left r1 l) y ≡ None
        gone = subst (StageTold r1 (known (left r1 l)) k) e (stage-told r1 (known (left r1 l)) k)

        grown : OnWait y (stage r (known l) k) (known l y)
        grown = subst (λ s. StageGrown (known l) s (stage r (known l) k)) e (stage-grown r1 r g (known (left r1 l)) (known l) below k)

        asks : IsAmong y (asked_by more k (plan r k))
        asks =
            subst (λ z. IsAmong y (asked_by more k z)) (sym (waited-plan (plan r1 k) y (plan-grown r1 r g k) e))
            (asked-needed (known (left r1 l)) more (λ x p u. h x p (below x p u)) k (plan r1 k) y e)

        by : (x : Option Outcome) → known l y ≡ x → Forgot r r1 more k
        by None u = none-some refl (subst (λ s. ended r n k s ≡ Some o) (subst (OnWait y (stage r (known l) k)) u grown) q)
        by (Some p) u = let i = on y p u gone in (i.0, i.1, there asks i.2, i.3, i.4)

    lost : (s : Stage) → stage r1 (known (left r1 l)) k ≡ s → is_due s ≡ false → Forgot r r1 more k
    lost (Has i) e d = true_false refl d
    lost (Meets j) e d = true_false refl d
    lost (Lacks p) e d = lost-part p (plan-unknown r1 k p (subst (StageTold r1 (known (left r1 l)) k) e (stage-told r1 (known (left r1 l)) k)))
    lost (Waits y) e d = lost-wait y e

  forgotten : {l : Outcomes} → Found r l → Knows (known l) more → (x : Key) (p : Outcome) → known l x ≡ Some p → known (left r1 l) x ≡ None → Forgot r r1 more x
  forgotten nothing h x p e u = none-some refl e
  forgotten (one_more {l = l} {k = k} {o = o} f e c n q) h x p y u = go (bool-case (is_due (stage r1 (known (left r1 l)) k))) (bool-case (key_eq k x)) (λ z v a b. forgotten f less z v a b)
    where
      less : Knows (known l) more
      less z v a = h z v (at-grown l k o e z v a)

      taken : (b : Bool) → is_due (stage r1 (known (left r1 l)) k) ≡ b → known (if b then (k, o) ∷ left r1 l else left r1 l) x ≡ None
      taken b d = subst (λ a. known (if a then (k, o) ∷ left r1 l else left r1 l) x ≡ None) d u

      go : (is_due (stage r1 (known (left r1 l)) k) ≡ true) ⊎ (is_due (stage r1 (known (left r1 l)) k) ≡ false) → (key_eq k x ≡ true) ⊎ (key_eq k x ≡ false)
          → ((z : Key) (v : Outcome) → known l z ≡ Some v → known (left r1 l) z ≡ None → Forgot r r1 more z) → Forgot r r1 more x
      go (inl d) (inl t) i = none-some (taken true d) (at-same (left r1 l) k x o t)
      go (inl d) (inr t) i = i x p (sym (at-other l k x o t) ∙ y) (sym (at-other (left r1 l) k x o t) ∙ taken true d)
      go (inr d) (inr t) i = i x p (sym (at-other l k x o t) ∙ y) (taken false d)
      go (inr d) (inl t) i = subst (Forgot r r1 more) (key_eq-true k x t) (lost f less k o n q i (stage r1 (known (left r1 l)) k) refl d)

pub swept_only : SweptOnly
swept_only s texts k o h of e u =
    forgotten s.recorded (with_texts s.recorded texts) (record { texts = of; looks = λ d look q. q }) (λ d. refl) (known s.outcomes) h.found (λ x p q. q) k o e u
