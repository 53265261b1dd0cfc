-- What a plan says of the record, and so what a task and a wanted key say of the state.
use Rattle.std.specs.Prelude.{◌≡◌, ℕ, Bool, true, false, if◌then◌else◌, List, [], ◌∷◌, Option, Some, None, is_none, Result, Ok, Err, refl}
use Rattle.std.proofs.Common.{ap, sym, ◌∙◌, subst, inl, inr}
use Rattle.dh_syntax.specs.declared.faults.ParseFault.{ParseFault}
use Rattle.dh_syntax.specs.declared.locations.Digest.{Digest}
use Rattle.dh_syntax.specs.declared.locations.Key.{Key}
use Rattle.dh_syntax.specs.declared.locations.Loc.{Loc}
use Rattle.dh_syntax.specs.declared.locations.Mode.{Mode}
use Rattle.dh_syntax.specs.declared.locations.Mode.TheVariants as modes
use Rattle.dh_syntax.specs.Expressions.Tree.{Term}
use Rattle.dh_syntax.specs.Imports.Keys.{bare}
use Rattle.dh_imports.specs.Machine.{Fetch, IsAmong, State, outcome_of, leads_by, leads_to, Wanted, by_root, by_key, TaskOf, fetches}
use Rattle.dh_imports.specs.declared.outcomes.Why.{Why}
use Rattle.dh_imports.specs.Outcomes.{Outcome}
use Rattle.dh_imports.specs.Records as found
use Rattle.dh_imports.specs.Records.{Record, Noted, Seen, Found, text_at, look_at}
use Rattle.dh_imports.specs.Resolver.{Part, TextOf, LookOf, Plan, Unknown, Now, Walks, Asks, plan_parsed, plan_found, plan_text, unfetched, plan_fetch, plan_mode, plan_look, plan_digest, plan, Lacks, stage}
use Rattle.dh_imports.specs.Walk.{Ask, undecided, course}
use Rattle.dh_laws.proofs.KeyOrder.{none-some}
use Rattle.dh_import_laws.proofs.Grow.{stage-told, StageTold}

-- no good entry
abbrev pub IsNoEntry : Seen → Type 0
IsNoEntry (found.Good bytes e) = ⊥
IsNoEntry found.Miss = Unit {0}
IsNoEntry found.Failed = Unit {0}

-- an unfrozen key of mode Code or Text whose text is fetched
pub record IsFetchable (k : Key) : Type 0 where
  pub unfrozen : k.digest ≡ None
  pub read : ¬ (k.mode ≡ modes.Location)
  pub fetched : unfetched k.loc ≡ None

abbrev pub PlanTold : Record → Key → Plan → Type 0
PlanTold r k (Unknown (TextOf l)) = IsFetchable k × (k.loc ≡ l) × (text_at r l ≡ None)
PlanTold r k (Unknown (LookOf d)) = (k.digest ≡ Some d) × (look_at r d ≡ None)
PlanTold r k (Now i) = Unit {0}
PlanTold r k (Walks e allow) = IsFetchable k × ((bytes : List ℕ) × (text_at r k.loc ≡ Some (Found bytes allow (Ok e))))
PlanTold r k (Asks j) = (j ≡ bare k) × ((d : Digest) × (look : Seen) × (k.digest ≡ Some d) × (look_at r d ≡ Some look) × IsNoEntry look)

parsed-told : (r : Record) (k : Key) (bytes : List ℕ) (allow : Option (List ℕ)) (x : Result Term ParseFault) → IsFetchable k → text_at r k.loc ≡ Some (Found bytes allow x) → PlanTold r k (plan_parsed k allow x)
parsed-told r k bytes allow (Ok e) f h = (f, (bytes, h))
parsed-told r k bytes allow (Err e) f h = tt

found-told : (r : Record) (k : Key) (as_text : Bool) (bytes : List ℕ) (allow : Option (List ℕ)) (x : Result Term ParseFault) → IsFetchable k → text_at r k.loc ≡ Some (Found bytes allow x)
    → PlanTold r k (plan_found k as_text bytes allow x)
found-told r k true bytes allow x f h = tt
found-told r k false bytes allow x f h = parsed-told r k bytes allow x f h

text-told : (r : Record) (k : Key) (as_text : Bool) (x : Option Noted) → IsFetchable k → text_at r k.loc ≡ x → PlanTold r k (plan_text k as_text x)
text-told r k as_text None f h = (f, refl, h)
text-told r k as_text (Some (Found bytes allow x)) f h = found-told r k as_text bytes allow x f h
text-told r k as_text (Some found.Absent) f h = tt
text-told r k as_text (Some (found.Broken n)) f h = tt
text-told r k as_text (Some found.Failed) f h = tt

fetch-told : (r : Record) (k : Key) (as_text : Bool) (w : Option Why) → k.digest ≡ None → ¬ (k.mode ≡ modes.Location) → unfetched k.loc ≡ w → PlanTold r k (plan_fetch r k as_text w)
fetch-told r k as_text (Some w) d m e = tt
fetch-told r k as_text None d m e = text-told r k as_text (text_at r k.loc) (record { unfrozen = d; read = m; fetched = e }) refl

abbrev IsLocation : Mode → Type 0
IsLocation modes.Location = Unit {0}
IsLocation modes.Text = ⊥
IsLocation modes.Code = ⊥

mode-told : (r : Record) (k : Key) (m : Mode) → k.digest ≡ None → k.mode ≡ m → PlanTold r k (plan_mode r k m)
mode-told r k modes.Location d e = tt
mode-told r k modes.Text d e = fetch-told r k true (unfetched k.loc) d (λ p. subst IsLocation (sym p ∙ e) tt) refl
mode-told r k modes.Code d e = fetch-told r k false (unfetched k.loc) d (λ p. subst IsLocation (sym p ∙ e) tt) refl

look-told : (r : Record) (k : Key) (d : Digest) (x : Option Seen) → k.digest ≡ Some d → look_at r d ≡ x → PlanTold r k (plan_look k d x)
look-told r k d None e h = (e, h)
look-told r k d (Some (found.Good bytes t)) e h = tt
look-told r k d (Some found.Miss) e h = (refl, (d, found.Miss, e, h, tt))
look-told r k d (Some found.Failed) e h = (refl, (d, found.Failed, e, h, tt))

digest-told : (r : Record) (k : Key) (x : Option Digest) → k.digest ≡ x → PlanTold r k (plan_digest r k x)
digest-told r k None e = mode-told r k k.mode e refl
digest-told r k (Some d) e = look-told r k d (look_at r d) e refl

pub plan-told : (r : Record) (k : Key) → PlanTold r k (plan r k)
plan-told r k = digest-told r k k.digest refl

pub unknown-told : (r : Record) (ask : Ask) (k : Key) (p : Part) → stage r ask k ≡ Lacks p → PlanTold r k (Unknown p)
unknown-told r ask k p e =
    let q : plan r k ≡ Unknown p = subst (λ s. StageTold r ask k s) e (stage-told r ask k) in
    subst (PlanTold r k) q (plan-told r k)

-- ---- wanted keys are undecided

among-filter : (ask : Ask) (k : Key) (ks : List Key) → IsAmong k (undecided ask ks) → IsAmong k ks × (ask k ≡ None)
among-filter ask k [] m = absurd m
among-filter ask k (j ∷ js) m = go (ask j) refl m (λ n. among-filter ask k js n)
  where
    go : (o : Option Outcome) → ask j ≡ o → IsAmong k (if is_none o then j ∷ undecided ask js else undecided ask js)
        → (IsAmong k (undecided ask js) → IsAmong k js × (ask k ≡ None)) → IsAmong k (j ∷ js) × (ask k ≡ None)
    go None e (inl p) f = (inl p, subst (λ x. ask x ≡ None) p e)
    go None e (inr n) f = (inr (f n).0, (f n).1)
    go (Some o) e n f = (inr (f n).0, (f n).1)

pub among_wants : (ask : Ask) (k : Key) (ks : List Key) → IsAmong k ks → ask k ≡ None → IsAmong k (undecided ask ks)
among_wants ask k [] m h = absurd m
among_wants ask k (j ∷ js) m h = go (ask j) refl m (λ n. among_wants ask k js n h)
  where
    go : (o : Option Outcome) → ask j ≡ o → IsAmong k (j ∷ js) → (IsAmong k js → IsAmong k (undecided ask js)) → IsAmong k (if is_none o then j ∷ undecided ask js else undecided ask js)
    go None e (inl p) f = inl p
    go None e (inr n) f = inr (f n)
    go (Some o) e (inl p) f = none-some h (subst (λ x. ask x ≡ Some o) p e)
    go (Some o) e (inr n) f = f n

leads-undecided : (ask : Ask) (k y : Key) (p : Plan) → IsAmong y (leads_by ask k p) → ask y ≡ None
leads-undecided ask k y (Unknown p) m = absurd m
leads-undecided ask k y (Now i) m = absurd m
leads-undecided ask k y (Walks e allow) m = (among-filter ask y (course (Some k) ask e).asked m).1
leads-undecided ask k y (Asks j) m = go (ask j) refl m
  where
    go : (o : Option Outcome) → ask j ≡ o → IsAmong y (if is_none o then j ∷ [] else []) → ask y ≡ None
    go None e (inl p) = subst (λ x. ask x ≡ None) p e
    go None e (inr n) = absurd n
    go (Some o) e n = absurd n

pub wanted-undecided : {s : State} {k : Key} → Wanted s k → outcome_of s k ≡ None
wanted-undecided {s = s} (by_root {k = k} m) = (among-filter (outcome_of s) k (course None (outcome_of s) s.root).asked m).1
wanted-undecided {s = s} (by_key {j = j} {k = k} w m) = leads-undecided (outcome_of s) j k (plan s.recorded j) m

-- ---- only what is wanted is fetched

-- The location that a task fetches is that of a wanted key that is not frozen.
pub fetch-wanted : (s : State) (l : Loc) → TaskOf s (Fetch l) → (k : Key) × Wanted s k × (k.loc ≡ l) × IsFetchable k × (text_at s.recorded l ≡ None)
fetch-wanted s l (fetches {k = k} w e) = let t = unknown-told s.recorded (outcome_of s) k (TextOf l) e in (k, w, t.1, t.0, t.2)

none_some-digest : {P : Type 0} {x : Option Digest} {d : Digest} → x ≡ None → x ≡ Some d → P
none_some-digest h k = cc

-- Through a frozen key only the key without its digest is wanted, and only where its look is recorded and is no good entry.
abbrev pub ThroughFrozen : State → Key → Digest → Key → Type 0
ThroughFrozen s j d k = (k ≡ bare j) × ((look : Seen) × (look_at s.recorded d ≡ Some look) × IsNoEntry look)

frozen_leads : (s : State) (j : Key) (d : Digest) (k : Key) (p : Plan) → j.digest ≡ Some d → PlanTold s.recorded j p → IsAmong k (leads_by (outcome_of s) j p) → ThroughFrozen s j d k
frozen_leads s j d k (Unknown p) e t m = absurd m
frozen_leads s j d k (Now i) e t m = absurd m
frozen_leads s j d k (Walks x allow) e t m = none_some-digest (t.0).unfrozen e
frozen_leads s j d k (Asks i) e (b, t) m = (go (outcome_of s i) m ∙ b, (t.1, subst (λ x. look_at s.recorded x ≡ Some t.1) same t.3, t.4))
  where
    same : t.0 ≡ d
    same = digests-equal (sym t.2 ∙ e)
      where
        digests-equal : {a b : Digest} → Some a ≡ Some b → a ≡ b
        digests-equal {a = a} h = ap (λ (x : Option Digest). elim x [ None ↦ a | Some c ↦ c ]) h

    go : (o : Option Outcome) → IsAmong k (if is_none o then i ∷ [] else []) → k ≡ i
    go None (inl p) = sym p
    go None (inr n) = absurd n
    go (Some o) n = absurd n

pub frozen-leads : (s : State) (j : Key) (d : Digest) (k : Key) → j.digest ≡ Some d → IsAmong k (leads_to s j) → ThroughFrozen s j d k
frozen-leads s j d k e m = frozen_leads s j d k (plan s.recorded j) e (plan-told s.recorded j) m
