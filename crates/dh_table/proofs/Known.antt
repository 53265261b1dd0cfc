-- What is known from earlier searches: it serves a search, grows as keys are seen, and stays true through steps.
use Rattle.std.specs.Prelude.{◌≡◌, ◌⊎◌, ◌<◌, ◌≤◌, ◌+◌, ℕ, false, if◌then◌else◌, List, [], ◌∷◌, length, Option, Some, None, is_none, IsSome, refl}
use Rattle.std.proofs.Common.{ap, sym, ◌∙◌, subst, arith, inl, inr}
use Rattle.dh_syntax.specs.declared.locations.Key.{Key}
use Rattle.dh_syntax.specs.Expressions.Tree.{Term}
use Rattle.dh_imports.specs.Machine as machine
use Rattle.dh_imports.specs.Machine.{IsAmong, Task, State, Event, IsDue, IsOpen, May, Wanted, by_root, by_key, effect, after_all, leads_by, leads_to, outcome_of, root_walk, stage_of}
use Rattle.dh_imports.specs.Outcomes.{Outcome, Good, Bad, Loop}
use Rattle.dh_syntax.specs.Imports.Keys.{key_eq}
use Rattle.dh_imports.specs.Records.{lookup}
use Rattle.dh_imports.specs.Replay.{Replays, Step, has_too_many, root_end}
use Rattle.dh_imports.specs.Resolver.{TextOf, LookOf, Plan, Unknown, Now, Walks, Asks, plan, of_walk, of_bare, of_plan}
use Rattle.dh_imports.specs.Walk.{Ask, Walked, Ready, Fails, Turns, Needs, course, ending_by, undecided, walk, wants}
use Rattle.dh_laws.proofs.KeyOrder.{none-some}
use Rattle.dh_import_laws.proofs.Facts.{Grows, step-grows}
use Rattle.dh_import_laws.proofs.Grow.{Longer as Longer', longer-itself, PlanGrown, plan-grown}
use Rattle.dh_import_laws.proofs.Keep.{lawful-keeps}
use Rattle.dh_import_laws.proofs.Plans.{among_wants, wanted-undecided}
use Rattle.dh_import_laws.proofs.Walks.{Told, walk-told}
use Rattle.dh_import_laws.proofs.Wants.{needs-asked}
use Rattle.dh_demand.specs.Results.{Row, number_of}
use Rattle.dh_demand.specs.Wants.{HasNumber}
use Rattle.dh_table.specs.declared.steps.Job.{Job}
use Rattle.dh_record.specs.declared.kinds.Kind.{Kind}
use Rattle.dh_record.specs.declared.rows.recorded.Entrant.{Entrant}
use Rattle.dh_record.specs.declared.stage.reaches.Reach.TheVariants as reaches
use Rattle.dh_table.specs.Inside.Piling.{number_at}
use Rattle.dh_record.specs.Reading.{IsReach}
use Rattle.dh_table.specs.Inside.Searching.{AreKnown, IsDecided, IsFound, IsPlaced, IsTaskAt, IsWaiting}
use Rattle.dh_record.specs.Rows.{rows_of, key_named}
use Rattle.dh_table.specs.States.{task_of}
use Rattle.dh_table.proofs.Courses.{IsMet, course_same, walk-met}
use Rattle.dh_table.proofs.RootEnds.{no_end}
use Rattle.dh_table.proofs.Seeing.{task_at}

-- ---- undecided keys

among_undecided : (ask : Ask) (k : Key) (ks : List Key) → IsAmong k (undecided ask ks) → IsAmong k ks × (ask k ≡ None)
among_undecided ask k [] m = absurd m
among_undecided ask k (j ∷ js) m = go (ask j) refl m (λ n. among_undecided ask k js n)
  where
    go : (o : Option Outcome) → ask j ≡ o → IsAmong k (if is_none o then j ∷ undecided ask js else undecided ask js)
        → (IsAmong k (undecided ask js) → IsAmong k js × (ask k ≡ None)) → IsAmong k (j ∷ js) × (ask k ≡ None)
    go None e (inl p) f = (inl p, subst (λ x. ask x ≡ None) p e)
    go None e (inr n) f = (inr (f n).0, (f n).1)
    go (Some o) e n f = (inr (f n).0, (f n).1)

abbrev Longer : Ask → Ask → Type 0
Longer less more = (k : Key) (o : Outcome) → less k ≡ Some o → more k ≡ Some o

before : (less more : Ask) → Longer less more → (k : Key) → more k ≡ None → less k ≡ None
before less more h k n = go (less k) refl
  where
    go : (o : Option Outcome) → less k ≡ o → less k ≡ None
    go None e = e
    go (Some o) e = none-some n (h k o e)

-- ---- a key whose last step is due leads to none

due_walk : (ask : Ask) (parent : Option Key) (e : Term) (allow : Option (List ℕ)) (w : Walked Term) (y : Key) → IsMet ask w (course parent ask e) → IsDue (of_walk allow w) → IsAmong y (wants parent ask e) → ⊥
due_walk ask parent e allow (Ready x) y h d m = let a = among_undecided ask y (course parent ask e).asked m in h.1 y a.0 a.1
due_walk ask parent e allow (Fails b) y h d m = let a = among_undecided ask y (course parent ask e).asked m in h.1 y a.0 a.1
due_walk ask parent e allow (Turns j) y h d m = let a = among_undecided ask y (course parent ask e).asked m in h.1 y a.0 a.1
due_walk ask parent e allow (Needs z) y h d m = d

due_bare : (j y : Key) (o : Option Outcome) → IsDue (of_bare j o) → IsAmong y (if is_none o then j ∷ [] else []) → ⊥
due_bare j y None d m = d
due_bare j y (Some o) d m = m

due_plan : (ask : Ask) (k y : Key) (p : Plan) → IsDue (of_plan ask k p) → IsAmong y (leads_by ask k p) → ⊥
due_plan ask k y (Unknown p) d m = m
due_plan ask k y (Now i) d m = m
due_plan ask k y (Walks e allow) d m = due_walk ask (Some k) e allow (walk (Some k) ask e) y (walk-met (Some k) ask e) d m
due_plan ask k y (Asks j) d m = due_bare j y (ask j) d m

pub due_leads : (s : State) (k y : Key) → IsDue (stage_of s k) → IsAmong y (leads_to s k) → ⊥
due_leads s k y d m = due_plan (outcome_of s) k y (plan s.recorded k) d m

-- a key whose task is due leads to none
due_of : (rows : List Row) (k : Key) (allow : Option (List ℕ)) (w : Walked Term) (kind : Kind) → IsReach rows k (of_walk allow w) (reaches.Due kind) → IsDue (of_walk allow w)
due_of rows k allow (Ready e) kind r = tt
due_of rows k allow (Fails b) kind r = tt
due_of rows k allow (Turns j) kind r = tt
due_of rows k allow (Needs y) kind r = r

pub reach_leads : (ask : Ask) (rows : List Row) (k y : Key) (p : Plan) (kind : Kind) → IsReach rows k (of_plan ask k p) (reaches.Due kind) → IsAmong y (leads_by ask k p) → ⊥
reach_leads ask rows k y (Unknown p) kind r m = m
reach_leads ask rows k y (Now i) kind r m = m
reach_leads ask rows k y (Walks e allow) kind r m = due_walk ask (Some k) e allow (walk (Some k) ask e) y (walk-met (Some k) ask e) (due_of rows k allow (walk (Some k) ask e) kind r) m
reach_leads ask rows k y (Asks j) kind r m = go (ask j) r m
  where
    go : (o : Option Outcome) → IsReach rows k (of_bare j o) (reaches.Due kind) → IsAmong y (if is_none o then j ∷ [] else []) → ⊥
    go None h n = h
    go (Some o) h n = n

-- a key that leads to one has no task
of_walk_due : (k : Key) (allow : Option (List ℕ)) (w : Walked Term) (t : Task) → IsTaskAt k (of_walk allow w) t → IsDue (of_walk allow w)
of_walk_due k allow (Ready e) t d = tt
of_walk_due k allow (Fails b) t d = tt
of_walk_due k allow (Turns j) t d = tt
of_walk_due k allow (Needs y) t d = d

leads_task : (ask : Ask) (k y : Key) (p : Plan) (t : Task) → IsAmong y (leads_by ask k p) → IsTaskAt k (of_plan ask k p) t → ⊥
leads_task ask k y (Unknown p) t m d = m
leads_task ask k y (Now i) t m d = m
leads_task ask k y (Walks e allow) t m d = due_walk ask (Some k) e allow (walk (Some k) ask e) y (walk-met (Some k) ask e) (of_walk_due k allow (walk (Some k) ask e) t d) m
leads_task ask k y (Asks j) t m d = go (ask j) m d
  where
    go : (o : Option Outcome) → IsAmong y (if is_none o then j ∷ [] else []) → IsTaskAt k (of_bare j o) t → ⊥
    go None n h = h
    go (Some o) n h = n

pub leading_task : (s : State) (k y : Key) (t : Task) → IsAmong y (leads_to s k) → IsTaskAt k (stage_of s k) t → ⊥
leading_task s k y t m d = leads_task (outcome_of s) k y (plan s.recorded k) t m d

-- ---- the keys to which a key leads

leads_undecided : (ask : Ask) (k y : Key) (p : Plan) → IsAmong y (leads_by ask k p) → ask y ≡ None
leads_undecided ask k y (Unknown p) m = absurd m
leads_undecided ask k y (Now i) m = absurd m
leads_undecided ask k y (Walks e allow) m = (among_undecided ask y (course (Some k) ask e).asked m).1
leads_undecided ask k y (Asks j) m = go (ask j) refl m
  where
    go : (o : Option Outcome) → ask j ≡ o → IsAmong y (if is_none o then j ∷ [] else []) → ask y ≡ None
    go None e (inl p) = subst (λ x. ask x ≡ None) p e
    go None e (inr n) = absurd n
    go (Some o) e n = absurd n

pub leading_undecided : (s : State) (k y : Key) → IsAmong y (leads_to s k) → outcome_of s y ≡ None
leading_undecided s k y m = leads_undecided (outcome_of s) k y (plan s.recorded k) m

-- a key leads to the one that its walk needs
walk_leads : (ask : Ask) (rows : List Row) (k : Key) (e : Term) (allow : Option (List ℕ)) (n : ℕ) (w : Walked Term) → walk (Some k) ask e ≡ w → IsReach rows k (of_walk allow w) (reaches.Wait n) → HasNumber rows (wants (Some k) ask e) n
walk_leads ask rows k e allow n (Ready x) h r = absurd r
walk_leads ask rows k e allow n (Fails b) h r = absurd r
walk_leads ask rows k e allow n (Turns j) h r = absurd r
walk_leads ask rows k e allow n (Needs y) h r =
    (y, among_wants ask y (course (Some k) ask e).asked (needs-asked (Some k) ask e y h) (subst (λ x. Told ask x) h (walk-told (Some k) ask e)), r)

pub reach_leads_to : (ask : Ask) (rows : List Row) (k : Key) (p : Plan) (n : ℕ) → IsReach rows k (of_plan ask k p) (reaches.Wait n) → HasNumber rows (leads_by ask k p) n
reach_leads_to ask rows k (Unknown (TextOf l)) n r = absurd r
reach_leads_to ask rows k (Unknown (LookOf d)) n r = absurd r
reach_leads_to ask rows k (Now i) n r = absurd r
reach_leads_to ask rows k (Walks e allow) n r = walk_leads ask rows k e allow n (walk (Some k) ask e) refl r
reach_leads_to ask rows k (Asks j) n r = go (ask j) r
  where
    go : (o : Option Outcome) → IsReach rows k (of_bare j o) (reaches.Wait n) → HasNumber rows (if is_none o then j ∷ [] else []) n
    go None h = (j, inl refl, h)
    go (Some (Good v o)) h = absurd h
    go (Some (Bad b)) h = absurd h
    go (Some (Loop i)) h = absurd h

-- ---- where a task is open the root is undecided

root_met : (ask : Ask) (root : Term) (w : Walked Term) (y : Key) → walk None ask root ≡ w → IsMet ask w (course None ask root) → IsAmong y (wants None ask root) → (x : Key) × (walk None ask root ≡ Needs x)
root_met ask root (Ready x) y e h m = let a = among_undecided ask y (course None ask root).asked m in absurd (h.1 y a.0 a.1)
root_met ask root (Fails b) y e h m = let a = among_undecided ask y (course None ask root).asked m in absurd (h.1 y a.0 a.1)
root_met ask root (Turns j) y e h m = let a = among_undecided ask y (course None ask root).asked m in absurd (h.1 y a.0 a.1)
root_met ask root (Needs x) y e h m = (x, e)

pub wanted_needs : (s : State) {k : Key} → Wanted s k → (y : Key) × (root_walk s ≡ Needs y)
wanted_needs s (by_root {k = k} m) = root_met (outcome_of s) s.root (walk None (outcome_of s) s.root) k refl (walk-met None (outcome_of s) s.root) m
wanted_needs s (by_key {j = j} {k = k} w m) = wanted_needs s w

pub open_needs : (s : State) (t : Task) → IsOpen s t → (y : Key) × (root_walk s ≡ Needs y)
open_needs s t o = wanted_needs s (task_at s t o.due).wanted

-- of keys that are few
pub found_undecided : (s : State) (keys : List Entrant) (o : Option Job) → has_too_many s ≡ false → IsFound s keys o → IsSome o → root_end s ≡ None
found_undecided s keys (Some j) few f h = let n = open_needs s (task_of keys j) f.open_task in no_end s n.0 few n.1
found_undecided s keys None few f h = let e : ⊥ = cc in absurd e

-- ---- steps

-- From s to s' nothing is lost, each import of a text ends alike, and each wanted key that gets an outcome had its last step due.
pub record GoesOn (s s' : State) : Type 0 where
  pub grows : Grows s s'
  pub root_is : s'.root ≡ s.root
  pub mild : (parent : Option Key) (k : Key) → ending_by parent k (outcome_of s' k) ≡ ending_by parent k (outcome_of s k)
  pub freed : (k : Key) → Wanted s k → (outcome_of s' k ≡ None) ⊎ IsDue (stage_of s k)

module _ (s s' : State) (g : GoesOn s s') where
  abbrev the-ask : Ask
  the-ask = outcome_of s

  abbrev the-ask' : Ask
  the-ask' = outcome_of s'

  wants_back : (parent : Option Key) (e : Term) (y : Key) → IsAmong y (wants parent the-ask' e) → IsAmong y (wants parent the-ask e)
  wants_back parent e y m =
      let a = among_undecided the-ask' y (course parent the-ask' e).asked m in
      among_wants the-ask y (course parent the-ask e).asked (subst (λ c. IsAmong y c.asked) (course_same the-ask the-ask' g.mild parent e) a.0) (before the-ask the-ask' g.grows.knows y a.1)

  wants_on : (parent : Option Key) (e : Term) (y : Key) → IsAmong y (wants parent the-ask e) → the-ask' y ≡ None → IsAmong y (wants parent the-ask' e)
  wants_on parent e y m n =
      let a = among_undecided the-ask y (course parent the-ask e).asked m in
      among_wants the-ask' y (course parent the-ask' e).asked (subst (λ c. IsAmong y c.asked) (sym (course_same the-ask the-ask' g.mild parent e)) a.0) n

  bare_on : (j y : Key) (o : Option Outcome) → IsAmong y (if is_none o then j ∷ [] else []) → the-ask' y ≡ None → IsAmong y (if is_none (the-ask' j) then j ∷ [] else [])
  bare_on j y None (inl p) n = subst (λ x. IsAmong y (if is_none x then j ∷ [] else [])) (sym (subst (λ x. the-ask' x ≡ None) (sym p) n)) (inl p)
  bare_on j y None (inr m) n = absurd m
  bare_on j y (Some o) m n = absurd m

  bare_back : (j y : Key) (o : Option Outcome) → the-ask' j ≡ o → IsAmong y (if is_none o then j ∷ [] else []) → IsAmong y (if is_none (the-ask j) then j ∷ [] else [])
  bare_back j y None e m = subst (λ x. IsAmong y (if is_none x then j ∷ [] else [])) (sym (before the-ask the-ask' g.grows.knows j e)) m
  bare_back j y (Some o) e m = absurd m

  leads_on : (k y : Key) (p q : Plan) → PlanGrown p q → IsAmong y (leads_by the-ask k p) → the-ask' y ≡ None → IsAmong y (leads_by the-ask' k q)
  leads_on k y (Unknown p) q h m n = absurd m
  leads_on k y (Now i) q h m n = absurd m
  leads_on k y (Walks e allow) q h m n = subst (λ x. IsAmong y (leads_by the-ask' k x)) (sym h) (wants_on (Some k) e y m n)
  leads_on k y (Asks j) q h m n = subst (λ x. IsAmong y (leads_by the-ask' k x)) (sym h) (bare_on j y (the-ask j) m n)

  leads_back : (k y z : Key) (p q : Plan) → PlanGrown p q → IsAmong z (leads_by the-ask k p) → IsAmong y (leads_by the-ask' k q) → IsAmong y (leads_by the-ask k p)
  leads_back k y z (Unknown p) q h w m = absurd w
  leads_back k y z (Now i) q h w m = absurd w
  leads_back k y z (Walks e allow) q h w m = wants_back (Some k) e y (subst (λ x. IsAmong y (leads_by the-ask' k x)) h m)
  leads_back k y z (Asks j) q h w m = bare_back j y (the-ask' j) refl (subst (λ x. IsAmong y (leads_by the-ask' k x)) h m)

  plans_grown : (k : Key) → PlanGrown (plan s.recorded k) (plan s'.recorded k)
  plans_grown k = plan-grown s.recorded s'.recorded g.grows.longer k

  pub wanted_on : {k : Key} → Wanted s k → outcome_of s' k ≡ None → Wanted s' k
  wanted_on (by_root {k = k} m) n = by_root (subst (λ e. IsAmong k (wants None the-ask' e)) (sym g.root_is) (wants_on None s.root k m n))
  wanted_on (by_key {j = j} {k = k} w m) n =
      elim (g.freed j w) [
        | inl u ↦ by_key (wanted_on w u) (leads_on j k (plan s.recorded j) (plan s'.recorded j) (plans_grown j) m n)
        | inr d ↦ absurd (due_leads s j k d m)
      ]

  -- the keys with their numbers, and the piles
  module _ (es es' : List Entrant) (hole : ℕ → Type 0) (places places' : List ℕ)
      (numbers : (k : Key) (n : ℕ) → number_of (rows_of es) k ≡ Some n → number_of (rows_of es') k ≡ Some n)
      (longer : length es ≤ length es')
      (names : (n : ℕ) → n < length es → key_named es' n ≡ key_named es n)
      (off : (n : ℕ) → number_at places' n ≡ 0 → number_at places n ≡ 0)
      (on : (n : ℕ) → number_at places n ≡ 0 → number_at places' n ≡ 0)
      (took : (n : ℕ) → number_at places' n ≡ 1 → number_at places n ≡ 1)
      (still : (n m : ℕ) → number_at places' n ≡ m + 4 → (number_at places n ≡ m + 4) × (IsWaiting s es places n m → outcome_of s' (key_named es m) ≡ None)) where
    placed_on : (k : Key) → IsPlaced es places k → IsPlaced es' places' k
    placed_on k p = record { number = p.number; number_is = numbers k p.number p.number_is; on = λ z. p.on (off p.number z) }

    decided_on : (k : Key) → IsDecided s k → IsDecided s' k
    decided_on k d u = d (before the-ask the-ask' g.grows.knows k u)

    sound_on : (k : Key) → Wanted s k ⊎ IsDecided s k → Wanted s' k ⊎ IsDecided s' k
    sound_on k (inl w) = go (outcome_of s' k) refl
      where
        go : (o : Option Outcome) → outcome_of s' k ≡ o → Wanted s' k ⊎ IsDecided s' k
        go None e = inl (wanted_on w e)
        go (Some o) e = inr (λ u. none-some u e)
    sound_on k (inr d) = inr (decided_on k d)

    waits_on : (n m : ℕ) → IsWaiting s es places n m → outcome_of s' (key_named es m) ≡ None → IsWaiting s' es' places' n m
    waits_on n m w u =
        let k = key_named es n in
        let y = key_named es m in
        let own = names n w.inside in
        let other = names m w.blocker in
        let more = longer in
        record {
          inside = let a = w.inside in omega arith;
          blocker = let a = w.blocker in omega arith;
          waits_for = subst (λ x. IsAmong (key_named es' m) (leads_to s' x)) (sym own) (subst (λ x. IsAmong x (leads_to s' k)) (sym other) (leads_on k y (plan s.recorded k) (plan s'.recorded k) (plans_grown k) w.waits_for u));
          leads = λ j a. placed_on j (w.leads j (leads_back k j y (plan s.recorded k) (plan s'.recorded k) (plans_grown k) w.waits_for (subst (λ x. IsAmong j (leads_to s' x)) own a)));
        }

    pub known_on : AreKnown s es hole places → AreKnown s' es' hole places'
    known_on e = record {
      by_root =
          λ k m.
          let b = subst (λ x. IsAmong k (wants None the-ask' x)) g.root_is m in
          placed_on k (e.by_root k (wants_back None s.root k b));
      sound =
          λ n z.
          let a = e.sound n (λ h. z (on n h)) in
          let more = longer in
          (let l = a.0 in omega arith, subst (λ x. Wanted s' x ⊎ IsDecided s' x) (sym (names n a.0)) (sound_on (key_named es n) a.1));
      taken =
          λ n z.
          let p = took n z in
          let l = (e.sound n (λ h. zero-one (sym h ∙ p))).0 in
          either (e.taken n p) (λ d. subst (IsDecided s') (sym (names n l)) (decided_on (key_named es n) d));
      waits = λ n m z. let f = still n m z in let w = e.waits n m f.0 in waits_on n m w (f.1 w);
    }
      where
        zero-one : ◌≡◌ {A = ℕ} 0 1 → ⊥
        zero-one h = omega arith

        either : {A B C : Type 0} → A ⊎ B → (B → C) → A ⊎ C
        either (inl a) f = inl a
        either (inr b) f = inr (f b)

-- ---- a step that decides no key

module _ (s s' : State) (grows : Grows s s') (root_is : s'.root ≡ s.root) (asks_are : outcome_of s' ≡ outcome_of s) where
  quiet_step : GoesOn s s'
  quiet_step = record {
    grows = grows;
    root_is = root_is;
    mild = λ parent k. ap (λ (f : Ask). ending_by parent k (f k)) asks_are;
    freed = λ k w. inl (ap (λ (f : Ask). f k) asks_are ∙ wanted-undecided w);
  }

  waited : (k y : Key) → IsAmong y (leads_to s k) → outcome_of s' y ≡ None
  waited k y m = ap (λ (f : Ask). f y) asks_are ∙ leading_undecided s k y m

  pub known_quiet : (es es' : List Entrant) (hole : ℕ → Type 0) (places places' : List ℕ)
      → ((k : Key) (n : ℕ) → number_of (rows_of es) k ≡ Some n → number_of (rows_of es') k ≡ Some n) → length es ≤ length es' → ((n : ℕ) → n < length es → key_named es' n ≡ key_named es n)
      → ((n : ℕ) → number_at places' n ≡ number_at places n)
      → AreKnown s es hole places → AreKnown s' es' hole places'
  known_quiet es es' hole places places' numbers longer names places_are e =
      known_on s s' quiet_step es es' hole places places' numbers longer names
      (λ n z. sym (places_are n) ∙ z)
      (λ n z. places_are n ∙ z)
      (λ n z. sym (places_are n) ∙ z)
      (λ n m z. (sym (places_are n) ∙ z, λ w. waited (key_named es n) (key_named es m) w.waits_for))
      e

  pub known_still : (es : List Entrant) (hole : ℕ → Type 0) (places : List ℕ) → AreKnown s es hole places → AreKnown s' es hole places
  known_still es hole places e = known_quiet es es hole places places (λ k n h. h) (omega arith) (λ n l. refl) (λ n. refl) e

-- a step of a history
pub step_grows : (root : Term) (drawn : List Task) (news : List machine.News) (history : List Step) (s t : State) (e : Event) → Replays root drawn news history s → May e s → t ≡ effect e s → Grows s t
step_grows root drawn news history s t e r may p =
    subst (Grows s) (sym p)
    (subst (λ x. Grows x (effect e x)) r.state_is (step-grows e (after_all root r.events) (lawful-keeps root r.events r.lawful) (subst (May e) (sym r.state_is) may)))

-- ---- a step that changes no more than what is in flight

module _ (s s' : State) (root_is : s'.root ≡ s.root) (recorded_is : s'.recorded ≡ s.recorded) (outcomes_are : s'.outcomes ≡ s.outcomes) where
  pub known_flights : (es : List Entrant) (hole : ℕ → Type 0) (places : List ℕ) → AreKnown s es hole places → AreKnown s' es hole places
  known_flights es hole places e =
      known_still s s' (record { longer = subst (λ r. Longer' s.recorded r) (sym recorded_is) (longer-itself s.recorded); knows = λ k o h. ap (λ os. lookup key_eq os k) outcomes_are ∙ h }) root_is
      (λ i k. lookup key_eq (outcomes_are i) k) es hole places e
