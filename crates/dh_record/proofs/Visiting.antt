-- The keys that a ready root visits, as their asked keys are marked.
use Rattle.std.specs.Prelude.{◌≡◌, ◌<◌, ◌≤◌, ℕ, Bool, true, false, List, [], ◌∷◌, length, replicate, Option, Some, None, slice_set, refl}
use Rattle.std.proofs.Common.{ap, sym, ◌∙◌, subst, arith, inl, inr, Bor}
use Rattle.std.proofs.lemmas.List.{length-replicate}
use Rattle.dh_syntax.specs.declared.locations.Key.{Key}
use Rattle.dh_syntax.specs.Expressions.Bridge.{term}
use Rattle.dh_syntax.specs.Expressions.Tree.{Term}
use Rattle.dh_imports.specs.Keeps.{Visited, by_root, by_key, asked_by}
use Rattle.dh_imports.specs.Machine.{IsAmong}
use Rattle.dh_imports.specs.Records.{Record}
use Rattle.dh_imports.specs.Resolver.{Plan, TextOf, LookOf, Unknown, Now, Walks, Asks, plan}
use Rattle.dh_imports.specs.Walk.{Ask, course, keys_of, place}
use Rattle.dh_import_laws.proofs.Wants.{asked-keys}
use Rattle.dh_demand.specs.declared.scans.Edge.{Edge}
use Rattle.dh_demand.specs.declared.scans.Scan.{Scan}
use Rattle.dh_demand.specs.Results.{Row, ask_of}
use Rattle.dh_demand.specs.Scans.{Fits, text_key}
use Rattle.dh_demand.specs.Wants.{AreMarked}
use Rattle.dh_demand.specs.Inside.Marking.{mark}
use Rattle.dh_demand.proofs.Wanting.{are_marked}
use Rattle.dh_record.specs.declared.stage.plans.Plan as program_plan
use Rattle.dh_record.specs.declared.stage.plans.Plan.TheVariants as plans
use Rattle.dh_record.specs.declared.rows.recorded.Entrant.{Entrant}
use Rattle.dh_record.specs.Keeping.{AreVisiting, AreVisited}
use Rattle.dh_record.specs.Reading.{IsNumbered, IsPlan}
use Rattle.dh_record.specs.Marks.{IsMarked, is_set}
use Rattle.dh_record.specs.Rows.{key_named, rows_of}
use Rattle.dh_record.proofs.Reaching.{plan_walks}
use Rattle.dh_record.proofs.Reading.{begun, number_names}
use Rattle.dh_record.proofs.Marking.{marked_kept, nothing_set, set_cases}

-- ---- the keys that a key asks

-- the keys that a walk asks have numbers
pub walk_numbered : (parent : Option Key) (rows : List Row) (ask : Ask) (e : Term) (es : List Edge) (k : Key) → Fits (place parent) rows e es → IsAmong k (course parent ask e).asked → IsNumbered rows k
walk_numbered parent rows ask e es k f m = begun (place parent) rows (keys_of (place parent) e) es k f.begins (asked-keys parent ask k e m)

module _ (rows : List Row) (k : Key) where
  pub asks_numbered : (p : Plan) (r : program_plan.Plan) (j : Key) → IsPlan rows k p r → IsAmong j (asked_by (ask_of rows) k p) → IsNumbered rows j
  asks_numbered (Unknown q) r j h m = absurd m
  asks_numbered (Now i) r j h m = absurd m
  asks_numbered (Walks e allow) (plans.Walk s a) j h m = walk_numbered (Some k) rows (ask_of rows) e (s.now.edges) j h.fits m
  asks_numbered (Walks e allow) plans.Fetch j h m = absurd h
  asks_numbered (Walks e allow) plans.Look j h m = absurd h
  asks_numbered (Walks e allow) (plans.Now d) j h m = absurd h
  asks_numbered (Walks e allow) (plans.Ask n) j h m = absurd h
  asks_numbered (Asks i) (plans.Ask n) j h (inl p) = subst (IsNumbered rows) p (n, h)
  asks_numbered (Asks i) (plans.Ask n) j h (inr m) = absurd m
  asks_numbered (Asks i) plans.Fetch j h m = absurd h
  asks_numbered (Asks i) plans.Look j h m = absurd h
  asks_numbered (Asks i) (plans.Now d) j h m = absurd h
  asks_numbered (Asks i) (plans.Walk s a) j h m = absurd h

  pub walk_asks : (p : Plan) (s : Bor Scan) (a : Bor (Option (List ℕ))) (old new : List Bool) → AreMarked rows (course (text_key (Some k.loc)) (ask_of rows) (term s.now.expr)).asked old new → IsPlan rows k p (plans.Walk s a)
      → AreMarked rows (asked_by (ask_of rows) k p) old new
  walk_asks p s a old new m h =
      let w = plan_walks rows k p s a h in
      subst (λ x. AreMarked rows (asked_by (ask_of rows) k x) old new) (sym w.2)
      (subst (λ e. AreMarked rows (course (Some k) (ask_of rows) e).asked old new) (sym w.3.expr_is)
      (subst (λ j. AreMarked rows (course j (ask_of rows) (term s.now.expr)).asked old new) w.3.text_is m))

  pub bare_asks : (p : Plan) (n : ℕ) (marks : List Bool) → IsPlan rows k p (plans.Ask n) → AreMarked rows (asked_by (ask_of rows) k p) marks (slice_set marks n true)
  bare_asks (Unknown (TextOf l)) n marks h = absurd h
  bare_asks (Unknown (LookOf d)) n marks h = absurd h
  bare_asks (Now i) n marks h = absurd h
  bare_asks (Walks e allow) n marks h = absurd h
  bare_asks (Asks j) n marks h = are_marked rows (j ∷ []) marks (slice_set marks n true) (ap (λ o. mark o marks) (sym h))

  abbrev pub IsQuiet : program_plan.Plan → Type 0
  IsQuiet plans.Fetch = Unit {0}
  IsQuiet plans.Look = Unit {0}
  IsQuiet (plans.Now d) = Unit {0}
  IsQuiet (plans.Walk s a) = ⊥
  IsQuiet (plans.Ask n) = ⊥

  pub quiet_asks : (p : Plan) (r : program_plan.Plan) (marks : List Bool) → IsQuiet r → IsPlan rows k p r → AreMarked rows (asked_by (ask_of rows) k p) marks marks
  quiet_asks (Unknown q) r marks i h = are_marked rows [] marks marks refl
  quiet_asks (Now j) r marks i h = are_marked rows [] marks marks refl
  quiet_asks (Walks e allow) plans.Fetch marks i h = absurd h
  quiet_asks (Walks e allow) plans.Look marks i h = absurd h
  quiet_asks (Walks e allow) (plans.Now d) marks i h = absurd h
  quiet_asks (Walks e allow) (plans.Walk s a) marks i h = absurd i
  quiet_asks (Walks e allow) (plans.Ask n) marks i h = absurd i
  quiet_asks (Asks j) plans.Fetch marks i h = absurd h
  quiet_asks (Asks j) plans.Look marks i h = absurd h
  quiet_asks (Asks j) (plans.Now d) marks i h = absurd h
  quiet_asks (Asks j) (plans.Walk s a) marks i h = absurd i
  quiet_asks (Asks j) (plans.Ask n) marks i h = absurd i

-- ---- one key after the other

module _ (r : Record) (root : Term) (keys : List Entrant) (marks marks' seen seen' : List Bool) (n : ℕ) (inside : n < length keys) (set : is_set marks n ≡ true) (fit : length keys ≤ length marks)
    (marked : AreMarked (rows_of keys) (asked_by (ask_of (rows_of keys)) (key_named keys n) (plan r (key_named keys n))) marks marks')
    (numbered : (j : Key) → IsAmong j (asked_by (ask_of (rows_of keys)) (key_named keys n) (plan r (key_named keys n))) → IsNumbered (rows_of keys) j)
    (seen_is : seen' ≡ slice_set seen n true) (v : AreVisiting r root keys marks seen) where
  asks_marked : (j : Key) → IsAmong j (asked_by (ask_of (rows_of keys)) (key_named keys n) (plan r (key_named keys n))) → IsMarked keys marks' j
  asks_marked j m =
      let x = numbered j m in
      let at = number_names keys j x.0 x.1 in
      let l : x.0 < length marks = let a = at.0 in omega arith in
      record { number = x.0; number_is = x.1; set = marked.set x.0 l (j, m, x.1) }

  pub visits_more : AreVisiting r root keys marks' seen'
  visits_more = record {
    by_root = λ k m. marked_kept keys marks marks' marked.kept k (v.by_root k m);
    sound =
        λ x h.
        elim (marked.only x h) [
          | inl old ↦ v.sound x old
          | inr (j, m, q) ↦
              let at = number_names keys j x q in
              (at.0, subst (Visited r (ask_of (rows_of keys)) root) (sym at.1) (by_key (v.sound n set).1 m))
        ];
    closed =
        λ x h.
        elim (set_cases seen n x (subst (λ bs. is_set bs x ≡ true) seen_is h)) [
          | inl p ↦ subst (λ y. (j : Key) → IsAmong j (asked_by (ask_of (rows_of keys)) (key_named keys y) (plan r (key_named keys y))) → IsMarked keys marks' j) (sym p) asks_marked
          | inr old ↦ (λ j m. marked_kept keys marks marks' marked.kept j (v.closed x old j m))
        ];
  }

-- ---- the first keys, and the last

pub first_visits : (r : Record) (root : Term) (keys : List Entrant) (edges : List Edge) (size others : ℕ) (old marks seen : List Bool) → Fits None (rows_of keys) root edges → length keys ≤ size
    → old ≡ replicate size false → AreMarked (rows_of keys) (course None (ask_of (rows_of keys)) root).asked old marks → seen ≡ replicate others false → AreVisiting r root keys marks seen
first_visits r root keys edges size others old marks seen fits fit old_is m seen_is = record {
  by_root =
      λ k q.
      let x = walk_numbered None (rows_of keys) (ask_of (rows_of keys)) root edges k fits q in
      let inside = number_names keys k x.0 x.1 in
      let l : x.0 < length old = let a = inside.0 in let b = ap length old_is ∙ length-replicate size false in omega arith in
      record { number = x.0; number_is = x.1; set = m.set x.0 l (k, q, x.1) };
  sound =
      λ n h.
      elim (m.only n h) [
        | inl o ↦ absurd (nothing_set size n (subst (λ bs. is_set bs n ≡ true) old_is o))
        | inr (j, w, q) ↦ (let inside = number_names keys j n q in (inside.0, subst (Visited r (ask_of (rows_of keys)) root) (sym inside.1) (by_root w)))
      ];
  closed = λ n h. absurd (nothing_set others n (subst (λ bs. is_set bs n ≡ true) seen_is h));
}

module _ (r : Record) (root : Term) (keys : List Entrant) (marks seen : List Bool) (v : AreVisiting r root keys marks seen) (still : (n : ℕ) → n < length keys → is_set marks n ≡ true → is_set seen n ≡ true) where
  visited_marked : {k : Key} → Visited r (ask_of (rows_of keys)) root k → IsMarked keys marks k
  visited_marked {k} (by_root m) = v.by_root k m
  visited_marked {k} (by_key {j = j} w m) =
      let x = visited_marked w in
      let named = (number_names keys j x.number x.number_is).1 in
      v.closed x.number (still x.number (v.sound x.number x.set).0 x.set) k (subst (λ (i : Key). IsAmong k (asked_by (ask_of (rows_of keys)) i (plan r i))) (sym named) m)

  pub all_visited : AreVisited r root keys marks
  all_visited = record { sound = v.sound; complete = λ k w. visited_marked w }
