-- Where nothing is in flight and no task is open, the blocking keys of an undecided root lead into a loop; once it is
-- marked, the root is decided or a task is open.
use Rattle.std.specs.Prelude.{◌≡◌, ◌⊎◌, ℕ, zero, suc, true, false, ◌||◌, if◌then◌else◌, List, [], ◌∷◌, ◌++◌, Option, Some, None, is_none, Ok, refl}
use Rattle.std.proofs.Common.{ap, sym, ◌∙◌, subst, inl, inr}
use Rattle.dh_syntax.specs.declared.locations.Key.{Key}
use Rattle.dh_syntax.specs.declared.locations.Loc.{Loc}
use Rattle.dh_syntax.specs.Expressions.SameTree.{loc_eq}
use Rattle.dh_syntax.specs.Expressions.Tree.{Term}
use Rattle.dh_syntax.proofs.SameTree.{locs_tell}
use Rattle.dh_syntax.specs.Imports.Keys.{bare, key_eq}
use Rattle.dh_imports.specs.Machine.{Task, Fetch, Look, Finish, IsAmong, State, outcome_of, stage_of, root_walk, leads_by, Wanted, by_root, by_key, IsDue, TaskOf, looks, fetches, finishes, IsOpen, Blocks, Cycled, May, effect}
use Rattle.dh_imports.specs.Outcomes.{Outcome, Loop, Good, Bad}
use Rattle.dh_imports.specs.Records.{lookup, Noted, Found}
use Rattle.dh_imports.specs.Replay.{with_bare, keys_noted, keys_found, keys}
use Rattle.dh_imports.specs.Resolver.{TextOf, LookOf, Plan, Unknown, Now, Walks, Asks, plan, Stage, Lacks, Has, Meets, Waits, of_walk, of_bare, of_plan, is_in, least_back_to}
use Rattle.dh_imports.specs.Walk.{Ask, Walked, Ready, Fails, Turns, Needs, walk, course, keys_of}
use Rattle.dh_laws.proofs.KeyOrder.{bool-case, true_false, none-some, some-equal, key_eq-true, key_eq-itself}
use Rattle.dh_import_laws.proofs.Walks.{Knows, OnNeed, Grown, walk-grown, Told, walk-told}
use Rattle.dh_import_laws.proofs.Grow.{longer-itself, OnWait, StageGrown, stage-grown, StageTold, stage-told}
use Rattle.dh_import_laws.proofs.Graph.{Way, here, there, Trail, begins, follows, Lasso, one_more, joined, ring-found}
use Rattle.dh_import_laws.proofs.Calm.{at-same, at-other, at-grown, waits-equal, IsWaits}
use Rattle.dh_import_laws.proofs.Plans.{PlanTold, plan-told, among_wants, wanted-undecided}
use Rattle.dh_import_laws.proofs.Keep.{nothing_flies}
use Rattle.dh_import_laws.proofs.Wants.{among_left, among_right, needs-asked, asked-keys}

-- ---- what a waiting key waits for

abbrev WaitsBy : Ask → Key → Key → Plan → Type 0
WaitsBy ask k y (Unknown p) = ⊥
WaitsBy ask k y (Now i) = ⊥
WaitsBy ask k y (Walks e allow) = walk (Some k) ask e ≡ Needs y
WaitsBy ask k y (Asks j) = (j ≡ y) × (ask j ≡ None)

not_waits : {P : Type 0} {y : Key} (s : Stage) → (IsWaits s → P) → s ≡ Waits y → P
not_waits s f h = f (subst IsWaits (sym h) tt)

walk-waits : (allow : Option (List ℕ)) (y : Key) (w : Walked Term) → of_walk allow w ≡ Waits y → w ≡ Needs y
walk-waits allow y (Ready e) h = not_waits (of_walk allow (Ready e)) (λ n. absurd n) h
walk-waits allow y (Fails b) h = not_waits (of_walk allow (Fails b)) (λ n. absurd n) h
walk-waits allow y (Turns j) h = not_waits (of_walk allow (Turns j)) (λ n. absurd n) h
walk-waits allow y (Needs z) h = ap (λ x. Needs x) (waits-equal h)

bare-waits : (j y : Key) (o : Option Outcome) → of_bare j o ≡ Waits y → (j ≡ y) × (o ≡ None)
bare-waits j y None h = (waits-equal h, refl)
bare-waits j y (Some (Good v o)) h = not_waits (of_bare j (Some (Good v o))) (λ n. absurd n) h
bare-waits j y (Some (Bad b)) h = not_waits (of_bare j (Some (Bad b))) (λ n. absurd n) h
bare-waits j y (Some (Loop i)) h = not_waits (of_bare j (Some (Loop i))) (λ n. absurd n) h

plan-waits : (ask : Ask) (k y : Key) (p : Plan) → of_plan ask k p ≡ Waits y → WaitsBy ask k y p
plan-waits ask k y (Unknown p) h = not_waits (Lacks p) (λ n. n) h
plan-waits ask k y (Now i) h = not_waits (Has i) (λ n. n) h
plan-waits ask k y (Walks e allow) h = walk-waits allow y (walk (Some k) ask e) h
plan-waits ask k y (Asks j) h = bare-waits j y (ask j) h

leads_on : (ask : Ask) (k y : Key) (p : Plan) → WaitsBy ask k y p → IsAmong y (leads_by ask k p)
leads_on ask k y (Unknown p) w = absurd w
leads_on ask k y (Now i) w = absurd w
leads_on ask k y (Walks e allow) w =
    among_wants ask y (course (Some k) ask e).asked (needs-asked (Some k) ask e y w) (subst (λ x. Told ask x) w (walk-told (Some k) ask e))
leads_on ask k y (Asks j) (p, n) = subst (λ o. IsAmong y (if is_none o then j ∷ [] else [])) (sym n) (inl p)

pub next_wanted : (s : State) (k y : Key) → Wanted s k → stage_of s k ≡ Waits y → Wanted s y
next_wanted s k y w h = by_key w (leads_on (outcome_of s) k y (plan s.recorded k) (plan-waits (outcome_of s) k y (plan s.recorded k) h))

pub root_wanted : (s : State) (y : Key) → root_walk s ≡ Needs y → Wanted s y
root_wanted s y h =
    by_root (among_wants (outcome_of s) y (course None (outcome_of s) s.root).asked (needs-asked None (outcome_of s) s.root y h)
    (subst (λ x. Told (outcome_of s) x) h (walk-told None (outcome_of s) s.root)))

-- ---- the keys that a table knows are closed under blocking keys

in_with_bare : (k : Key) (ks : List Key) → IsAmong k ks → IsAmong k (with_bare ks)
in_with_bare k [] m = absurd m
in_with_bare k (j ∷ js) (inl p) = inl p
in_with_bare k (j ∷ js) (inr n) = inr (inr (in_with_bare k js n))

bare_in : (k : Key) (ks : List Key) → IsAmong k (with_bare ks) → IsAmong (bare k) (with_bare ks)
bare_in k [] m = absurd m
bare_in k (j ∷ js) (inl p) = inr (inl (ap bare p))
bare_in k (j ∷ js) (inr (inl p)) = inr (inl (ap bare p))
bare_in k (j ∷ js) (inr (inr n)) = inr (inr (bare_in k js n))

found_keys : (l : Loc) (bytes : List ℕ) (allow : Option (List ℕ)) (e : Term) (y : Key) (ts : List (Loc × Noted)) → lookup loc_eq ts l ≡ Some (Found bytes allow (Ok e))
    → IsAmong y (keys_of (Some l) e) → IsAmong y (keys_found ts)
found_keys l bytes allow e y [] h m = none-some refl h
found_keys l bytes allow e y (t ∷ ts) h m = go (bool-case (loc_eq t.0 l)) (λ q. found_keys l bytes allow e y ts q m)
  where
    go : (loc_eq t.0 l ≡ true) ⊎ (loc_eq t.0 l ≡ false) → (lookup loc_eq ts l ≡ Some (Found bytes allow (Ok e)) → IsAmong y (keys_found ts)) → IsAmong y (keys_noted t.0 t.1 ++ keys_found ts)
    go (inr n) f = among_right y (keys_noted t.0 t.1) (keys_found ts) (f (subst (λ b. (if b then Some t.1 else lookup loc_eq ts l) ≡ Some (Found bytes allow (Ok e))) n h))
    go (inl p) f =
        let same : t.1 ≡ Found bytes allow (Ok e) = some-equal (subst (λ b. (if b then Some t.1 else lookup loc_eq ts l) ≡ Some (Found bytes allow (Ok e))) p h) in
        among_left y (keys_noted t.0 t.1) (keys_found ts)
        (subst (λ x. IsAmong y (keys_noted t.0 x)) (sym same) (subst (λ x. IsAmong y (keys_of (Some x) e)) (sym (locs_tell.equal t.0 l p)) m))

root_key : (s : State) (y : Key) → root_walk s ≡ Needs y → IsAmong y (keys s)
root_key s y h =
    in_with_bare y (keys_of None s.root ++ keys_found s.recorded.texts)
    (among_left y (keys_of None s.root) (keys_found s.recorded.texts) (asked-keys None (outcome_of s) y s.root (needs-asked None (outcome_of s) s.root y h)))

next_key_by : (s : State) (k y : Key) (p : Plan) → PlanTold s.recorded k p → WaitsBy (outcome_of s) k y p → IsAmong k (keys s) → IsAmong y (keys s)
next_key_by s k y (Unknown p) t w m = absurd w
next_key_by s k y (Now i) t w m = absurd w
next_key_by s k y (Walks e allow) (f, (bytes, t)) w m =
    in_with_bare y (keys_of None s.root ++ keys_found s.recorded.texts)
    (among_right y (keys_of None s.root) (keys_found s.recorded.texts)
    (found_keys k.loc bytes allow e y s.recorded.texts t (asked-keys (Some k) (outcome_of s) y e (needs-asked (Some k) (outcome_of s) e y w))))
next_key_by s k y (Asks j) (b, t) (p, n) m =
    subst (λ x. IsAmong x (keys s)) (sym b ∙ p) (bare_in k (keys_of None s.root ++ keys_found s.recorded.texts) m)

next_key : (s : State) (k y : Key) → stage_of s k ≡ Waits y → IsAmong k (keys s) → IsAmong y (keys s)
next_key s k y h m = next_key_by s k y (plan s.recorded k) (plan-told s.recorded k) (plan-waits (outcome_of s) k y (plan s.recorded k) h) m

-- ---- lists of keys that are still free

abbrev HasAtMost : ℕ → List Key → Type 0
HasAtMost n [] = Unit {0}
HasAtMost zero (k ∷ ks) = ⊥
HasAtMost (suc n) (k ∷ ks) = HasAtMost n ks

abbrev count : List Key → ℕ
count [] = zero
count (k ∷ ks) = suc (count ks)

has_count : (ks : List Key) → HasAtMost (count ks) ks
has_count [] = tt
has_count (k ∷ ks) = has_count ks

abbrev drop : Key → List Key → List Key
drop k [] = []
drop k (j ∷ js) = if key_eq j k then js else j ∷ drop k js

one_less : (n : ℕ) (k : Key) (ks : List Key) → IsAmong k ks → HasAtMost (suc n) ks → HasAtMost n (drop k ks)
one_less n k [] m h = absurd m
one_less zero k (j ∷ []) m h = go (bool-case (key_eq j k)) m
  where
    go : (key_eq j k ≡ true) ⊎ (key_eq j k ≡ false) → IsAmong k (j ∷ []) → HasAtMost zero (if key_eq j k then [] else j ∷ [])
    go (inl e) m = subst (λ b. HasAtMost zero (if b then [] else j ∷ [])) (sym e) tt
    go (inr e) (inl p) = true_false (subst (λ x. key_eq j x ≡ true) p (key_eq-itself j)) e
    go (inr e) (inr n) = absurd n
one_less zero k (j ∷ i ∷ js) m h = absurd h
one_less (suc n) k (j ∷ js) m h = go (bool-case (key_eq j k)) m (λ q. one_less n k js q h)
  where
    go : (key_eq j k ≡ true) ⊎ (key_eq j k ≡ false) → IsAmong k (j ∷ js) → (IsAmong k js → HasAtMost n (drop k js)) → HasAtMost (suc n) (if key_eq j k then js else j ∷ drop k js)
    go (inl e) m f = subst (λ b. HasAtMost (suc n) (if b then js else j ∷ drop k js)) (sym e) h
    go (inr e) (inl p) f = true_false (subst (λ x. key_eq j x ≡ true) p (key_eq-itself j)) e
    go (inr e) (inr m) f = subst (λ b. HasAtMost (suc n) (if b then js else j ∷ drop k js)) (sym e) (f m)

still_free : (k z : Key) (ks : List Key) → key_eq k z ≡ false → IsAmong z ks → IsAmong z (drop k ks)
still_free k z [] d m = m
still_free k z (j ∷ js) d m = go (bool-case (key_eq j k)) m (λ n. still_free k z js d n)
  where
    go : (key_eq j k ≡ true) ⊎ (key_eq j k ≡ false) → IsAmong z (j ∷ js) → (IsAmong z js → IsAmong z (drop k js)) → IsAmong z (if key_eq j k then js else j ∷ drop k js)
    go (inl e) (inl p) f = true_false (subst (λ x. key_eq x z ≡ true) (key_eq-true j k e) (subst (λ x. key_eq j x ≡ true) p (key_eq-itself j))) d
    go (inl e) (inr n) f = subst (λ b. IsAmong z (if b then js else j ∷ drop k js)) (sym e) n
    go (inr e) (inl p) f = subst (λ b. IsAmong z (if b then js else j ∷ drop k js)) (sym e) (inl p)
    go (inr e) (inr n) f = subst (λ b. IsAmong z (if b then js else j ∷ drop k js)) (sym e) (inr (f n))

nothing_free : {P : Type 0} (k : Key) (ks : List Key) → HasAtMost zero ks → IsAmong k ks → P
nothing_free k [] h m = absurd m
nothing_free k (j ∷ js) h m = absurd h

-- ---- the loop

module _ (s : State) (idle : s.flights ≡ []) (none : (t : Task) → ¬ IsOpen s t) where
  abbrev To : Key → Key → Type 0
  To x y = Blocks s.recorded (outcome_of s) x y

  open_at : (t : Task) → TaskOf s t → IsOpen s t
  open_at t d = record { due = d; free = λ n h. nothing_flies s.flights n t idle h }

  -- what a wanted key waits for
  pub waits_at : (k : Key) → Wanted s k → (x : Stage) → stage_of s k ≡ x → (y : Key) × (stage_of s k ≡ Waits y)
  waits_at k w (Lacks (TextOf l)) e = absurd (none (Fetch l) (open_at (Fetch l) (fetches w e)))
  waits_at k w (Lacks (LookOf d)) e = absurd (none (Look d) (open_at (Look d) (looks w e)))
  waits_at k w (Has i) e = absurd (none (Finish k) (open_at (Finish k) (finishes w (subst IsDue (sym e) tt))))
  waits_at k w (Meets j) e = absurd (none (Finish k) (open_at (Finish k) (finishes w (subst IsDue (sym e) tt))))
  waits_at k w (Waits y) e = (y, e)

  pub one : (x y z : Key) → To x y → To x z → y ≡ z
  one x y z a b = waits-equal (sym a.1 ∙ b.1)

  chase : (first : Key) (n : ℕ) (free : List Key) (x : Key) (cs : List Key) → HasAtMost n free → Wanted s x → IsAmong x (keys s) → Trail To x cs
      → ((z : Key) → IsAmong z (keys s) → (is_in z cs ≡ true) ⊎ IsAmong z free) → Way To first x → (j : Key) × Lasso To first j
  chase first zero free x cs h w m t cover way = go (cover x m)
    where
      go : (is_in x cs ≡ true) ⊎ IsAmong x free → (j : Key) × Lasso To first j
      go (inl i) = let f = ring-found To one x cs t i in (least_back_to x cs, record { way = joined To way f.way; next = f.next; step = f.step; ring = f.ring })
      go (inr n) = nothing_free x free h n
  chase first (suc n) free x cs h w m t cover way =
      go (cover x m) (waits_at x w (stage_of s x) refl) (λ y f e. chase first n (drop x free) y (x ∷ cs) (one_less n x free f h) (next_wanted s x y w e) (next_key s x y e m) (follows (wanted-undecided w, e) t) (covers f) (one_more To way (wanted-undecided w, e)))
    where
      covers : IsAmong x free → (z : Key) → IsAmong z (keys s) → (is_in z (x ∷ cs) ≡ true) ⊎ IsAmong z (drop x free)
      covers f z q = by (bool-case (key_eq x z)) (cover z q)
        where
          by : (key_eq x z ≡ true) ⊎ (key_eq x z ≡ false) → (is_in z cs ≡ true) ⊎ IsAmong z free → (key_eq x z || is_in z cs ≡ true) ⊎ IsAmong z (drop x free)
          by (inl e) c = inl (subst (λ b. b || is_in z cs ≡ true) (sym e) refl)
          by (inr e) (inl i) = inl (subst (λ b. b || is_in z cs ≡ true) (sym e) i)
          by (inr e) (inr f) = inr (still_free x z free e f)

      go : (is_in x cs ≡ true) ⊎ IsAmong x free → (y : Key) × (stage_of s x ≡ Waits y) → ((y : Key) → IsAmong x free → stage_of s x ≡ Waits y → (j : Key) × Lasso To first j) → (j : Key) × Lasso To first j
      go (inl i) y f = let g = ring-found To one x cs t i in (least_back_to x cs, record { way = joined To way g.way; next = g.next; step = g.step; ring = g.ring })
      go (inr n) (y, e) f = f y n e

  root_lasso : (y : Key) → root_walk s ≡ Needs y → (j : Key) × Lasso To y j
  root_lasso y h = chase y (count (keys s)) (keys s) y [] (has_count (keys s)) (root_wanted s y h) (root_key s y h) begins (λ z m. inr m) here

  -- ---- what the mark does

  module _ (j : Key) (u : outcome_of s j ≡ None) where
    marked : State
    marked = effect (Cycled j) s

    marked_known : Knows (outcome_of s) (outcome_of (effect (Cycled j) s))
    marked_known = at-grown s.outcomes j (Loop j) u

    marked_stage : (x y : Key) → To x y → OnWait y (stage_of (effect (Cycled j) s) x) (outcome_of (effect (Cycled j) s) y)
    marked_stage x y b =
        subst (λ z. StageGrown (outcome_of (effect (Cycled j) s)) z (stage_of (effect (Cycled j) s) x)) b.1
        (stage-grown s.recorded s.recorded (longer-itself s.recorded) (outcome_of s) (outcome_of (effect (Cycled j) s)) marked_known x)

    still_none : (y : Key) → outcome_of s y ≡ None → key_eq j y ≡ false → outcome_of (effect (Cycled j) s) y ≡ None
    still_none y e d = at-other s.outcomes j y (Loop j) d ∙ e

    open_after : (t : Task) → TaskOf (effect (Cycled j) s) t → IsOpen (effect (Cycled j) s) t
    open_after t d = record { due = d; free = λ n h. nothing_flies s.flights n t idle h }

    undecided_next : (x y : Key) → To x y → outcome_of s y ≡ None
    undecided_next x y b = subst (λ z. StageTold s.recorded (outcome_of s) x z) b.1 (stage-told s.recorded (outcome_of s) x)

    follow : (x : Key) → Way To x j → key_eq j x ≡ false → Wanted (effect (Cycled j) s) x → (t : Task) × IsOpen (effect (Cycled j) s) t
    follow x here d w = true_false (key_eq-itself j) d
    follow x (there {y = y} b v) d w = go (bool-case (key_eq j y)) (λ f q. follow y v f q)
      where
        go : (key_eq j y ≡ true) ⊎ (key_eq j y ≡ false) → (key_eq j y ≡ false → Wanted (effect (Cycled j) s) y → (t : Task) × IsOpen (effect (Cycled j) s) t) → (t : Task) × IsOpen (effect (Cycled j) s) t
        go (inl e) f =
            let m : stage_of (effect (Cycled j) s) x ≡ Meets j = subst (λ o. OnWait y (stage_of (effect (Cycled j) s) x) o) (at-same s.outcomes j y (Loop j) e) (marked_stage x y b) in
            (Finish x, open_after (Finish x) (finishes w (subst IsDue (sym m) tt)))
        go (inr e) f =
            let n : stage_of (effect (Cycled j) s) x ≡ Waits y = subst (λ o. OnWait y (stage_of (effect (Cycled j) s) x) o) (still_none y (undecided_next x y b) e) (marked_stage x y b) in
            f e (next_wanted (effect (Cycled j) s) x y w n)

    pub root_after : (y : Key) → root_walk s ≡ Needs y → Way To y j
        → (root_walk (effect (Cycled j) s) ≡ Turns j) ⊎ ((t : Task) × IsOpen (effect (Cycled j) s) t)
    root_after y h way = go (bool-case (key_eq j y))
      where
        g : OnNeed y (root_walk (effect (Cycled j) s)) (outcome_of (effect (Cycled j) s) y)
        g = subst (λ z. Grown (outcome_of (effect (Cycled j) s)) z (root_walk (effect (Cycled j) s))) h (walk-grown None (outcome_of s) (outcome_of (effect (Cycled j) s)) marked_known s.root)

        n : outcome_of s y ≡ None
        n = subst (λ x. Told (outcome_of s) x) h (walk-told None (outcome_of s) s.root)

        go : (key_eq j y ≡ true) ⊎ (key_eq j y ≡ false) → (root_walk (effect (Cycled j) s) ≡ Turns j) ⊎ ((t : Task) × IsOpen (effect (Cycled j) s) t)
        go (inl e) = inl (subst (λ o. OnNeed y (root_walk (effect (Cycled j) s)) o) (at-same s.outcomes j y (Loop j) e) g)
        go (inr e) =
            inr (follow y way e (root_wanted (effect (Cycled j) s) y (subst (λ o. OnNeed y (root_walk (effect (Cycled j) s)) o) (still_none y n e) g)))

  pub goes_on : (y : Key) → root_walk s ≡ Needs y
      → (j : Key) × May (Cycled j) s × ((root_walk (effect (Cycled j) s) ≡ Turns j) ⊎ ((t : Task) × IsOpen (effect (Cycled j) s) t))
  goes_on y h =
      let f = root_lasso y h in
      (f.0, (idle, none, (f.1.next, f.1.step, f.1.ring)), root_after f.0 (f.1.step).0 y h f.1.way)
