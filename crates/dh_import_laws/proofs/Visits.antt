-- At a ready root the keys that are visited by the table's outcomes are those that the resolver visits.
use Rattle.std.specs.Prelude.{◌≡◌, ◌⊎◌, ℕ, Bool, true, false, if◌then◌else◌, List, [], ◌∷◌, ◌++◌, Option, Some, None, refl}
use Rattle.std.proofs.Common.{ap, sym, ◌∙◌, subst, inl, inr}
use Rattle.dh_syntax.specs.declared.expressions.Op.{Op}
use Rattle.dh_syntax.specs.declared.locations.Key.{Key}
use Rattle.dh_imports.specs.declared.outcomes.Blame.{Blame}
use Rattle.dh_imports.specs.declared.outcomes.Why.TheVariants.{Insane}
use Rattle.dh_syntax.specs.Expressions.Tree.{Row, Leaf, Node, end, kid, Name, Var, Term}
use Rattle.dh_syntax.specs.Normalising.Trees.{replace_row}
use Rattle.dh_import_laws.specs.ImportLaws.{VisitsAreResolved}
use Rattle.dh_imports.specs.Keeps.{asked_by, Visited, by_root, by_key}
use Rattle.dh_syntax.specs.Imports.Keys.{chained}
use Rattle.dh_imports.specs.LastStep.{Item}
use Rattle.dh_imports.specs.Machine.{IsAmong, outcome_of, after_all}
use Rattle.dh_imports.specs.Outcomes.{Outcome, Good, Bad, Loop, may_go_on}
use Rattle.dh_imports.specs.Records.{Record}
use Rattle.dh_imports.specs.Resolver.{Plan, Unknown, Now, Walks, Asks, plan, Stage, Lacks, Has, Meets, Waits, of_walk, of_bare, of_plan, stage, ended, resolve}
use Rattle.dh_imports.specs.Walk.{Ask, place, Form, importing, choosing, other, form_of, Walked, Ready, Fails, Turns, Needs, and_then, or_else, in_order, by_outcome, is_sane, walk_key, walk_node, walk, walks, Ending, Goes, Stops, Circles, Course, after, then_by, else_by, all_courses, ending_by, course_key, course_node, course, courses}
use Rattle.dh_laws.proofs.KeyOrder.{bool-case, none-some, key_eq-true}
use Rattle.dh_import_laws.proofs.Walks.{Knows, Grown, walk-grown}
use Rattle.dh_import_laws.proofs.Grow.{longer-itself, StageGrown, stage-grown}
use Rattle.dh_import_laws.proofs.Calm.{Outcomes, at, IsCalm, at-same, at-other, at-grown}
use Rattle.dh_import_laws.proofs.Sound.{Log, start, fin, cyc, decided_all}
use Rattle.dh_import_laws.proofs.Keep.{lawful-keeps}
use Rattle.dh_import_laws.proofs.Wants.{CourseOf, among_left, among_right, among-split, walk-course}
use Rattle.dh_syntax.specs.Imports.Keys.{key_eq}

-- the key has an outcome that is no loop
abbrev IsSettled : Ask → Key → Type 0
IsSettled ask y = (o : Outcome) × (ask y ≡ Some o) × IsCalm (Some o)

abbrev AllSettled : Ask → List Key → Type 0
AllSettled ask ks = (y : Key) → IsAmong y ks → IsSettled ask y

both-settled : (ask : Ask) (ks js : List Key) → AllSettled ask ks → AllSettled ask js → AllSettled ask (ks ++ js)
both-settled ask ks js f g y m = go (among-split y ks js m)
  where
    go : IsAmong y ks ⊎ IsAmong y js → IsSettled ask y
    go (inl n) = f y n
    go (inr n) = g y n

-- the walk has come to its end, at no loop
abbrev IsQuiet : {X : Type 0} → Walked X → Type 0
IsQuiet (Ready x) = Unit {0}
IsQuiet (Fails b) = Unit {0}
IsQuiet (Turns j) = ⊥
IsQuiet (Needs y) = ⊥

-- the course of the walk; where the walk has come to its end at no loop, all that it asks is settled
abbrev Settles : {X : Type 0} → Ask → Walked X → Course → Type 0
Settles ask w c = CourseOf w c × (IsQuiet w → AllSettled ask c.asked)

abbrev chosen : Bool → Course → Course → Course
chosen b c d = if b then c else d

cons_nil : {A P : Type 0} {a : A} {xs : List A} → a ∷ xs ≡ [] → P
cons_nil p = cc

nothing-asked : (ask : Ask) → AllSettled ask []
nothing-asked ask y m = absurd m

module _ (ask : Ask) where
  then-settles : {X Y : Type 0} (w : Walked X) (f : X → Walked Y) (c d : Course) → Settles ask w c → ((x : X) → IsQuiet (f x) → AllSettled ask d.asked)
      → IsQuiet (and_then w f) → AllSettled ask (then_by c.ending c d).asked
  then-settles (Ready x) f c d (h, s) k q = subst (λ e. AllSettled ask (then_by e c d).asked) (sym h) (both-settled ask c.asked d.asked (s tt) (k x q))
  then-settles (Fails b) f c d (h, s) k q = subst (λ e. AllSettled ask (then_by e c d).asked) (sym h) (s tt)
  then-settles (Turns j) f c d (h, s) k q = absurd q
  then-settles (Needs y) f c d (h, s) k q = absurd q

  either-settles : (t : Bool) (b : Blame) (w : Walked Term) (c d : Course) → AllSettled ask c.asked → (IsQuiet w → AllSettled ask d.asked)
      → IsQuiet (if t then w else Fails b) → AllSettled ask (chosen t (after c d) c).asked
  either-settles true b w c d f g q = both-settled ask c.asked d.asked f (g q)
  either-settles false b w c d f g q = f

  else-settles : (v w : Walked Term) (c d : Course) → Settles ask v c → (IsQuiet w → AllSettled ask d.asked) → IsQuiet (or_else v w) → AllSettled ask (else_by c.ending c d).asked
  else-settles (Ready x) w c d (h, s) k q = subst (λ e. AllSettled ask (else_by e c d).asked) (sym h) (s tt)
  else-settles (Fails b) w c d (h, s) k q = subst (λ e. AllSettled ask (else_by e c d).asked) (sym h) (either-settles (may_go_on b.why) b w c d (s tt) k q)
  else-settles (Turns j) w c d (h, s) k q = absurd q
  else-settles (Needs y) w c d (h, s) k q = absurd q

  abbrev AllSettle : List (Walked Term) → List Course → Type 0
  AllSettle [] cs = cs ≡ []
  AllSettle (w ∷ ws) [] = ⊥
  AllSettle (w ∷ ws) (c ∷ cs) = Settles ask w c × AllSettle ws cs

  ready-quiet : {X Y : Type 0} (w : Walked X) (f : X → Y) → IsQuiet (and_then w (λ x. Ready (f x))) → IsQuiet w
  ready-quiet (Ready x) f q = tt
  ready-quiet (Fails b) f q = tt
  ready-quiet (Turns j) f q = q
  ready-quiet (Needs y) f q = q

  order-settles : (ws : List (Walked Term)) (cs : List Course) → AllSettle ws cs → IsQuiet (in_order ws) → AllSettled ask (all_courses cs).asked
  order-settles [] cs h q = subst (λ x. AllSettled ask (all_courses x).asked) (sym h) (nothing-asked ask)
  order-settles (w ∷ ws) [] h q = absurd h
  order-settles (w ∷ ws) (c ∷ cs) h q =
      then-settles w (λ e. and_then (in_order ws) (λ es. Ready (e ∷ es))) c (all_courses cs) h.0
      (λ e r. order-settles ws cs h.1 (ready-quiet (in_order ws) (λ es. e ∷ es) r)) q

  outcome-settles : (parent : Option Key) (k : Key) (o : Option Outcome) → ask k ≡ o → IsQuiet (by_outcome parent k o) → AllSettled ask (k ∷ [])
  outcome-settles parent k None e q y m = absurd q
  outcome-settles parent k (Some (Good v o)) e q y (inl p) = subst (IsSettled ask) p (Good v o, e, tt)
  outcome-settles parent k (Some (Good v o)) e q y (inr n) = absurd n
  outcome-settles parent k (Some (Bad b)) e q y (inl p) = subst (IsSettled ask) p (Bad b, e, tt)
  outcome-settles parent k (Some (Bad b)) e q y (inr n) = absurd n
  outcome-settles parent k (Some (Loop j)) e q y m = absurd q

  key-settles : (parent : Option Key) (k : Key) → IsQuiet (walk_key parent ask k) → AllSettled ask (course_key parent ask k).asked
  key-settles parent k q = go (is_sane parent k) q
    where
      go : (t : Bool) → IsQuiet (if t then by_outcome parent k (ask k) else Fails (record { at = parent; why = Insane k.loc }))
          → AllSettled ask (chosen t (record { asked = k ∷ []; ending = ending_by parent k (ask k) }) (record { asked = []; ending = Stops (record { at = parent; why = Insane k.loc }) })).asked
      go true r = outcome-settles parent k (ask k) refl r
      go false r = nothing-asked ask

  node-settles : (parent : Option Key) (op : Op) (r : Row Var Name) (f : Form) (ws : List (Walked Term)) (cs : List Course) → AllSettle ws cs
      → IsQuiet (walk_node parent ask op r f ws) → AllSettled ask (course_node parent ask f cs).asked
  node-settles parent op r (importing i) ws cs h q = key-settles parent (chained (place parent) i) q
  node-settles parent op r other ws cs h q = order-settles ws cs h (ready-quiet (in_order ws) (λ es. Node op (replace_row r es)) q)
  node-settles parent op r choosing [] cs h q = subst (λ x. AllSettled ask (course_node parent ask choosing x).asked) (sym h) (nothing-asked ask)
  node-settles parent op r choosing (v ∷ ws) [] h q = absurd h
  node-settles parent op r choosing (v ∷ []) (c ∷ []) h q = order-settles (v ∷ []) (c ∷ []) h (ready-quiet (in_order (v ∷ [])) (λ es. Node op (replace_row r es)) q)
  node-settles parent op r choosing (v ∷ []) (c ∷ d ∷ cs) h q = cons_nil h.1
  node-settles parent op r choosing (v ∷ w ∷ ws) (c ∷ []) h q = absurd h.1
  node-settles parent op r choosing (v ∷ w ∷ []) (c ∷ d ∷ []) h q = else-settles v w c d h.0 h.1.0.1 q
  node-settles parent op r choosing (v ∷ w ∷ []) (c ∷ d ∷ b ∷ cs) h q = cons_nil h.1.1
  node-settles parent op r choosing (v ∷ w ∷ u ∷ ws) (c ∷ d ∷ []) h q = absurd h.1.1
  node-settles parent op r choosing (v ∷ w ∷ u ∷ ws) (c ∷ d ∷ b ∷ cs) h q =
      order-settles (v ∷ w ∷ u ∷ ws) (c ∷ d ∷ b ∷ cs) h (ready-quiet (in_order (v ∷ w ∷ u ∷ ws)) (λ es. Node op (replace_row r es)) q)

  mutual
    walk-settles : (parent : Option Key) (e : Term) → Settles ask (walk parent ask e) (course parent ask e)
    walk-settles parent (Leaf v) = (refl, λ q. nothing-asked ask)
    walk-settles parent (Node op r) = (walk-course parent ask (Node op r), λ q. node-settles parent op r (form_of op) _ _ (walks-settle parent r) q)

    walks-settle : (parent : Option Key) (r : Row Var Name) → AllSettle (walks parent ask r) (courses parent ask r)
    walks-settle parent end = refl
    walks-settle parent (kid b e r) = (walk-settles parent e, walks-settle parent r)

abbrev asked_at : Option Key → Key → Option Outcome → Course
asked_at parent k x = record { asked = k ∷ []; ending = ending_by parent k x }

-- ---- a course that asks settled keys alone stays, whatever else becomes known

module _ (parent : Option Key) (less more : Ask) (h : Knows less more) where
  same_outcome : (k : Key) → IsSettled less k → more k ≡ less k
  same_outcome k (o, e, c) = h k o e ∙ sym e

  key-stays : (k : Key) → AllSettled less (course_key parent less k).asked → course_key parent more k ≡ course_key parent less k
  key-stays k f = go (is_sane parent k) f
    where
      go : (t : Bool) → AllSettled less (chosen t (record { asked = k ∷ []; ending = ending_by parent k (less k) }) (record { asked = []; ending = Stops (record { at = parent; why = Insane k.loc }) })).asked
          → chosen t (record { asked = k ∷ []; ending = ending_by parent k (more k) }) (record { asked = []; ending = Stops (record { at = parent; why = Insane k.loc }) })
          ≡ chosen t (record { asked = k ∷ []; ending = ending_by parent k (less k) }) (record { asked = []; ending = Stops (record { at = parent; why = Insane k.loc }) })
      go true g = ap (λ x. asked_at parent k x) (same_outcome k (g k (inl refl)))
      go false g = refl

  -- the parts stay, as far as they are asked
  abbrev Stays : Course → Course → Type 0
  Stays c d = AllSettled less c.asked → d ≡ c

  then-stays : (c c' d d' : Course) → Stays c c' → Stays d d' → Stays (then_by c.ending c d) (then_by c'.ending c' d')
  then-stays c c' d d' f g k = go c.ending refl k
    where
      left : AllSettled less (c.asked ++ d.asked) → AllSettled less c.asked
      left q y m = q y (among_left y c.asked d.asked m)

      right : AllSettled less (c.asked ++ d.asked) → AllSettled less d.asked
      right q y m = q y (among_right y c.asked d.asked m)

      go : (e : Ending) → c.ending ≡ e → AllSettled less (then_by e c d).asked → then_by c'.ending c' d' ≡ then_by c.ending c d
      go Goes p q = ap (λ x. then_by x.ending x d') (f (left q)) ∙ ap (λ x. then_by c.ending c x) (g (right q))
      go (Stops b) p q = ap (λ x. then_by x.ending x d') (f q) ∙ ap (λ x. then_by x c d') p ∙ sym (ap (λ x. then_by x c d) p)
      go Circles p q = ap (λ x. then_by x.ending x d') (f q) ∙ ap (λ x. then_by x c d') p ∙ sym (ap (λ x. then_by x c d) p)

  else-stays : (c c' d d' : Course) → Stays c c' → Stays d d' → Stays (else_by c.ending c d) (else_by c'.ending c' d')
  else-stays c c' d d' f g k = go c.ending refl k
    where
      left : AllSettled less (c.asked ++ d.asked) → AllSettled less c.asked
      left q y m = q y (among_left y c.asked d.asked m)

      right : AllSettled less (c.asked ++ d.asked) → AllSettled less d.asked
      right q y m = q y (among_right y c.asked d.asked m)

      by : (t : Bool) → AllSettled less (chosen t (after c d) c).asked → (c' ≡ c) × (chosen t (after c d') c ≡ chosen t (after c d) c)
      by true q = (f (left q), ap (λ x. after c x) (g (right q)))
      by false q = (f q, refl)

      go : (e : Ending) → c.ending ≡ e → AllSettled less (else_by e c d).asked → else_by c'.ending c' d' ≡ else_by c.ending c d
      go Goes p q = ap (λ x. else_by x.ending x d') (f q) ∙ ap (λ x. else_by x c d') p ∙ sym (ap (λ x. else_by x c d) p)
      go Circles p q = ap (λ x. else_by x.ending x d') (f q) ∙ ap (λ x. else_by x c d') p ∙ sym (ap (λ x. else_by x c d) p)
      go (Stops b) p q =
          let s = by (may_go_on b.why) q in
          ap (λ x. else_by x.ending x d') s.0 ∙ ap (λ x. else_by x c d') p ∙ s.1 ∙ sym (ap (λ x. else_by x c d) p)

  abbrev AllStay : List Course → List Course → Type 0
  AllStay [] ds = ds ≡ []
  AllStay (c ∷ cs) [] = ⊥
  AllStay (c ∷ cs) (d ∷ ds) = Stays c d × AllStay cs ds

  courses-stay : (cs ds : List Course) → AllStay cs ds → Stays (all_courses cs) (all_courses ds)
  courses-stay [] ds f k = ap all_courses f
  courses-stay (c ∷ cs) [] f k = absurd f
  courses-stay (c ∷ cs) (d ∷ ds) f k = then-stays c d (all_courses cs) (all_courses ds) f.0 (courses-stay cs ds f.1) k

  node-stays : (f : Form) (cs ds : List Course) → AllStay cs ds → Stays (course_node parent less f cs) (course_node parent more f ds)
  node-stays (importing i) cs ds g k = key-stays (chained (place parent) i) k
  node-stays other cs ds g k = courses-stay cs ds g k
  node-stays choosing [] ds g k = ap (λ x. course_node parent more choosing x) g
  node-stays choosing (c ∷ cs) [] g k = absurd g
  node-stays choosing (c ∷ []) (d ∷ []) g k = courses-stay (c ∷ []) (d ∷ []) g k
  node-stays choosing (c ∷ []) (d ∷ e ∷ ds) g k = cons_nil g.1
  node-stays choosing (c ∷ b ∷ cs) (d ∷ []) g k = absurd g.1
  node-stays choosing (c ∷ b ∷ []) (d ∷ e ∷ []) g k = else-stays c d b e g.0 g.1.0 k
  node-stays choosing (c ∷ b ∷ []) (d ∷ e ∷ i ∷ ds) g k = cons_nil g.1.1
  node-stays choosing (c ∷ b ∷ a ∷ cs) (d ∷ e ∷ []) g k = absurd g.1.1
  node-stays choosing (c ∷ b ∷ a ∷ cs) (d ∷ e ∷ i ∷ ds) g k = courses-stay (c ∷ b ∷ a ∷ cs) (d ∷ e ∷ i ∷ ds) g k

  mutual
    course-stays : (e : Term) → Stays (course parent less e) (course parent more e)
    course-stays (Leaf v) k = refl
    course-stays (Node op r) k = node-stays (form_of op) (courses parent less r) (courses parent more r) (all-stay r) k

    all-stay : (r : Row Var Name) → AllStay (courses parent less r) (courses parent more r)
    all-stay end = refl
    all-stay (kid b e r) = (λ k. course-stays e k, all-stay r)

-- ---- a key with an outcome that is no loop has its item

abbrev HasItem : Record → Ask → Key → Type 0
HasItem r ask k = (i : Item) × (stage r ask k ≡ Has i)

item-grown : (r : Record) (less more : Ask) → Knows less more → (k : Key) → HasItem r less k → HasItem r more k
item-grown r less more h k (i, e) = (i, subst (λ s. StageGrown more s (stage r more k)) e (stage-grown r r (longer-itself r) less more h k))

item-ended : (r : Record) (n : ℕ) (k : Key) (s : Stage) (o : Outcome) → ended r n k s ≡ Some o → IsCalm (Some o) → (i : Item) × (s ≡ Has i)
item-ended r n k (Has i) o h c = (i, refl)
item-ended r n k (Meets j) o h c = absurd (subst IsCalm (sym h) c)
item-ended r n k (Lacks p) o h c = none-some refl h
item-ended r n k (Waits y) o h c = none-some refl h

has_item : (r : Record) {l : Outcomes} → Log r l → (k : Key) → IsSettled (at l) k → HasItem r (at l) k
has_item r start k (o, e, c) = none-some refl e
has_item r (fin {l = l} {k = j} {o = p} log n m h) k s = go (bool-case (key_eq j k)) s (λ t. has_item r log k t)
  where
    go : (key_eq j k ≡ true) ⊎ (key_eq j k ≡ false) → IsSettled (at ((j, p) ∷ l)) k → (IsSettled (at l) k → HasItem r (at l) k) → HasItem r (at ((j, p) ∷ l)) k
    go (inl t) (o, e, c) f =
        let same : Some p ≡ Some o = sym (at-same l j k p t) ∙ e in
        subst (HasItem r (at ((j, p) ∷ l))) (key_eq-true j k t)
        (item-grown r (at l) (at ((j, p) ∷ l)) (at-grown l j p n) j (item-ended r m j (stage r (at l) j) p h (subst IsCalm (sym same) c)))
    go (inr t) (o, e, c) f = item-grown r (at l) (at ((j, p) ∷ l)) (at-grown l j p n) k (f (o, sym (at-other l j k p t) ∙ e, c))
has_item r (cyc {l = l} {k = j} log (y, b, ring)) k s = go (bool-case (key_eq j k)) s (λ t. has_item r log k t)
  where
    go : (key_eq j k ≡ true) ⊎ (key_eq j k ≡ false) → IsSettled (at ((j, Loop j) ∷ l)) k → (IsSettled (at l) k → HasItem r (at l) k) → HasItem r (at ((j, Loop j) ∷ l)) k
    go (inl t) (o, e, c) f = absurd (subst IsCalm (sym (sym (at-same l j k (Loop j) t) ∙ e)) c)
    go (inr t) (o, e, c) f = item-grown r (at l) (at ((j, Loop j) ∷ l)) (at-grown l j (Loop j) b.0) k (f (o, sym (at-other l j k (Loop j) t) ∙ e, c))

-- ---- visited keys

abbrev IsItem : Stage → Type 0
IsItem (Has i) = Unit {0}
IsItem (Meets j) = ⊥
IsItem (Lacks p) = ⊥
IsItem (Waits y) = ⊥

quiet_walk : (allow : Option (List ℕ)) (w : Walked Term) → IsItem (of_walk allow w) → IsQuiet w
quiet_walk allow (Ready e) h = tt
quiet_walk allow (Fails b) h = tt
quiet_walk allow (Turns j) h = h
quiet_walk allow (Needs y) h = h

bare_settled : (ask : Ask) (j : Key) (o : Option Outcome) → ask j ≡ o → IsItem (of_bare j o) → IsSettled ask j
bare_settled ask j None e h = absurd h
bare_settled ask j (Some (Good v o)) e h = (Good v o, e, tt)
bare_settled ask j (Some (Bad b)) e h = (Bad b, e, tt)
bare_settled ask j (Some (Loop i)) e h = absurd h

asked_settled : (ask : Ask) (k : Key) (p : Plan) → IsItem (of_plan ask k p) → AllSettled ask (asked_by ask k p)
asked_settled ask k (Unknown p) h y m = absurd m
asked_settled ask k (Now i) h y m = absurd m
asked_settled ask k (Walks e allow) h y m = (walk-settles ask (Some k) e).1 (quiet_walk allow (walk (Some k) ask e) h) y m
asked_settled ask k (Asks j) h y (inl p) = subst (IsSettled ask) p (bare_settled ask j (ask j) refl h)
asked_settled ask k (Asks j) h y (inr n) = absurd n

asked_stays : (less more : Ask) → Knows less more → (k : Key) (p : Plan) → AllSettled less (asked_by less k p) → asked_by more k p ≡ asked_by less k p
asked_stays less more h k (Unknown p) f = refl
asked_stays less more h k (Now i) f = refl
asked_stays less more h k (Walks e allow) f = ap (λ c. c.asked) (course-stays (Some k) less more h e f)
asked_stays less more h k (Asks j) f = refl

module _ (r : Record) (l : Outcomes) (log : Log r l) (root v : Term) (ready : walk None (at l) root ≡ Ready v) where
  root_settled : AllSettled (at l) (course None (at l) root).asked
  root_settled = (walk-settles (at l) None root).1 (subst IsQuiet (sym ready) tt)

  item_settled : (j : Key) → IsSettled (at l) j → AllSettled (at l) (asked_by (at l) j (plan r j))
  item_settled j s = let i = has_item r log j s in asked_settled (at l) j (plan r j) (subst IsItem (sym i.1) tt)

  visited_settled : {k : Key} → Visited r (at l) root k → IsSettled (at l) k
  visited_settled (by_root {k = k} m) = root_settled k m
  visited_settled (by_key {j = j} {k = k} w m) = item_settled j (visited_settled w) k m

  module _ (more : Ask) (h : Knows (at l) more) where
    visited_more : {k : Key} → Visited r (at l) root k → Visited r more root k
    visited_more (by_root {k = k} m) = by_root (subst (λ c. IsAmong k c.asked) (sym (course-stays None (at l) more h root root_settled)) m)
    visited_more (by_key {j = j} {k = k} w m) =
        by_key (visited_more w) (subst (λ ks. IsAmong k ks) (sym (asked_stays (at l) more h j (plan r j) (item_settled j (visited_settled w)))) m)

    visited_less : {k : Key} → Visited r more root k → Visited r (at l) root k
    visited_less (by_root {k = k} m) = by_root (subst (λ c. IsAmong k c.asked) (course-stays None (at l) more h root root_settled) m)
    visited_less (by_key {j = j} {k = k} w m) =
        let w' = visited_less w in
        by_key w' (subst (λ ks. IsAmong k ks) (asked_stays (at l) more h j (plan r j) (item_settled j (visited_settled w'))) m)

pub visits_are_resolved : VisitsAreResolved
visits_are_resolved root es v h ready =
    let s = after_all root es in
    let log = (lawful-keeps root es h).log in
    let d = decided_all s.recorded log in
    let more = resolve s.recorded d.0 [] in (
      d.0,
      subst (λ w. Grown more w (walk None more root)) ready (walk-grown None (outcome_of s) more d.1 root),
      λ k w. (
        visited_more s.recorded s.outcomes log root v ready more d.1 w,
        (let t = visited_settled s.recorded s.outcomes log root v ready w in t.1 ∙ sym (d.1 k t.0 t.1)),
      ),
      λ k w. visited_less s.recorded s.outcomes log root v ready more d.1 w,
    )
