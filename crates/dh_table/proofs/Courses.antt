-- The course of a walk where one more key has a value that each text may read, and of a walk that is decided.
use Rattle.std.specs.Prelude.{◌≡◌, ◌⊎◌, Bool, true, false, if◌then◌else◌, List, [], ◌∷◌, Option, Some, None, refl}
use Rattle.std.proofs.Common.{ap, sym, ◌∙◌, subst, inl, inr}
use Rattle.dh_syntax.specs.declared.expressions.Op.{Op}
use Rattle.dh_syntax.specs.declared.locations.Key.{Key}
use Rattle.dh_imports.specs.declared.outcomes.Blame.{Blame}
use Rattle.dh_imports.specs.declared.outcomes.Why.TheVariants.{Insane, Cors}
use Rattle.dh_syntax.specs.Expressions.Tree.{Row, Leaf, Node, end, kid, Name, Var, Term}
use Rattle.dh_syntax.specs.Normalising.Trees.{replace_row}
use Rattle.dh_syntax.specs.Imports.Keys.{chained}
use Rattle.dh_imports.specs.Machine.{IsAmong}
use Rattle.dh_imports.specs.Outcomes.{Outcome, Good, Bad, Loop, may_go_on}
use Rattle.dh_imports.specs.Walk.{Ask, place, Form, importing, choosing, other, form_of, Walked, Ready, Fails, Turns, Needs, and_then, or_else, in_order, allowed, by_outcome, is_sane, walk_key, walk_node, walk, walks, Ending, Goes, Stops, Circles, Course, after, then_by, else_by, all_courses, ending_by, course_key, course_node, course, courses}
use Rattle.dh_laws.proofs.KeyOrder.{none-some}
use Rattle.dh_import_laws.proofs.Wants.{among-split}

-- ---- two sets of outcomes by which each import ends alike

module _ (ask ask' : Ask) (mild : (parent : Option Key) (k : Key) → ending_by parent k (ask' k) ≡ ending_by parent k (ask k)) where
  key_same : (parent : Option Key) (k : Key) → course_key parent ask' k ≡ course_key parent ask k
  key_same parent k =
      ap (λ (e : Ending). if is_sane parent k then record { asked = k ∷ []; ending = e } else record { asked = []; ending = Stops (record { at = parent; why = Insane k.loc }) }) (mild parent k)

  node_same : (parent : Option Key) (f : Form) (cs : List Course) → course_node parent ask' f cs ≡ course_node parent ask f cs
  node_same parent (importing i) cs = key_same parent (chained (place parent) i)
  node_same parent choosing [] = refl
  node_same parent choosing (c ∷ []) = refl
  node_same parent choosing (c ∷ d ∷ []) = refl
  node_same parent choosing (c ∷ d ∷ b ∷ cs) = refl
  node_same parent other cs = refl

  mutual
    pub course_same : (parent : Option Key) (e : Term) → course parent ask' e ≡ course parent ask e
    course_same parent (Leaf v) = refl
    course_same parent (Node op r) = node_same parent (form_of op) (courses parent ask' r) ∙ ap (course_node parent ask (form_of op)) (courses_same parent r)

    courses_same : (parent : Option Key) (r : Row Var Name) → courses parent ask' r ≡ courses parent ask r
    courses_same parent end = refl
    courses_same parent (kid b e r) = λ i. course_same parent e i ∷ courses_same parent r i

-- ---- a decided walk asks decided keys alone, and its course ends as it does

abbrev pub AreAsked : Ask → List Key → Type 0
AreAsked ask ks = (y : Key) → IsAmong y ks → ask y ≡ None → ⊥

abbrev pub IsMet : {X : Type 0} → Ask → Walked X → Course → Type 0
IsMet ask (Ready x) c = (c.ending ≡ Goes) × AreAsked ask c.asked
IsMet ask (Fails b) c = (c.ending ≡ Stops b) × AreAsked ask c.asked
IsMet ask (Turns j) c = (c.ending ≡ Circles) × AreAsked ask c.asked
IsMet ask (Needs y) c = Unit {0}

both_asked : (ask : Ask) (c d : Course) → AreAsked ask c.asked → AreAsked ask d.asked → AreAsked ask (after c d).asked
both_asked ask c d f g y m n = go (among-split y c.asked d.asked m)
  where
    go : IsAmong y c.asked ⊎ IsAmong y d.asked → ⊥
    go (inl p) = f y p n
    go (inr p) = g y p n

met-after : {X : Type 0} (ask : Ask) (w : Walked X) (c d : Course) → AreAsked ask c.asked → IsMet ask w d → IsMet ask w (after c d)
met-after ask (Ready x) c d f h = (h.0, both_asked ask c d f h.1)
met-after ask (Fails b) c d f h = (h.0, both_asked ask c d f h.1)
met-after ask (Turns j) c d f h = (h.0, both_asked ask c d f h.1)
met-after ask (Needs y) c d f h = tt

met-then : {X Y : Type 0} (ask : Ask) (w : Walked X) (f : X → Walked Y) (c d : Course) → IsMet ask w c → ((x : X) → IsMet ask (f x) d) → IsMet ask (and_then w f) (then_by c.ending c d)
met-then ask (Ready x) f c d h k = subst (λ e. IsMet ask (f x) (then_by e c d)) (sym h.0) (met-after ask (f x) c d h.1 (k x))
met-then {X} {Y} ask (Fails b) f c d h k = subst (λ e. IsMet {X = Y} ask (Fails b) (then_by e c d)) (sym h.0) h
met-then {X} {Y} ask (Turns j) f c d h k = subst (λ e. IsMet {X = Y} ask (Turns j) (then_by e c d)) (sym h.0) h
met-then ask (Needs y) f c d h k = tt

met-either : (ask : Ask) (t : Bool) (b : Blame) (w : Walked Term) (c d : Course) → IsMet {X = Term} ask (Fails b) c → IsMet ask w d → IsMet ask (if t then w else Fails b) (if t then after c d else c)
met-either ask true b w c d h k = met-after ask w c d h.1 k
met-either ask false b w c d h k = h

met-else : (ask : Ask) (v w : Walked Term) (c d : Course) → IsMet ask v c → IsMet ask w d → IsMet ask (or_else v w) (else_by c.ending c d)
met-else ask (Ready x) w c d h k = subst (λ e. IsMet ask (Ready x) (else_by e c d)) (sym h.0) h
met-else ask (Fails b) w c d h k =
    subst (λ e. IsMet ask (if may_go_on b.why then w else Fails b) (else_by e c d)) (sym h.0) (met-either ask (may_go_on b.why) b w c d h k)
met-else ask (Turns j) w c d h k = subst (λ e. IsMet {X = Term} ask (Turns j) (else_by e c d)) (sym h.0) h
met-else ask (Needs y) w c d h k = tt

abbrev AreMet : Ask → List (Walked Term) → List Course → Type 0
AreMet ask [] cs = cs ≡ []
AreMet ask (w ∷ ws) [] = ⊥
AreMet ask (w ∷ ws) (c ∷ cs) = IsMet ask w c × AreMet ask ws cs

nothing-met : (ask : Ask) (cs : List Course) → cs ≡ [] → IsMet {X = List Term} ask (Ready []) (all_courses cs)
nothing-met ask cs h = subst (λ x. IsMet {X = List Term} ask (Ready []) (all_courses x)) (sym h) (refl, λ y m n. m)

met-in_order : (ask : Ask) (ws : List (Walked Term)) (cs : List Course) → AreMet ask ws cs → IsMet ask (in_order ws) (all_courses cs)
met-in_order ask [] cs h = nothing-met ask cs h
met-in_order ask (w ∷ ws) [] h = absurd h
met-in_order ask (w ∷ ws) (c ∷ cs) h = met-then ask w _ c (all_courses cs) h.0 (λ e. go e (in_order ws) (met-in_order ask ws cs h.1))
  where
    go : (e : Term) (v : Walked (List Term)) → IsMet ask v (all_courses cs) → IsMet ask (and_then v (λ es. Ready (e ∷ es))) (all_courses cs)
    go e (Ready x) h = h
    go e (Fails b) h = h
    go e (Turns j) h = h
    go e (Needs y) h = h

met-rebuilt : (ask : Ask) (op : Op) (r : Row Var Name) (ws : List (Walked Term)) (cs : List Course) → AreMet ask ws cs → IsMet ask (and_then (in_order ws) (λ es. Ready (Node op (replace_row r es)))) (all_courses cs)
met-rebuilt ask op r ws cs h = go (in_order ws) (met-in_order ask ws cs h)
  where
    go : (v : Walked (List Term)) → IsMet ask v (all_courses cs) → IsMet ask (and_then v (λ es. Ready (Node op (replace_row r es)))) (all_courses cs)
    go (Ready x) h = h
    go (Fails b) h = h
    go (Turns j) h = h
    go (Needs y) h = h

met-only : (ask : Ask) (k : Key) (o : Outcome) → ask k ≡ Some o → AreAsked ask (k ∷ [])
met-only ask k o h y (inl p) n = none-some n (subst (λ x. ask x ≡ Some o) p h)
met-only ask k o h y (inr p) n = absurd p

met-outcome : (ask : Ask) (parent : Option Key) (k : Key) (o : Option Outcome) → ask k ≡ o → IsMet ask (by_outcome parent k o) (record { asked = k ∷ []; ending = ending_by parent k o })
met-outcome ask parent k None h = tt
met-outcome ask parent k (Some (Good v o)) h = go (allowed parent k o)
  where
    go : (t : Bool) → IsMet ask (if t then Ready v else Fails (record { at = parent; why = Cors k.loc })) (record { asked = k ∷ []; ending = if t then Goes else Stops (record { at = parent; why = Cors k.loc }) })
    go true = (refl, met-only ask k (Good v o) h)
    go false = (refl, met-only ask k (Good v o) h)
met-outcome ask parent k (Some (Bad b)) h = (refl, met-only ask k (Bad b) h)
met-outcome ask parent k (Some (Loop j)) h = (refl, met-only ask k (Loop j) h)

met-key : (parent : Option Key) (ask : Ask) (k : Key) → IsMet ask (walk_key parent ask k) (course_key parent ask k)
met-key parent ask k = go (is_sane parent k)
  where
    go : (t : Bool) → IsMet ask (if t then by_outcome parent k (ask k) else Fails (record { at = parent; why = Insane k.loc }))
        (if t then record { asked = k ∷ []; ending = ending_by parent k (ask k) } else record { asked = []; ending = Stops (record { at = parent; why = Insane k.loc }) })
    go true = met-outcome ask parent k (ask k) refl
    go false = (refl, λ y m n. m)

cons_nil : {A P : Type 0} {a : A} {xs : List A} → a ∷ xs ≡ [] → P
cons_nil p = cc

met-node : (parent : Option Key) (ask : Ask) (op : Op) (r : Row Var Name) (f : Form) (ws : List (Walked Term)) (cs : List Course) → AreMet ask ws cs
    → IsMet ask (walk_node parent ask op r f ws) (course_node parent ask f cs)
met-node parent ask op r (importing i) ws cs h = met-key parent ask (chained (place parent) i)
met-node parent ask op r other ws cs h = met-rebuilt ask op r ws cs h
met-node parent ask op r choosing [] cs h = subst (λ x. IsMet ask (walk_node parent ask op r choosing []) (course_node parent ask choosing x)) (sym h) (refl, λ y m n. m)
met-node parent ask op r choosing (v ∷ ws) [] h = absurd h
met-node parent ask op r choosing (v ∷ []) (c ∷ []) h = met-rebuilt ask op r (v ∷ []) (c ∷ []) h
met-node parent ask op r choosing (v ∷ []) (c ∷ d ∷ cs) h = cons_nil h.1
met-node parent ask op r choosing (v ∷ w ∷ ws) (c ∷ []) h = absurd h.1
met-node parent ask op r choosing (v ∷ w ∷ []) (c ∷ d ∷ []) h = met-else ask v w c d h.0 h.1.0
met-node parent ask op r choosing (v ∷ w ∷ []) (c ∷ d ∷ b ∷ cs) h = cons_nil h.1.1
met-node parent ask op r choosing (v ∷ w ∷ u ∷ ws) (c ∷ d ∷ []) h = absurd h.1.1
met-node parent ask op r choosing (v ∷ w ∷ u ∷ ws) (c ∷ d ∷ b ∷ cs) h = met-rebuilt ask op r (v ∷ w ∷ u ∷ ws) (c ∷ d ∷ b ∷ cs) h

mutual
  pub walk-met : (parent : Option Key) (ask : Ask) (e : Term) → IsMet ask (walk parent ask e) (course parent ask e)
  walk-met parent ask (Leaf v) = (refl, λ y m n. m)
  walk-met parent ask (Node op r) = met-node parent ask op r (form_of op) _ _ (walks-met parent ask r)

  walks-met : (parent : Option Key) (ask : Ask) (r : Row Var Name) → AreMet ask (walks parent ask r) (courses parent ask r)
  walks-met parent ask end = refl
  walks-met parent ask (kid b e r) = (walk-met parent ask e, walks-met parent ask r)
