-- Where a walk has come to its end, each key that it asks has an outcome.
use Rattle.std.specs.Prelude.{◌≡◌, ◌⊎◌, Bool, true, false, if◌then◌else◌, List, [], ◌∷◌, ◌++◌, Option, Some, None, refl}
use Rattle.std.proofs.Common.{sym, subst, inl, inr}
use Rattle.dh_syntax.specs.declared.expressions.Op.{Op}
use Rattle.dh_syntax.specs.declared.locations.Key.{Key}
use Rattle.dh_imports.specs.declared.outcomes.Blame.{Blame}
use Rattle.dh_imports.specs.declared.outcomes.Why.TheVariants.{Insane}
use Rattle.dh_syntax.specs.Expressions.Tree.{Row, Leaf, Node, end, kid, Name, Var, Term}
use Rattle.dh_syntax.specs.Normalising.Trees.{replace_row}
use Rattle.dh_imports.specs.Keeps.{asked_by}
use Rattle.dh_syntax.specs.Imports.Keys.{chained}
use Rattle.dh_imports.specs.Machine.{IsAmong}
use Rattle.dh_imports.specs.Outcomes.{Outcome, Good, Bad, Loop, may_go_on}
use Rattle.dh_imports.specs.Resolver.{Plan, Unknown, Now, Walks, Asks, of_walk, of_bare, of_plan}
use Rattle.dh_imports.specs.Walk.{Ask, place, Form, importing, choosing, other, form_of, Walked, Ready, Fails, Turns, Needs, and_then, or_else, in_order, by_outcome, is_sane, walk_key, walk_node, walk, walks, Stops, Course, after, then_by, else_by, all_courses, ending_by, course_key, course_node, course, courses}
use Rattle.dh_laws.proofs.KeyOrder.{true_false}
use Rattle.dh_import_laws.proofs.Wants.{CourseOf, among-split, walk-course}
use Rattle.dh_watch_laws.specs.Sweeping.{is_due}

-- the key has an outcome
abbrev IsSettled : Ask → Key → Type 0
IsSettled ask y = (o : Outcome) × (ask y ≡ Some o)

abbrev pub AllSettled : Ask → List Key → Type 0
AllSettled ask ks = (y : Key) → IsAmong y ks → IsSettled ask y

both-settled : (ask : Ask) (ks js : List Key) → AllSettled ask ks → AllSettled ask js → AllSettled ask (ks ++ js)
both-settled ask ks js f g y m = go (among-split y ks js m)
  where
    go : IsAmong y ks ⊎ IsAmong y js → IsSettled ask y
    go (inl n) = f y n
    go (inr n) = g y n

-- the walk has come to its end
abbrev IsQuiet : {X : Type 0} → Walked X → Type 0
IsQuiet (Ready x) = Unit {0}
IsQuiet (Fails b) = Unit {0}
IsQuiet (Turns j) = Unit {0}
IsQuiet (Needs y) = ⊥

-- the course of the walk; where the walk has come to its end, all that it asks is settled
abbrev Settles : {X : Type 0} → Ask → Walked X → Course → Type 0
Settles ask w c = CourseOf w c × (IsQuiet w → AllSettled ask c.asked)

abbrev chosen : Bool → Course → Course → Course
chosen b c d = if b then c else d

cons_nil : {A P : Type 0} {a : A} {xs : List A} → a ∷ xs ≡ [] → P
cons_nil p = cc

nothing-asked : (ask : Ask) → AllSettled ask []
nothing-asked ask y m = absurd m

module _ (ask : Ask) where
  then-settles : {X Y : Type 0} (w : Walked X) (f : X → Walked Y) (c d : Course) → Settles ask w c → ((x : X) → IsQuiet (f x) → AllSettled ask d.asked)
      → IsQuiet (and_then w f) → AllSettled ask (then_by c.ending c d).asked
  then-settles (Ready x) f c d (h, s) k q = subst (λ e. AllSettled ask (then_by e c d).asked) (sym h) (both-settled ask c.asked d.asked (s tt) (k x q))
  then-settles (Fails b) f c d (h, s) k q = subst (λ e. AllSettled ask (then_by e c d).asked) (sym h) (s tt)
  then-settles (Turns j) f c d (h, s) k q = subst (λ e. AllSettled ask (then_by e c d).asked) (sym h) (s tt)
  then-settles (Needs y) f c d (h, s) k q = absurd q

  either-settles : (t : Bool) (b : Blame) (w : Walked Term) (c d : Course) → AllSettled ask c.asked → (IsQuiet w → AllSettled ask d.asked)
      → IsQuiet (if t then w else Fails b) → AllSettled ask (chosen t (after c d) c).asked
  either-settles true b w c d f g q = both-settled ask c.asked d.asked f (g q)
  either-settles false b w c d f g q = f

  else-settles : (v w : Walked Term) (c d : Course) → Settles ask v c → (IsQuiet w → AllSettled ask d.asked) → IsQuiet (or_else v w) → AllSettled ask (else_by c.ending c d).asked
  else-settles (Ready x) w c d (h, s) k q = subst (λ e. AllSettled ask (else_by e c d).asked) (sym h) (s tt)
  else-settles (Fails b) w c d (h, s) k q = subst (λ e. AllSettled ask (else_by e c d).asked) (sym h) (either-settles (may_go_on b.why) b w c d (s tt) k q)
  else-settles (Turns j) w c d (h, s) k q = subst (λ e. AllSettled ask (else_by e c d).asked) (sym h) (s tt)
  else-settles (Needs y) w c d (h, s) k q = absurd q

  abbrev AllSettle : List (Walked Term) → List Course → Type 0
  AllSettle [] cs = cs ≡ []
  AllSettle (w ∷ ws) [] = ⊥
  AllSettle (w ∷ ws) (c ∷ cs) = Settles ask w c × AllSettle ws cs

  ready-quiet : {X Y : Type 0} (w : Walked X) (f : X → Y) → IsQuiet (and_then w (λ x. Ready (f x))) → IsQuiet w
  ready-quiet (Ready x) f q = tt
  ready-quiet (Fails b) f q = tt
  ready-quiet (Turns j) f q = q
  ready-quiet (Needs y) f q = q

  order-settles : (ws : List (Walked Term)) (cs : List Course) → AllSettle ws cs → IsQuiet (in_order ws) → AllSettled ask (all_courses cs).asked
  order-settles [] cs h q = subst (λ x. AllSettled ask (all_courses x).asked) (sym h) (nothing-asked ask)
  order-settles (w ∷ ws) [] h q = absurd h
  order-settles (w ∷ ws) (c ∷ cs) h q =
      then-settles w (λ e. and_then (in_order ws) (λ es. Ready (e ∷ es))) c (all_courses cs) h.0
      (λ e r. order-settles ws cs h.1 (ready-quiet (in_order ws) (λ es. e ∷ es) r)) q

  outcome-settles : (parent : Option Key) (k : Key) (o : Option Outcome) → ask k ≡ o → IsQuiet (by_outcome parent k o) → AllSettled ask (k ∷ [])
  outcome-settles parent k None e q y m = absurd q
  outcome-settles parent k (Some (Good v o)) e q y (inl p) = subst (IsSettled ask) p (Good v o, e)
  outcome-settles parent k (Some (Good v o)) e q y (inr n) = absurd n
  outcome-settles parent k (Some (Bad b)) e q y (inl p) = subst (IsSettled ask) p (Bad b, e)
  outcome-settles parent k (Some (Bad b)) e q y (inr n) = absurd n
  outcome-settles parent k (Some (Loop j)) e q y (inl p) = subst (IsSettled ask) p (Loop j, e)
  outcome-settles parent k (Some (Loop j)) e q y (inr n) = absurd n

  key-settles : (parent : Option Key) (k : Key) → IsQuiet (walk_key parent ask k) → AllSettled ask (course_key parent ask k).asked
  key-settles parent k q = go (is_sane parent k) q
    where
      go : (t : Bool) → IsQuiet (if t then by_outcome parent k (ask k) else Fails (record { at = parent; why = Insane k.loc }))
          → AllSettled ask (chosen t (record { asked = k ∷ []; ending = ending_by parent k (ask k) }) (record { asked = []; ending = Stops (record { at = parent; why = Insane k.loc }) })).asked
      go true r = outcome-settles parent k (ask k) refl r
      go false r = nothing-asked ask

  node-settles : (parent : Option Key) (op : Op) (r : Row Var Name) (f : Form) (ws : List (Walked Term)) (cs : List Course) → AllSettle ws cs
      → IsQuiet (walk_node parent ask op r f ws) → AllSettled ask (course_node parent ask f cs).asked
  node-settles parent op r (importing i) ws cs h q = key-settles parent (chained (place parent) i) q
  node-settles parent op r other ws cs h q = order-settles ws cs h (ready-quiet (in_order ws) (λ es. Node op (replace_row r es)) q)
  node-settles parent op r choosing [] cs h q = subst (λ x. AllSettled ask (course_node parent ask choosing x).asked) (sym h) (nothing-asked ask)
  node-settles parent op r choosing (v ∷ ws) [] h q = absurd h
  node-settles parent op r choosing (v ∷ []) (c ∷ []) h q = order-settles (v ∷ []) (c ∷ []) h (ready-quiet (in_order (v ∷ [])) (λ es. Node op (replace_row r es)) q)
  node-settles parent op r choosing (v ∷ []) (c ∷ d ∷ cs) h q = cons_nil h.1
  node-settles parent op r choosing (v ∷ w ∷ ws) (c ∷ []) h q = absurd h.1
  node-settles parent op r choosing (v ∷ w ∷ []) (c ∷ d ∷ []) h q = else-settles v w c d h.0 h.1.0.1 q
  node-settles parent op r choosing (v ∷ w ∷ []) (c ∷ d ∷ b ∷ cs) h q = cons_nil h.1.1
  node-settles parent op r choosing (v ∷ w ∷ u ∷ ws) (c ∷ d ∷ []) h q = absurd h.1.1
  node-settles parent op r choosing (v ∷ w ∷ u ∷ ws) (c ∷ d ∷ b ∷ cs) h q =
      order-settles (v ∷ w ∷ u ∷ ws) (c ∷ d ∷ b ∷ cs) h (ready-quiet (in_order (v ∷ w ∷ u ∷ ws)) (λ es. Node op (replace_row r es)) q)

  mutual
    walk-settles : (parent : Option Key) (e : Term) → Settles ask (walk parent ask e) (course parent ask e)
    walk-settles parent (Leaf v) = (refl, λ q. nothing-asked ask)
    walk-settles parent (Node op r) = (walk-course parent ask (Node op r), λ q. node-settles parent op r (form_of op) _ _ (walks-settle parent r) q)

    walks-settle : (parent : Option Key) (r : Row Var Name) → AllSettle (walks parent ask r) (courses parent ask r)
    walks-settle parent end = refl
    walks-settle parent (kid b e r) = (walk-settles parent e, walks-settle parent r)

-- ---- stages

due-walk : (allow : Option (List _)) (w : Walked Term) → is_due (of_walk allow w) ≡ true → IsQuiet w
due-walk allow (Ready e) h = tt
due-walk allow (Fails b) h = tt
due-walk allow (Turns j) h = tt
due-walk allow (Needs y) h = true_false h refl

due-bare : (ask : Ask) (j : Key) (o : Option Outcome) → ask j ≡ o → is_due (of_bare j o) ≡ true → IsSettled ask j
due-bare ask j None e h = true_false h refl
due-bare ask j (Some o) e h = (o, e)

-- what a key asks whose last step is due has outcomes
pub due-settled : (ask : Ask) (k : Key) (p : Plan) → is_due (of_plan ask k p) ≡ true → AllSettled ask (asked_by ask k p)
due-settled ask k (Unknown p) h y m = absurd m
due-settled ask k (Now i) h y m = absurd m
due-settled ask k (Walks e allow) h y m = (walk-settles ask (Some k) e).1 (due-walk allow (walk (Some k) ask e) h) y m
due-settled ask k (Asks j) h y (inl p) = subst (IsSettled ask) p (due-bare ask j (ask j) refl h)
due-settled ask k (Asks j) h y (inr n) = absurd n
