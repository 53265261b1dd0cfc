-- The key that a walk needs is one of its wants, and the keys that it asks are those of its imports.
use Rattle.std.specs.Prelude.{◌≡◌, ◌⊎◌, Bool, true, false, if◌then◌else◌, List, [], ◌∷◌, ◌++◌, Option, Some, None, refl}
use Rattle.std.proofs.Common.{sym, subst, inl, inr}
use Rattle.dh_syntax.specs.declared.expressions.Op.{Op}
use Rattle.dh_syntax.specs.declared.locations.Key.{Key}
use Rattle.dh_syntax.specs.Expressions.Tree.{Row, Leaf, Node, end, kid, Name, Var, Term}
use Rattle.dh_syntax.specs.Normalising.Trees.{replace_row}
use Rattle.dh_syntax.specs.Imports.Keys.{chained}
use Rattle.dh_imports.specs.Machine.{IsAmong}
use Rattle.dh_imports.specs.declared.outcomes.Blame.{Blame}
use Rattle.dh_imports.specs.declared.outcomes.Why.TheVariants.{Insane, Cors}
use Rattle.dh_imports.specs.Outcomes.{Outcome, Good, Bad, Loop, may_go_on}
use Rattle.dh_imports.specs.Walk.{Ask, place, Form, importing, choosing, other, form_of, Walked, Ready, Fails, Turns, Needs, and_then, or_else, in_order, allowed, by_outcome, is_sane, walk_key, walk_node, walk, walks, Ending, Goes, Stops, Circles, Course, after, then_by, else_by, all_courses, ending_by, course_key, course_node, course, courses, keys_of_form, keys_of, keys_of_row}

-- ---- members

pub among_left : {A : Type 0} (a : A) (xs ys : List A) → IsAmong a xs → IsAmong a (xs ++ ys)
among_left a [] ys m = absurd m
among_left a (x ∷ xs) ys (inl p) = inl p
among_left a (x ∷ xs) ys (inr n) = inr (among_left a xs ys n)

pub among_right : {A : Type 0} (a : A) (xs ys : List A) → IsAmong a ys → IsAmong a (xs ++ ys)
among_right a [] ys m = m
among_right a (x ∷ xs) ys m = inr (among_right a xs ys m)

pub among-split : {A : Type 0} (a : A) (xs ys : List A) → IsAmong a (xs ++ ys) → IsAmong a xs ⊎ IsAmong a ys
among-split a [] ys m = inr m
among-split a (x ∷ xs) ys (inl p) = inl (inl p)
among-split a (x ∷ xs) ys (inr n) = go (among-split a xs ys n)
  where
    go : IsAmong a xs ⊎ IsAmong a ys → IsAmong a (x ∷ xs) ⊎ IsAmong a ys
    go (inl m) = inl (inr m)
    go (inr m) = inr m

-- ---- the course of a walk ends as the walk does, and has the key that the walk needs

abbrev pub CourseOf : {X : Type 0} → Walked X → Course → Type 0
CourseOf (Ready x) c = c.ending ≡ Goes
CourseOf (Fails b) c = c.ending ≡ Stops b
CourseOf (Turns j) c = c.ending ≡ Circles
CourseOf (Needs y) c = IsAmong y c.asked

course-after : {X : Type 0} (w : Walked X) (c d : Course) → CourseOf w d → CourseOf w (after c d)
course-after (Ready x) c d h = h
course-after (Fails b) c d h = h
course-after (Turns j) c d h = h
course-after (Needs y) c d h = among_right y c.asked d.asked h

then-needs : (y : Key) (e : Ending) (c d : Course) → IsAmong y c.asked → IsAmong y (then_by e c d).asked
then-needs y Goes c d m = among_left y c.asked d.asked m
then-needs y (Stops b) c d m = m
then-needs y Circles c d m = m

and_then-course : {X Y : Type 0} (w : Walked X) (f : X → Walked Y) (c d : Course) → CourseOf w c → ((x : X) → CourseOf (f x) d) → CourseOf (and_then w f) (then_by c.ending c d)
and_then-course (Ready x) f c d h k = subst (λ e. CourseOf (f x) (then_by e c d)) (sym h) (course-after (f x) c d (k x))
and_then-course (Fails b) f c d h k = subst (λ e. (then_by e c d).ending ≡ Stops b) (sym h) h
and_then-course (Turns j) f c d h k = subst (λ e. (then_by e c d).ending ≡ Circles) (sym h) h
and_then-course (Needs y) f c d h k = then-needs y c.ending c d h

either-course : (t : Bool) (b : Blame) (w : Walked Term) (c d : Course) → CourseOf w d → c.ending ≡ Stops b → CourseOf (if t then w else Fails b) (if t then after c d else c)
either-course true b w c d h k = course-after w c d h
either-course false b w c d h k = k

else-needs : (y : Key) (e : Ending) (c d : Course) → IsAmong y c.asked → IsAmong y (else_by e c d).asked
else-needs y Goes c d m = m
else-needs y (Stops b) c d m = go (may_go_on b.why)
  where
    go : (t : Bool) → IsAmong y (if t then after c d else c).asked
    go true = among_left y c.asked d.asked m
    go false = m
else-needs y Circles c d m = m

or_else-course : (v w : Walked Term) (c d : Course) → CourseOf v c → CourseOf w d → CourseOf (or_else v w) (else_by c.ending c d)
or_else-course (Ready x) w c d h k = subst (λ e. (else_by e c d).ending ≡ Goes) (sym h) h
or_else-course (Fails b) w c d h k =
    subst (λ e. CourseOf (if may_go_on b.why then w else Fails b) (else_by e c d)) (sym h) (either-course (may_go_on b.why) b w c d k h)
or_else-course (Turns j) w c d h k = subst (λ e. (else_by e c d).ending ≡ Circles) (sym h) h
or_else-course (Needs y) w c d h k = else-needs y c.ending c d h

abbrev AllCourses : List (Walked Term) → List Course → Type 0
AllCourses [] cs = cs ≡ []
AllCourses (w ∷ ws) [] = ⊥
AllCourses (w ∷ ws) (c ∷ cs) = CourseOf w c × AllCourses ws cs

in_order-course : (ws : List (Walked Term)) (cs : List Course) → AllCourses ws cs → CourseOf (in_order ws) (all_courses cs)
in_order-course [] cs h = subst (λ x. (all_courses x).ending ≡ Goes) (sym h) refl
in_order-course (w ∷ ws) [] h = absurd h
in_order-course (w ∷ ws) (c ∷ cs) h = and_then-course w _ c (all_courses cs) h.0 (λ e. go e (in_order ws) (in_order-course ws cs h.1))
  where
    go : (e : Term) (v : Walked (List Term)) → CourseOf v (all_courses cs) → CourseOf (and_then v (λ es. Ready (e ∷ es))) (all_courses cs)
    go e (Ready x) h = h
    go e (Fails b) h = h
    go e (Turns j) h = h
    go e (Needs y) h = h

rebuilt-course : (op : Op) (r : Row Var Name) (ws : List (Walked Term)) (cs : List Course) → AllCourses ws cs → CourseOf (and_then (in_order ws) (λ es. Ready (Node op (replace_row r es)))) (all_courses cs)
rebuilt-course op r ws cs h = go (in_order ws) (in_order-course ws cs h)
  where
    go : (v : Walked (List Term)) → CourseOf v (all_courses cs) → CourseOf (and_then v (λ es. Ready (Node op (replace_row r es)))) (all_courses cs)
    go (Ready x) h = h
    go (Fails b) h = h
    go (Turns j) h = h
    go (Needs y) h = h

outcome-course : (parent : Option Key) (k : Key) (o : Option Outcome) → CourseOf (by_outcome parent k o) (record { asked = k ∷ []; ending = ending_by parent k o })
outcome-course parent k None = inl refl
outcome-course parent k (Some (Good v o)) = go (allowed parent k o)
  where
    go : (t : Bool) → CourseOf (if t then Ready v else Fails (record { at = parent; why = Cors k.loc })) (record { asked = k ∷ []; ending = if t then Goes else Stops (record { at = parent; why = Cors k.loc }) })
    go true = refl
    go false = refl
outcome-course parent k (Some (Bad b)) = refl
outcome-course parent k (Some (Loop j)) = refl

key-course : (parent : Option Key) (ask : Ask) (k : Key) → CourseOf (walk_key parent ask k) (course_key parent ask k)
key-course parent ask k = go (is_sane parent k)
  where
    go : (t : Bool) → CourseOf (if t then by_outcome parent k (ask k) else Fails (record { at = parent; why = Insane k.loc }))
        (if t then record { asked = k ∷ []; ending = ending_by parent k (ask k) } else record { asked = []; ending = Stops (record { at = parent; why = Insane k.loc }) })
    go true = outcome-course parent k (ask k)
    go false = refl

cons_nil : {A P : Type 0} {a : A} {xs : List A} → a ∷ xs ≡ [] → P
cons_nil p = cc

node-course : (parent : Option Key) (ask : Ask) (op : Op) (r : Row Var Name) (f : Form) (ws : List (Walked Term)) (cs : List Course) → AllCourses ws cs
    → CourseOf (walk_node parent ask op r f ws) (course_node parent ask f cs)
node-course parent ask op r (importing i) ws cs h = key-course parent ask (chained (place parent) i)
node-course parent ask op r other ws cs h = rebuilt-course op r ws cs h
node-course parent ask op r choosing [] cs h = subst (λ x. CourseOf (walk_node parent ask op r choosing []) (course_node parent ask choosing x)) (sym h) refl
node-course parent ask op r choosing (v ∷ ws) [] h = absurd h
node-course parent ask op r choosing (v ∷ []) (c ∷ []) h = rebuilt-course op r (v ∷ []) (c ∷ []) h
node-course parent ask op r choosing (v ∷ []) (c ∷ d ∷ cs) h = cons_nil h.1
node-course parent ask op r choosing (v ∷ w ∷ ws) (c ∷ []) h = absurd h.1
node-course parent ask op r choosing (v ∷ w ∷ []) (c ∷ d ∷ []) h = or_else-course v w c d h.0 h.1.0
node-course parent ask op r choosing (v ∷ w ∷ []) (c ∷ d ∷ b ∷ cs) h = cons_nil h.1.1
node-course parent ask op r choosing (v ∷ w ∷ u ∷ ws) (c ∷ d ∷ []) h = absurd h.1.1
node-course parent ask op r choosing (v ∷ w ∷ u ∷ ws) (c ∷ d ∷ b ∷ cs) h = rebuilt-course op r (v ∷ w ∷ u ∷ ws) (c ∷ d ∷ b ∷ cs) h

mutual
  pub walk-course : (parent : Option Key) (ask : Ask) (e : Term) → CourseOf (walk parent ask e) (course parent ask e)
  walk-course parent ask (Leaf v) = refl
  walk-course parent ask (Node op r) = node-course parent ask op r (form_of op) _ _ (walks-courses parent ask r)

  walks-courses : (parent : Option Key) (ask : Ask) (r : Row Var Name) → AllCourses (walks parent ask r) (courses parent ask r)
  walks-courses parent ask end = refl
  walks-courses parent ask (kid b e r) = (walk-course parent ask e, walks-courses parent ask r)

pub needs-asked : (parent : Option Key) (ask : Ask) (e : Term) (y : Key) → walk parent ask e ≡ Needs y → IsAmong y (course parent ask e).asked
needs-asked parent ask e y h = subst (λ w. CourseOf w (course parent ask e)) h (walk-course parent ask e)

-- ---- what is asked is the key of an import

abbrev all_asked : List Course → List Key
all_asked [] = []
all_asked (c ∷ cs) = c.asked ++ all_asked cs

after-asked : (y : Key) (c d : Course) (ks : List Key) → (IsAmong y d.asked → IsAmong y ks) → IsAmong y (after c d).asked → IsAmong y (c.asked ++ ks)
after-asked y c d ks f m = go (among-split y c.asked d.asked m)
  where
    go : IsAmong y c.asked ⊎ IsAmong y d.asked → IsAmong y (c.asked ++ ks)
    go (inl n) = among_left y c.asked ks n
    go (inr n) = among_right y c.asked ks (f n)

then-asked : (y : Key) (e : Ending) (c d : Course) (ks : List Key) → (IsAmong y d.asked → IsAmong y ks) → IsAmong y (then_by e c d).asked → IsAmong y (c.asked ++ ks)
then-asked y Goes c d ks f m = after-asked y c d ks f m
then-asked y (Stops b) c d ks f m = among_left y c.asked ks m
then-asked y Circles c d ks f m = among_left y c.asked ks m

else-asked : (y : Key) (e : Ending) (c d : Course) (ks : List Key) → (IsAmong y d.asked → IsAmong y ks) → IsAmong y (else_by e c d).asked → IsAmong y (c.asked ++ ks)
else-asked y Goes c d ks f m = among_left y c.asked ks m
else-asked y (Stops b) c d ks f m = go (may_go_on b.why) m
  where
    go : (t : Bool) → IsAmong y (if t then after c d else c).asked → IsAmong y (c.asked ++ ks)
    go true n = after-asked y c d ks f n
    go false n = among_left y c.asked ks n
else-asked y Circles c d ks f m = among_left y c.asked ks m

courses-asked : (y : Key) (cs : List Course) → IsAmong y (all_courses cs).asked → IsAmong y (all_asked cs)
courses-asked y [] m = absurd m
courses-asked y (c ∷ cs) m = then-asked y c.ending c (all_courses cs) (all_asked cs) (λ n. courses-asked y cs n) m

abbrev chosen : Bool → Course → Course → Course
chosen b c d = if b then c else d

key-asked : (parent : Option Key) (ask : Ask) (k y : Key) → IsAmong y (course_key parent ask k).asked → IsAmong y (k ∷ [])
key-asked parent ask k y m =
    go (is_sane parent k) (record { asked = k ∷ []; ending = ending_by parent k (ask k) }) (record { asked = []; ending = Stops (record { at = parent; why = Insane k.loc }) }) (λ n. n) (λ n. absurd n) m
  where
    go : (t : Bool) (c d : Course) → (IsAmong y c.asked → IsAmong y (k ∷ [])) → (IsAmong y d.asked → IsAmong y (k ∷ [])) → IsAmong y (chosen t c d).asked → IsAmong y (k ∷ [])
    go true c d f g n = f n
    go false c d f g n = g n

node-asked : (parent : Option Key) (ask : Ask) (y : Key) (f : Form) (cs : List Course) → IsAmong y (course_node parent ask f cs).asked → IsAmong y (keys_of_form (place parent) f ++ all_asked cs)
node-asked parent ask y (importing i) cs m = among_left y (chained (place parent) i ∷ []) (all_asked cs) (key-asked parent ask (chained (place parent) i) y m)
node-asked parent ask y other cs m = courses-asked y cs m
node-asked parent ask y choosing [] m = absurd m
node-asked parent ask y choosing (c ∷ []) m = courses-asked y (c ∷ []) m
node-asked parent ask y choosing (c ∷ d ∷ []) m = else-asked y c.ending c d (d.asked ++ []) (λ n. among_left y d.asked [] n) m
node-asked parent ask y choosing (c ∷ d ∷ b ∷ cs) m = courses-asked y (c ∷ d ∷ b ∷ cs) m

either_in : (y : Key) (as' bs cs ds : List Key) → (IsAmong y as' → IsAmong y cs) → (IsAmong y bs → IsAmong y ds) → IsAmong y (as' ++ bs) → IsAmong y (cs ++ ds)
either_in y as' bs cs ds f g m = go (among-split y as' bs m)
  where
    go : IsAmong y as' ⊎ IsAmong y bs → IsAmong y (cs ++ ds)
    go (inl n) = among_left y cs ds (f n)
    go (inr n) = among_right y cs ds (g n)

widened : (y : Key) (as' bs ds : List Key) → (IsAmong y bs → IsAmong y ds) → IsAmong y (as' ++ bs) → IsAmong y (as' ++ ds)
widened y as' bs ds g m = either_in y as' bs as' ds (λ n. n) g m

mutual
  pub asked-keys : (parent : Option Key) (ask : Ask) (y : Key) (e : Term) → IsAmong y (course parent ask e).asked → IsAmong y (keys_of (place parent) e)
  asked-keys parent ask y (Leaf v) m = m
  asked-keys parent ask y (Node op r) m =
      widened y (keys_of_form (place parent) (form_of op)) (all_asked (courses parent ask r)) (keys_of_row (place parent) r)
      (λ n. all_asked-keys parent ask y r n) (node-asked parent ask y (form_of op) (courses parent ask r) m)

  all_asked-keys : (parent : Option Key) (ask : Ask) (y : Key) (r : Row Var Name) → IsAmong y (all_asked (courses parent ask r)) → IsAmong y (keys_of_row (place parent) r)
  all_asked-keys parent ask y end m = m
  all_asked-keys parent ask y (kid b e r) m =
      either_in y (course parent ask e).asked (all_asked (courses parent ask r)) (keys_of (place parent) e) (keys_of_row (place parent) r)
      (λ n. asked-keys parent ask y e n) (λ n. all_asked-keys parent ask y r n) m
