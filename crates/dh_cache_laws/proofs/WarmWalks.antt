-- Two walks of one expression, by outcomes that are the same but for the names of binders.
use Rattle.std.specs.Prelude.{◌≡◌, ◌⊎◌, Bool, true, false, if◌then◌else◌, List, [], ◌∷◌, ◌++◌, Option, Some, None, refl}
use Rattle.std.proofs.Common.{ap, sym, ◌∙◌, subst, inl, inr}
use Rattle.dh_syntax.specs.declared.expressions.Op.{Op}
use Rattle.dh_syntax.specs.declared.locations.Key.{Key}
use Rattle.dh_imports.specs.declared.outcomes.Blame.{Blame}
use Rattle.dh_imports.specs.declared.outcomes.Origin.{Origin}
use Rattle.dh_imports.specs.declared.outcomes.Why.{Why}
use Rattle.dh_imports.specs.declared.outcomes.Why.TheVariants as whys
use Rattle.dh_imports.specs.declared.outcomes.Why.TheVariants.{Insane, Cors}
use Rattle.dh_command.specs.declared.statuses.Status.TheVariants as status
use Rattle.dh_command.specs.Statuses.{why_status}
use Rattle.dh_syntax.specs.Expressions.Tree.{Row, Leaf, Node, end, kid, Name, Var, Term}
use Rattle.dh_syntax.specs.Imports.Keys.{chained}
use Rattle.dh_imports.specs.Machine.{IsAmong}
use Rattle.dh_imports.specs.Outcomes.{Outcome, Good, Bad, Loop, may_go_on}
use Rattle.dh_imports.specs.Walk.{Ask, place, Form, importing, choosing, other, form_of, Walked, Ready, Fails, Turns, Needs, and_then, or_else, in_order, allowed, by_outcome, is_sane, walk_key, walk_node, walk, walks, Ending, Goes, Stops, Circles, Course, after, then_by, else_by, all_courses, ending_by, course_key, course_node, course, courses}
use Rattle.dh_syntax.specs.Names.Alpha.{IsSame}
use Rattle.dh_syntax.specs.Normalising.Trees.{replace_row}
use Rattle.dh_laws.proofs.KeyOrder.{none-some}
use Rattle.dh_import_laws.proofs.Walks.{Knows, OnNeed, Grown, walk-grown, Told, walk-told}
use Rattle.dh_import_laws.proofs.Wants.{CourseOf, among_left, among_right, walk-course}
use Rattle.dh_import_laws.proofs.Calm.{calm_loop, calmed, calmed-calm}
use Rattle.dh_cache_laws.specs.WarmCache.{IsOriginKept, IsLimit, IsLimited, IsSameOutcome, AreSameOutcomes}
use Rattle.dh_cache_laws.proofs.CalmAsks.{calm_ask, calm_ask-known}
use Rattle.dh_cache_laws.proofs.SameTrees.{AllSame, replaced-same}

abbrev pub walks_of : Option Key → Ask → Row Var Name → List (Walked Term)
walks_of parent ask r = walks parent ask r

-- ---- the same end

abbrev pub ReadyAs : {X : Type 0} → (X → X → Type 0) → X → Walked X → Type 0
ReadyAs E x (Ready y) = E x y
ReadyAs E x (Fails b) = IsLimit b
ReadyAs E x (Turns j) = ⊥
ReadyAs E x (Needs y) = Unit {0}

abbrev pub FailsAs : {X : Type 0} → Blame → Walked X → Type 0
FailsAs b (Ready y) = ⊥
FailsAs b (Fails c) = (c ≡ b) ⊎ IsLimit c
FailsAs b (Turns j) = ⊥
FailsAs b (Needs y) = Unit {0}

-- The second walk, where it is decided and fails by no limit, ends as the first one, if that is ready or fails so that a run goes on.
abbrev pub EndsAs : {X : Type 0} → (X → X → Type 0) → Walked X → Walked X → Type 0
EndsAs E (Ready x) w = ReadyAs E x w
EndsAs E (Fails b) w = may_go_on b.why ≡ true → FailsAs b w
EndsAs E (Turns j) w = Unit {0}
EndsAs E (Needs y) w = Unit {0}

needs-as : {X : Type 0} (E : X → X → Type 0) (v : Walked X) (y : Key) → EndsAs E v (Needs y)
needs-as E (Ready x) y = tt
needs-as E (Fails b) y = λ p. tt
needs-as E (Turns j) y = tt
needs-as E (Needs z) y = tt

limit-as : {X : Type 0} (E : X → X → Type 0) (v : Walked X) (c : Blame) → IsLimit c → EndsAs E v (Fails c)
limit-as E (Ready x) c h = h
limit-as E (Fails b) c h = λ p. inr h
limit-as E (Turns j) c h = tt
limit-as E (Needs z) c h = tt

-- a run does not go on after a limit
pub limit-hard : (w : Why) → why_status w ≡ status.Limit → may_go_on w ≡ false
limit-hard whys.Absent h = absurd cc
limit-hard whys.Missing h = absurd cc
limit-hard whys.Https h = absurd cc
limit-hard (whys.Differs wanted got) h = absurd cc
limit-hard (whys.Parse f) h = refl
limit-hard (whys.Typing f) h = refl
limit-hard (whys.Norm f) h = refl
limit-hard (whys.Broken n) h = refl
limit-hard whys.Failed h = refl
limit-hard (whys.Insane l) h = refl
limit-hard (whys.Cors l) h = refl
limit-hard whys.Cycle h = refl
limit-hard whys.TooMany h = refl

-- what the course of a walk is at its end
abbrev pub Fits : {X : Type 0} → Walked X → Course → Type 0
Fits (Ready x) c = c.ending ≡ Goes
Fits (Fails b) c = c.ending ≡ Stops b
Fits (Turns j) c = Unit {0}
Fits (Needs y) c = Unit {0}

abbrev pub All : (Key → Type 0) → List Key → Type 0
All P ks = (y : Key) → IsAmong y ks → P y

module _ (P : Key → Type 0) where
  -- where what the course asks has the property, the second walk ends as the first one
  abbrev Alike : {X : Type 0} → (X → X → Type 0) → Walked X → Walked X → Course → Type 0
  Alike E v w c = (All P c.asked → EndsAs E v w) × Fits w c

  left_all : (ks js : List Key) → All P (ks ++ js) → All P ks
  left_all ks js h y m = h y (among_left y ks js m)

  right_all : (ks js : List Key) → All P (ks ++ js) → All P js
  right_all ks js h y m = h y (among_right y ks js m)

  pub first_all : (e : Ending) (c d : Course) → All P (then_by e c d).asked → All P c.asked
  first_all Goes c d h = left_all c.asked d.asked h
  first_all (Stops b) c d h = h
  first_all Circles c d h = h

  pub rest_all : (e : Ending) (c d : Course) → e ≡ Goes → All P (then_by e c d).asked → All P d.asked
  rest_all e c d p h = right_all c.asked d.asked (subst (λ x. All P (then_by x c d).asked) p h)

  abbrev chosen : Bool → Course → Course → Course
  chosen b c d = if b then c else d

  left_chosen : (t : Bool) (c d : Course) → All P (chosen t (after c d) c).asked → All P c.asked
  left_chosen true c d h = left_all c.asked d.asked h
  left_chosen false c d h = h

  pub left_choice : (e : Ending) (c d : Course) → All P (else_by e c d).asked → All P c.asked
  left_choice Goes c d h = h
  left_choice (Stops b) c d h = left_chosen (may_go_on b.why) c d h
  left_choice Circles c d h = h

  pub right_choice : (e : Ending) (b : Blame) (c d : Course) → e ≡ Stops b → may_go_on b.why ≡ true → All P (else_by e c d).asked → All P d.asked
  right_choice e b c d p t h =
      right_all c.asked d.asked (subst (λ x. All P (chosen x (after c d) c).asked) t (subst (λ x. All P (else_by x c d).asked) p h))

  -- ---- one after the other

  then-as : {X Y : Type 0} (E : X → X → Type 0) (F : Y → Y → Type 0) (v w : Walked X) (f g : X → Walked Y) → EndsAs E v w
      → ((x y : X) → w ≡ Ready y → E x y → EndsAs F (f x) (g y)) → EndsAs F (and_then v f) (and_then w g)
  then-as E F (Ready x) (Ready y) f g h k = k x y refl h
  then-as E F (Ready x) (Fails b) f g h k = limit-as F (f x) b h
  then-as E F (Ready x) (Turns j) f g h k = absurd h
  then-as E F (Ready x) (Needs y) f g h k = needs-as F (f x) y
  then-as E F (Fails b) (Ready y) f g h k = λ p. absurd (h p)
  then-as E F (Fails b) (Fails c) f g h k = h
  then-as E F (Fails b) (Turns j) f g h k = λ p. absurd (h p)
  then-as E F (Fails b) (Needs y) f g h k = h
  then-as E F (Turns j) w f g h k = tt
  then-as E F (Needs y) w f g h k = tt

  pub hard : {A : Type 0} (t : Bool) → t ≡ false → t ≡ true → A
  hard t p q = cc

  either-as : (t : Bool) (b : Blame) (v w : Walked Term) → may_go_on b.why ≡ t → (t ≡ true → EndsAs IsSame v w)
      → EndsAs IsSame (if t then v else Fails b) (if t then w else Fails b)
  either-as true b v w p h = h refl
  either-as false b v w p h = λ q. hard (may_go_on b.why) p q

  failed_limit : (c : Blame) (v w' : Walked Term) → IsLimit c → EndsAs IsSame v (or_else (Fails c) w')
  failed_limit c v w' h = subst (λ z. EndsAs IsSame v (if z then w' else Fails c)) (sym (limit-hard c.why h)) (limit-as IsSame v c h)

  failed_known : (b c : Blame) (v w' : Walked Term) → may_go_on b.why ≡ true → (c ≡ b) ⊎ IsLimit c → (c ≡ b → EndsAs IsSame v w') → EndsAs IsSame v (or_else (Fails c) w')
  failed_known b c v w' p (inl e) k = subst (λ z. EndsAs IsSame v (if z then w' else Fails c)) (sym (ap (λ x. may_go_on x.why) e ∙ p)) (k e)
  failed_known b c v w' p (inr h) k = failed_limit c v w' h

  -- after a failed left side that allows it
  failed-as : (t : Bool) (b : Blame) (v w : Walked Term) → may_go_on b.why ≡ t → (t ≡ true → FailsAs b w) → (w' : Walked Term) → ((c : Blame) → w ≡ Fails c → t ≡ true → c ≡ b → EndsAs IsSame v w')
      → EndsAs IsSame (if t then v else Fails b) (or_else w w')
  failed-as true b v (Ready y) p h w' k = absurd (h refl)
  failed-as true b v (Fails c) p h w' k = failed_known b c v w' p (h refl) (λ e. k c refl refl e)
  failed-as true b v (Turns j) p h w' k = absurd (h refl)
  failed-as true b v (Needs y) p h w' k = needs-as IsSame v y
  failed-as false b v w p h w' k = λ q. hard (may_go_on b.why) p q

  else-as : (v w v' w' : Walked Term) → EndsAs IsSame v w → ((c : Blame) → w ≡ Fails c → may_go_on c.why ≡ true → EndsAs IsSame v' w') → EndsAs IsSame (or_else v v') (or_else w w')
  else-as (Ready x) (Ready y) v' w' h k = h
  else-as (Ready x) (Fails b) v' w' h k = failed_limit b (Ready x) w' h
  else-as (Ready x) (Turns j) v' w' h k = absurd h
  else-as (Ready x) (Needs y) v' w' h k = tt
  else-as (Fails b) w v' w' h k =
      failed-as (may_go_on b.why) b v' w refl h w' (λ c p q e. k c p (ap (λ x. may_go_on x.why) e ∙ q))
  else-as (Turns j) w v' w' h k = tt
  else-as (Needs y) w v' w' h k = tt

  -- ---- parts

  abbrev AllAlike : List (Walked Term) → List (Walked Term) → List Course → Type 0
  AllAlike [] [] [] = Unit {0}
  AllAlike (v ∷ vs) (w ∷ ws) (c ∷ cs) = Alike IsSame v w c × AllAlike vs ws cs
  AllAlike _ _ _ = ⊥

  pub goes_on-ending : {X : Type 0} (w : Walked X) (c : Course) (x : X) → w ≡ Ready x → Fits w c → c.ending ≡ Goes
  goes_on-ending w c x p h = subst (λ z. Fits z c) p h

  order-as : (vs ws : List (Walked Term)) (cs : List Course) → AllAlike vs ws cs → All P (all_courses cs).asked → EndsAs AllSame (in_order vs) (in_order ws)
  order-as [] [] [] h a = tt
  order-as (v ∷ vs) (w ∷ ws) (c ∷ cs) h a =
      then-as IsSame AllSame v w _ _ (h.0.0 (first_all c.ending c (all_courses cs) a)) λ x y p s.
      then-as AllSame AllSame (in_order vs) (in_order ws) _ _ (order-as vs ws cs h.1 (rest_all c.ending c (all_courses cs) (goes_on-ending w c y p h.0.1) a)) λ xs ys q t. (s, t)
  order-as [] [] (c ∷ cs) h a = absurd h
  order-as [] (w ∷ ws) cs h a = absurd h
  order-as (v ∷ vs) [] cs h a = absurd h
  order-as (v ∷ vs) (w ∷ ws) [] h a = absurd h

  rebuilt-as : (op : Op) (r : Row Var Name) (vs ws : List (Walked Term)) (cs : List Course) → AllAlike vs ws cs → All P (all_courses cs).asked
      → EndsAs IsSame (and_then (in_order vs) (λ es. Ready (Node op (replace_row r es)))) (and_then (in_order ws) (λ es. Ready (Node op (replace_row r es))))
  rebuilt-as op r vs ws cs h a = then-as AllSame IsSame (in_order vs) (in_order ws) _ _ (order-as vs ws cs h a) (λ xs ys p s. replaced-same op r xs ys s)

  pub stops : (w : Walked Term) (c : Course) (b : Blame) → w ≡ Fails b → Fits w c → c.ending ≡ Stops b
  stops w c b p h = subst (λ z. Fits z c) p h

  choice-as : (v w v' w' : Walked Term) (c d : Course) → Alike IsSame v w c → Alike IsSame v' w' d → All P (else_by c.ending c d).asked → EndsAs IsSame (or_else v v') (or_else w w')
  choice-as v w v' w' c d h k a =
      else-as v w v' w' (h.0 (left_choice c.ending c d a)) (λ b p t. k.0 (right_choice c.ending b c d (stops w c b p h.1) t a))

-- ---- the two walks, and the course of the second one by more outcomes

module _ (P : Key → Type 0) (parent : Option Key) (less more ask : Ask)
    (alike : (k : Key) → P k → AreSameOutcomes (less k) (more k)) (known : Knows (calm_ask more) ask) where
  -- where a walk ends at no loop, its course is that of its end
  met : {X : Type 0} (w : Walked X) (c : Course) (y : Key) (x : Option Outcome) → more y ≡ x → calm_ask more y ≡ None → OnNeed y w x → Fits w c
  met w c y None e n g = subst (λ z. Fits z c) (sym g) tt
  met w c y (Some (Loop j)) e n g = subst (λ z. Fits z c) (sym g) tt
  met w c y (Some (Good v o)) e n g = none-some n (ap calmed e)
  met w c y (Some (Bad b)) e n g = none-some n (ap calmed e)

  fits_by : (v w u : Walked Term) (c : Course) → Grown more v w → Grown ask v u → Told (calm_ask more) v → CourseOf u c → Fits w c
  fits_by (Ready x) w u c g h t p = subst (λ z. Fits z c) (sym g) (subst (λ z. CourseOf z c) h p)
  fits_by (Fails b) w u c g h t p = subst (λ z. Fits z c) (sym g) (subst (λ z. CourseOf z c) h p)
  fits_by (Turns j) w u c g h t p = calm_loop (calmed-calm (more t.0)) t.1
  fits_by (Needs y) w u c g h t p = met w c y (more y) refl t g

  pub fits : (e : Term) → Fits (walk parent more e) (course parent ask e)
  fits e =
      fits_by (walk parent (calm_ask more) e) (walk parent more e) (walk parent ask e) (course parent ask e)
      (walk-grown parent (calm_ask more) more (calm_ask-known more) e) (walk-grown parent (calm_ask more) ask known e) (walk-told parent (calm_ask more) e) (walk-course parent ask e)

  cors : {A : Type 0} (b : Blame) (k : Key) → b ≡ record { at = parent; why = Cors k.loc } → may_go_on b.why ≡ true → A
  cors b k p q = hard P false refl (sym (ap (λ x. may_go_on x.why) p) ∙ q)

  kept_allowed : (k : Key) (o c : Origin) → IsOriginKept o c → allowed parent k o ≡ true → allowed parent k c ≡ true
  kept_allowed k o c (inl p) t = ap (allowed parent k) p ∙ t
  kept_allowed k o c (inr p) t = ap (allowed parent k) p

  limited-as : (v : Walked Term) (k : Key) (q : Outcome) → IsLimited q → EndsAs IsSame v (by_outcome parent k (Some q))
  limited-as v k (Good u c) h = absurd h
  limited-as v k (Bad b) h = limit-as IsSame v b h
  limited-as v k (Loop j) h = absurd h

  good-known : (k : Key) (v : Term) (o : Origin) (q : Outcome) → IsSameOutcome (Good v o) q → allowed parent k o ≡ true → ReadyAs IsSame v (by_outcome parent k (Some q))
  good-known k v o q (inl (w, c, e, s, i)) p =
      subst (λ x. ReadyAs IsSame v (by_outcome parent k (Some x))) (sym e)
      (subst (λ b. ReadyAs IsSame v (if b then Ready w else Fails (record { at = parent; why = Cors k.loc }))) (sym (kept_allowed k o c i p)) s)
  good-known k v o q (inr h) p = limited-as (Ready v) k q h

  bad-known : (k : Key) (b : Blame) (q : Outcome) → (q ≡ Bad b) ⊎ IsLimited q → FailsAs b (by_outcome parent k (Some q))
  bad-known k b q (inl e) = subst (λ x. FailsAs b (by_outcome parent k (Some x))) (sym e) (inl refl)
  bad-known k b (Good u c) (inr h) = absurd h
  bad-known k b (Bad c) (inr h) = inr h
  bad-known k b (Loop j) (inr h) = absurd h

  good-as : (k : Key) (v : Term) (o : Origin) (y : Option Outcome) → AreSameOutcomes (Some (Good v o)) y → (t : Bool) → allowed parent k o ≡ t
      → EndsAs IsSame (if t then Ready v else Fails (record { at = parent; why = Cors k.loc })) (by_outcome parent k y)
  good-as k v o None h true p = tt
  good-as k v o (Some q) h true p = good-known k v o q h p
  good-as k v o None h false p = λ q. cors (record { at = parent; why = Cors k.loc }) k refl q
  good-as k v o (Some x) h false p = λ q. cors (record { at = parent; why = Cors k.loc }) k refl q

  outcome-as : (k : Key) (x y : Option Outcome) → AreSameOutcomes x y → EndsAs IsSame (by_outcome parent k x) (by_outcome parent k y)
  outcome-as k None y h = tt
  outcome-as k (Some (Good v o)) y h = good-as k v o y h (allowed parent k o) refl
  outcome-as k (Some (Bad b)) None h = λ p. tt
  outcome-as k (Some (Bad b)) (Some q) h = λ p. bad-known k b q (h p)
  outcome-as k (Some (Loop j)) y h = tt

  pub key-as : (k : Key) → All P (course_key parent ask k).asked → EndsAs IsSame (walk_key parent less k) (walk_key parent more k)
  key-as k a = go (is_sane parent k) a
    where
      go : (t : Bool) → All P (chosen P t (record { asked = k ∷ []; ending = ending_by parent k (ask k) }) (record { asked = []; ending = Stops (record { at = parent; why = Insane k.loc }) })).asked
          → EndsAs IsSame (if t then by_outcome parent k (less k) else Fails (record { at = parent; why = Insane k.loc }))
          (if t then by_outcome parent k (more k) else Fails (record { at = parent; why = Insane k.loc }))
      go true b = outcome-as k (less k) (more k) (alike k (b k (inl refl)))
      go false b = λ p. inl refl

  node-as : (op : Op) (r : Row Var Name) (f : Form) (vs ws : List (Walked Term)) (cs : List Course) → AllAlike P vs ws cs → All P (course_node parent ask f cs).asked
      → EndsAs IsSame (walk_node parent less op r f vs) (walk_node parent more op r f ws)
  node-as op r (importing i) vs ws cs h a = key-as (chained (place parent) i) a
  node-as op r other vs ws cs h a = rebuilt-as P op r vs ws cs h a
  node-as op r choosing [] [] [] h a = rebuilt-as P op r [] [] [] h a
  node-as op r choosing (v ∷ []) (w ∷ []) (c ∷ []) h a = rebuilt-as P op r (v ∷ []) (w ∷ []) (c ∷ []) h a
  node-as op r choosing (v ∷ v' ∷ []) (w ∷ w' ∷ []) (c ∷ d ∷ []) h a = choice-as P v w v' w' c d h.0 h.1.0 a
  node-as op r choosing (v ∷ v' ∷ x ∷ vs) (w ∷ w' ∷ y ∷ ws) (c ∷ d ∷ b ∷ cs) h a = rebuilt-as P op r (v ∷ v' ∷ x ∷ vs) (w ∷ w' ∷ y ∷ ws) (c ∷ d ∷ b ∷ cs) h a
  node-as op r choosing [] [] (c ∷ cs) h a = absurd h
  node-as op r choosing [] (w ∷ ws) cs h a = absurd h
  node-as op r choosing (v ∷ vs) [] cs h a = absurd h
  node-as op r choosing (v ∷ vs) (w ∷ ws) [] h a = absurd h
  node-as op r choosing (v ∷ []) (w ∷ []) (c ∷ d ∷ cs) h a = absurd h.1
  node-as op r choosing (v ∷ []) (w ∷ w' ∷ ws) (c ∷ cs) h a = absurd h.1
  node-as op r choosing (v ∷ v' ∷ vs) (w ∷ []) (c ∷ cs) h a = absurd h.1
  node-as op r choosing (v ∷ v' ∷ vs) (w ∷ w' ∷ ws) (c ∷ []) h a = absurd h.1
  node-as op r choosing (v ∷ v' ∷ []) (w ∷ w' ∷ []) (c ∷ d ∷ b ∷ cs) h a = absurd h.1.1
  node-as op r choosing (v ∷ v' ∷ []) (w ∷ w' ∷ y ∷ ws) (c ∷ d ∷ cs) h a = absurd h.1.1
  node-as op r choosing (v ∷ v' ∷ x ∷ vs) (w ∷ w' ∷ []) (c ∷ d ∷ cs) h a = absurd h.1.1
  node-as op r choosing (v ∷ v' ∷ x ∷ vs) (w ∷ w' ∷ y ∷ ws) (c ∷ d ∷ []) h a = absurd h.1.1

  mutual
    pub walk-as : (e : Term) → All P (course parent ask e).asked → EndsAs IsSame (walk parent less e) (walk parent more e)
    walk-as (Leaf v) a = refl
    walk-as (Node op r) a = node-as op r (form_of op) (walks parent less r) (walks parent more r) (courses parent ask r) (walks-as r) a

    walks-as : (r : Row Var Name) → AllAlike P (walks parent less r) (walks parent more r) (courses parent ask r)
    walks-as end = tt
    walks-as (kid b e r) = ((λ a. walk-as e a, fits e), walks-as r)
