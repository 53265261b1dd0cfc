-- A walk looks at the outcomes of the keys that its course asks, and at no other.
use Rattle.std.specs.Prelude.{◌≡◌, Bool, true, false, if◌then◌else◌, List, [], ◌∷◌, ◌++◌, Option, refl}
use Rattle.std.proofs.Common.{ap, sym, ◌∙◌, subst, inl}
use Rattle.dh_syntax.specs.declared.expressions.Op.{Op}
use Rattle.dh_syntax.specs.declared.locations.Key.{Key}
use Rattle.dh_imports.specs.declared.outcomes.Blame.{Blame}
use Rattle.dh_imports.specs.declared.outcomes.Why.TheVariants.{Insane}
use Rattle.dh_syntax.specs.Expressions.Tree.{Row, Leaf, Node, end, kid, Name, Var, Term}
use Rattle.dh_syntax.specs.Normalising.Trees.{replace_row}
use Rattle.dh_syntax.specs.Imports.Keys.{chained}
use Rattle.dh_imports.specs.Machine.{IsAmong}
use Rattle.dh_imports.specs.Outcomes.{Outcome, may_go_on}
use Rattle.dh_imports.specs.Walk.{Ask, place, Form, importing, choosing, other, form_of, Walked, Ready, Fails, Turns, Needs, and_then, or_else, in_order, by_outcome, is_sane, walk_key, walk_node, walk, walks, Ending, Goes, Stops, Circles, Course, after, then_by, else_by, all_courses, ending_by, course_key, course_node, course, courses}
use Rattle.dh_laws.proofs.KeyOrder.{true_false}
use Rattle.dh_import_laws.proofs.Wants.{CourseOf, among_left, among_right, walk-course}

abbrev chosen : {X : Type 0} → Bool → X → X → X
chosen b x y = if b then x else y

going : {P : Type 0} {b : Blame} → Goes ≡ Stops b → P
going p = cc

going_round : {P : Type 0} → Goes ≡ Circles → P
going_round p = cc

cons_nil : {A P : Type 0} {a : A} {xs : List A} → a ∷ xs ≡ [] → P
cons_nil p = cc

module _ (parent : Option Key) (ask more : Ask) where
  -- the two agree on these keys
  abbrev pub AgreeOnAll : List Key → Type 0
  AgreeOnAll ks = (y : Key) → IsAmong y ks → ask y ≡ more y

  left_of : (ks js : List Key) → AgreeOnAll (ks ++ js) → AgreeOnAll ks
  left_of ks js f y m = f y (among_left y ks js m)

  right_of : (ks js : List Key) → AgreeOnAll (ks ++ js) → AgreeOnAll js
  right_of ks js f y m = f y (among_right y ks js m)

  -- a walk with its course, and the same by the other outcomes
  abbrev Alike : {X : Type 0} → Walked X → Course → Walked X → Course → Type 0
  Alike w c v d = CourseOf w c × (AgreeOnAll c.asked → (w ≡ v) × (c ≡ d))

  -- what comes behind a walk that is not ready does not count
  unready : {X Y : Type 0} (w : Walked X) (f g : X → Walked Y) (c : Course) → CourseOf w c → ¬ (c.ending ≡ Goes) → and_then w f ≡ and_then w g
  unready (Ready x) f g c h n = absurd (n h)
  unready (Fails b) f g c h n = refl
  unready (Turns j) f g c h n = refl
  unready (Needs y) f g c h n = refl

  then-alike : {X Y : Type 0} (w v : Walked X) (c d : Course) (f g : X → Walked Y) (c' d' : Course) → Alike w c v d
      → (AgreeOnAll c'.asked → (f ≡ g) × (c' ≡ d')) → AgreeOnAll (then_by c.ending c c').asked
      → (and_then w f ≡ and_then v g) × (then_by c.ending c c' ≡ then_by d.ending d d')
  then-alike w v c d f g c' d' (h, p) q a = go c.ending refl a
    where
      go : (e : Ending) → c.ending ≡ e → AgreeOnAll (then_by e c c').asked → (and_then w f ≡ and_then v g) × (then_by c.ending c c' ≡ then_by d.ending d d')
      go Goes e t =
          let s = p (left_of c.asked c'.asked t) in
          let u = q (right_of c.asked c'.asked t) in
          (ap (λ x. and_then x f) s.0 ∙ ap (λ x. and_then v x) u.0, ap (λ x. then_by x.ending x c') s.1 ∙ ap (λ x. then_by d.ending d x) u.1)
      go (Stops b) e t =
          let s = p t in (
            unready w f g c h (λ z. going (sym z ∙ e)) ∙ ap (λ x. and_then x g) s.0,
            ap (λ x. then_by x c c') e ∙ sym (ap (λ x. then_by x c d') e) ∙ ap (λ x. then_by x.ending x d') s.1,
          )
      go Circles e t =
          let s = p t in (
            unready w f g c h (λ z. going_round (sym z ∙ e)) ∙ ap (λ x. and_then x g) s.0,
            ap (λ x. then_by x c c') e ∙ sym (ap (λ x. then_by x c d') e) ∙ ap (λ x. then_by x.ending x d') s.1,
          )

  -- what stands to the right of a walk after which no run goes on does not count
  abbrev Goes_on : Ending → Type 0
  Goes_on Goes = ⊥
  Goes_on Circles = ⊥
  Goes_on (Stops b) = may_go_on b.why ≡ true

  settled_left : (w x y : Walked Term) (c : Course) → CourseOf w c → ¬ Goes_on c.ending → or_else w x ≡ or_else w y
  settled_left (Ready e) x y c h n = refl
  settled_left (Turns j) x y c h n = refl
  settled_left (Needs k) x y c h n = refl
  settled_left (Fails b) x y c h n = go (may_go_on b.why) refl
    where
      go : (t : Bool) → may_go_on b.why ≡ t → chosen (may_go_on b.why) x (Fails b) ≡ chosen (may_go_on b.why) y (Fails b)
      go true e = absurd (n (subst Goes_on (sym h) e))
      go false e = ap (λ t. chosen t x (Fails b)) e ∙ sym (ap (λ t. chosen t y (Fails b)) e)

  else-alike : (w v x y : Walked Term) (c d c' d' : Course) → Alike w c v d → (AgreeOnAll c'.asked → (x ≡ y) × (c' ≡ d'))
      → AgreeOnAll (else_by c.ending c c').asked → (or_else w x ≡ or_else v y) × (else_by c.ending c c' ≡ else_by d.ending d d')
  else-alike w v x y c d c' d' (h, p) q a = go c.ending refl a
    where
      stop : (e : Ending) → c.ending ≡ e → ¬ Goes_on e → (else_by e c c' ≡ c) → (else_by e c d' ≡ c) → AgreeOnAll c.asked
          → (or_else w x ≡ or_else v y) × (else_by c.ending c c' ≡ else_by d.ending d d')
      stop e z n l m t =
          let s = p t in (
            settled_left w x y c h (λ g. n (subst Goes_on z g)) ∙ ap (λ u. or_else u y) s.0,
            ap (λ u. else_by u c c') z ∙ l ∙ sym m ∙ sym (ap (λ u. else_by u c d') z) ∙ ap (λ u. else_by u.ending u d') s.1,
          )

      go : (e : Ending) → c.ending ≡ e → AgreeOnAll (else_by e c c').asked → (or_else w x ≡ or_else v y) × (else_by c.ending c c' ≡ else_by d.ending d d')
      go Goes e t = stop Goes e (λ z. z) refl refl t
      go Circles e t = stop Circles e (λ z. z) refl refl t
      go (Stops b) e t = by (may_go_on b.why) refl
        where
          by : (u : Bool) → may_go_on b.why ≡ u → (or_else w x ≡ or_else v y) × (else_by c.ending c c' ≡ else_by d.ending d d')
          by true z =
              let t' : AgreeOnAll (after c c').asked = subst (λ u. AgreeOnAll (chosen u (after c c') c).asked) z t in
              let s = p (left_of c.asked c'.asked t') in
              let r = q (right_of c.asked c'.asked t') in
              (ap (λ u. or_else u x) s.0 ∙ ap (λ u. or_else v u) r.0, ap (λ u. else_by u.ending u c') s.1 ∙ ap (λ u. else_by d.ending d u) r.1)
          by false z =
              stop (Stops b) e (λ g. true_false g z) (ap (λ u. chosen u (after c c') c) z) (ap (λ u. chosen u (after c d') c) z)
              (subst (λ u. AgreeOnAll (chosen u (after c c') c).asked) z t)

  -- the course at an import, and where it is not sane
  abbrev asks_it : Key → Option Outcome → Course
  asks_it k o = record { asked = k ∷ []; ending = ending_by parent k o }

  abbrev asks_none : Key → Course
  asks_none k = record { asked = []; ending = Stops (record { at = parent; why = Insane k.loc }) }

  abbrev course_if : Bool → Course → Course → Course
  course_if b c d = if b then c else d

  -- by the same outcome an import comes to the same
  key-alike : (k : Key) → AgreeOnAll (course_key parent ask k).asked → (walk_key parent ask k ≡ walk_key parent more k) × (course_key parent ask k ≡ course_key parent more k)
  key-alike k a = go (is_sane parent k) a
    where
      go : (t : Bool) → AgreeOnAll (course_if t (asks_it k (ask k)) (asks_none k)).asked
          → (chosen t (by_outcome parent k (ask k)) (Fails (record { at = parent; why = Insane k.loc })) ≡ chosen t (by_outcome parent k (more k)) (Fails (record { at = parent; why = Insane k.loc })))
          × (course_if t (asks_it k (ask k)) (asks_none k) ≡ course_if t (asks_it k (more k)) (asks_none k))
      go true b = let s = b k (inl refl) in (ap (by_outcome parent k) s, ap (asks_it k) s)
      go false b = (refl, refl)

  abbrev SameWalk : Term → Type 0
  SameWalk e = AgreeOnAll (course parent ask e).asked → (walk parent ask e ≡ walk parent more e) × (course parent ask e ≡ course parent more e)

  abbrev SameWalks : Row Var Name → Type 0
  SameWalks end = Unit {0}
  SameWalks (kid b e r) = SameWalk e × SameWalks r

  row-alike : (r : Row Var Name) → SameWalks r → AgreeOnAll (all_courses (courses parent ask r)).asked
      → (in_order (walks parent ask r) ≡ in_order (walks parent more r)) × (all_courses (courses parent ask r) ≡ all_courses (courses parent more r))
  row-alike end h a = (refl, refl)
  row-alike (kid b e r) h a =
      then-alike (walk parent ask e) (walk parent more e) (course parent ask e) (course parent more e)
      (λ x. and_then (in_order (walks parent ask r)) (λ es. Ready (x ∷ es))) (λ x. and_then (in_order (walks parent more r)) (λ es. Ready (x ∷ es)))
      (all_courses (courses parent ask r)) (all_courses (courses parent more r))
      (walk-course parent ask e, h.0)
      (λ t. let s = row-alike r h.1 t in (ap (λ w x. and_then w (λ es. Ready (x ∷ es))) s.0, s.1)) a

  node-alike : (op : Op) (r : Row Var Name) (f : Form) → SameWalks r → AgreeOnAll (course_node parent ask f (courses parent ask r)).asked
      → (walk_node parent ask op r f (walks parent ask r) ≡ walk_node parent more op r f (walks parent more r))
      × (course_node parent ask f (courses parent ask r) ≡ course_node parent more f (courses parent more r))
  node-alike op r (importing i) h a = key-alike (chained (place parent) i) a
  node-alike op r other h a = let s = row-alike r h a in (ap (λ w. and_then w (λ es. Ready (Node op (replace_row r es)))) s.0, s.1)
  node-alike op end choosing h a = (refl, refl)
  node-alike op (kid b e end) choosing h a =
      let s = row-alike (kid b e end) h a in (ap (λ w. and_then w (λ es. Ready (Node op (replace_row (kid b e end) es)))) s.0, s.1)
  node-alike op (kid b e (kid c x end)) choosing h a =
      else-alike (walk parent ask e) (walk parent more e) (walk parent ask x) (walk parent more x)
      (course parent ask e) (course parent more e) (course parent ask x) (course parent more x)
      (walk-course parent ask e, h.0) h.1.0 a
  node-alike op (kid b e (kid c x (kid d y r))) choosing h a =
      let s = row-alike (kid b e (kid c x (kid d y r))) h a in
      (ap (λ w. and_then w (λ es. Ready (Node op (replace_row (kid b e (kid c x (kid d y r))) es)))) s.0, s.1)

  mutual
    pub walk-alike : (e : Term) → SameWalk e
    walk-alike (Leaf v) = λ a. (refl, refl)
    walk-alike (Node op r) = node-alike op r (form_of op) (walks-alike r)

    walks-alike : (r : Row Var Name) → SameWalks r
    walks-alike end = tt
    walks-alike (kid b e r) = (walk-alike e, walks-alike r)
