-- Walks by outcomes that do not contradict each other: where both are decided they are the same, and where both are ready so are the ways back.
use Rattle.std.specs.Prelude.{◌≡◌, Bool, true, false, if◌then◌else◌, List, ◌∷◌, ℕ, Option, Some, None, refl}
use Rattle.std.proofs.Common.{ap, sym, ◌∙◌, subst}
use Rattle.std.proofs.Math.Path.{fun_ext}
use Rattle.dh_syntax.specs.declared.expressions.Op.{Op}
use Rattle.dh_syntax.specs.declared.locations.Key.{Key}
use Rattle.dh_imports.specs.declared.outcomes.Blame.{Blame}
use Rattle.dh_imports.specs.declared.outcomes.Why.TheVariants.{Insane}
use Rattle.dh_syntax.specs.Expressions.Tree.{Row, Leaf, Node, end, kid, Name, Var, Term}
use Rattle.dh_syntax.specs.Normalising.Trees.{replace_row}
use Rattle.dh_imports.specs.Outcomes.{Outcome, may_go_on}
use Rattle.dh_imports.specs.TextPaths.{to_side, way_on, way_into, text_path, text_paths}
use Rattle.dh_imports.specs.Walk.{Ask, Form, importing, choosing, other, form_of, Walked, Ready, Fails, Turns, Needs, and_then, or_else, in_order, by_outcome, is_sane, walk_key, walk_node, walk, walks}
use Rattle.dh_import_laws.specs.ImportLaws.{IsDecided}
use Rattle.dh_import_laws.specs.Paths.{OnePath}
use Rattle.dh_import_laws.proofs.Grow.{resolves-one}
use Rattle.dh_import_laws.proofs.WalkPairs.{StepsKeep, walk-related}

-- where both are decided they are the same
abbrev Agrees : (X : Type 0) → Walked X → Walked X → Type 0
Agrees X v w = IsDecided v → IsDecided w → v ≡ w

first_decided : {X Y : Type 0} (a : Walked X) (f : X → Walked Y) → IsDecided (and_then a f) → IsDecided a
first_decided (Ready x) f h = tt
first_decided (Fails b) f h = tt
first_decided (Turns j) f h = tt
first_decided (Needs y) f h = h

then_same : {X Y : Type 0} (a : Walked X) (f g : X → Walked Y) → ((x : X) → Agrees Y (f x) (g x)) → IsDecided (and_then a f) → IsDecided (and_then a g) → and_then a f ≡ and_then a g
then_same (Ready x) f g k d e = k x d e
then_same (Fails b) f g k d e = refl
then_same (Turns j) f g k d e = refl
then_same (Needs y) f g k d e = refl

and_then-agrees : {X Y : Type 0} (a b : Walked X) (f g : X → Walked Y) → Agrees X a b → ((x : X) → Agrees Y (f x) (g x)) → Agrees Y (and_then a f) (and_then b g)
and_then-agrees a b f g h k d e =
    let same : a ≡ b = h (first_decided a f d) (first_decided b g e) in
    subst (λ w. and_then a f ≡ and_then w g) same (then_same a f g k d (subst (λ w. IsDecided (and_then w g)) (sym same) e))

left_decided : (a c : Walked Term) → IsDecided (or_else a c) → IsDecided a
left_decided (Ready x) c h = tt
left_decided (Fails b) c h = tt
left_decided (Turns j) c h = tt
left_decided (Needs y) c h = h

either_same : (t : Bool) (b : Blame) (c d : Walked Term) → Agrees Term c d → Agrees Term (if t then c else Fails b) (if t then d else Fails b)
either_same true b c d k x y = k x y
either_same false b c d k x y = refl

else_same : (a c d : Walked Term) → Agrees Term c d → Agrees Term (or_else a c) (or_else a d)
else_same (Ready x) c d k = λ x y. refl
else_same (Fails b) c d k = either_same (may_go_on b.why) b c d k
else_same (Turns j) c d k = λ x y. refl
else_same (Needs y) c d k = λ x y. refl

or_else-agrees : (a b c d : Walked Term) → Agrees Term a b → Agrees Term c d → Agrees Term (or_else a c) (or_else b d)
or_else-agrees a b c d h k x y =
    let same : a ≡ b = h (left_decided a c x) (left_decided b d y) in
    subst (λ w. or_else a c ≡ or_else w d) same (else_same a c d k x (subst (λ w. IsDecided (or_else w d)) (sym same) y))

-- ---- ready walks

abbrev IsReady : {X : Type 0} → Walked X → Type 0
IsReady (Ready x) = Unit {0}
IsReady (Fails b) = ⊥
IsReady (Turns j) = ⊥
IsReady (Needs y) = ⊥

ready_decided : {X : Type 0} (w : Walked X) → IsReady w → IsDecided w
ready_decided (Ready x) h = tt
ready_decided (Fails b) h = tt
ready_decided (Turns j) h = tt
ready_decided (Needs y) h = h

first_ready : {X Y : Type 0} (a : Walked X) (f : X → Walked Y) → IsReady (and_then a f) → IsReady a
first_ready (Ready x) f h = tt
first_ready (Fails b) f h = h
first_ready (Turns j) f h = h
first_ready (Needs y) f h = h

rest_ready : (a : Walked Term) (c : Walked (List Term)) → IsReady (and_then a (λ e. and_then c (λ es. Ready (e ∷ es)))) → IsReady c
rest_ready (Ready e) c h = first_ready c (λ es. Ready (e ∷ es)) h
rest_ready (Fails b) c h = absurd h
rest_ready (Turns j) c h = absurd h
rest_ready (Needs y) c h = absurd h

taken : (t : Bool) (b : Blame) (w : Walked Term) → IsReady (if t then w else Fails b) → IsReady w
taken true b w h = h
taken false b w h = absurd h

-- a ready choice goes the same way by both
sides : (v c d : Walked Term) (left left' right right' : List ℕ) → (IsReady v → left ≡ left') → (IsReady c → IsReady d → right ≡ right')
    → IsReady (or_else v c) → IsReady (or_else v d) → to_side v left right ≡ to_side v left' right'
sides (Ready e) c d left left' right right' f g x y = ap (λ z. 0 ∷ z) (f tt)
sides (Fails b) c d left left' right right' f g x y = ap (λ z. 1 ∷ z) (g (taken (may_go_on b.why) b c x) (taken (may_go_on b.why) b d y))
sides (Turns j) c d left left' right right' f g x y = absurd x
sides (Needs k) c d left left' right right' f g x y = absurd x

-- the outcomes do not contradict each other
abbrev AreOne : Ask → Ask → Type 0
AreOne ask more = (k : Key) (o p : Outcome) → ask k ≡ Some o → more k ≡ Some p → o ≡ p

module _ (parent : Option Key) (ask more : Ask) (one : AreOne ask more) where
  outcome-agrees : (k : Key) (x y : Option Outcome) → ((o p : Outcome) → x ≡ Some o → y ≡ Some p → o ≡ p) → Agrees Term (by_outcome parent k x) (by_outcome parent k y)
  outcome-agrees k None y f d e = absurd d
  outcome-agrees k (Some o) None f d e = absurd e
  outcome-agrees k (Some o) (Some p) f d e = ap (λ z. by_outcome parent k (Some z)) (f o p refl refl)

  key-agrees : (k : Key) → Agrees Term (walk_key parent ask k) (walk_key parent more k)
  key-agrees k =
      either_same (is_sane parent k) (record { at = parent; why = Insane k.loc }) (by_outcome parent k (ask k)) (by_outcome parent k (more k)) (outcome-agrees k (ask k) (more k) (one k))

  steps : StepsKeep Agrees parent parent ask more
  steps = record {
    one_place = refl;
    key = key-agrees;
    choice = or_else-agrees;
    last = λ op r a b h. and_then-agrees a b (λ es. Ready (Node op (replace_row r es))) (λ es. Ready (Node op (replace_row r es))) h (λ es d e. refl);
    leaf = λ e x y. refl;
    none = λ x y. refl;
    next = λ a b c d h k. and_then-agrees a b (λ e. and_then c (λ es. Ready (e ∷ es))) (λ e. and_then d (λ es. Ready (e ∷ es))) h
        (λ e. and_then-agrees c d (λ es. Ready (e ∷ es)) (λ es. Ready (e ∷ es)) k (λ es x y. refl));
  }

  walk-agrees : (e : Term) → Agrees Term (walk parent ask e) (walk parent more e)
  walk-agrees e = walk-related Agrees parent parent ask more steps e

  -- ---- the ways back

  abbrev Same : Term → Type 0
  Same e = IsReady (walk parent ask e) → IsReady (walk parent more e) → (path : List ℕ) → text_path parent ask e path ≡ text_path parent more e path

  abbrev AllSame : Row Var Name → Type 0
  AllSame end = Unit {0}
  AllSame (kid b e r) = Same e × AllSame r

  ways-same : (r : Row Var Name) → AllSame r → IsReady (in_order (walks parent ask r)) → IsReady (in_order (walks parent more r)) → text_paths parent ask r ≡ text_paths parent more r
  ways-same end h x y = refl
  ways-same (kid b e r) h x y =
      ap (λ way. way ∷ text_paths parent ask r) (fun_ext (h.0 (first_ready (walk parent ask e) _ x) (first_ready (walk parent more e) _ y)))
      ∙ ap (λ ways. (λ path. text_path parent more e path) ∷ ways)
      (ways-same r h.1 (rest_ready (walk parent ask e) (in_order (walks parent ask r)) x) (rest_ready (walk parent more e) (in_order (walks parent more r)) y))

  choice-same : (d e : Term) → Same d → Same e → IsReady (or_else (walk parent ask d) (walk parent ask e)) → IsReady (or_else (walk parent more d) (walk parent more e)) → (path : List ℕ)
      → to_side (walk parent ask d) (text_path parent ask d path) (text_path parent ask e path) ≡ to_side (walk parent more d) (text_path parent more d path) (text_path parent more e path)
  choice-same d e f g x y path =
      let less = walk parent ask d in
      let same : less ≡ walk parent more d =
      walk-agrees d (left_decided less (walk parent ask e) (ready_decided _ x)) (left_decided (walk parent more d) (walk parent more e) (ready_decided _ y)) in
      subst (λ w. to_side less (text_path parent ask d path) (text_path parent ask e path) ≡ to_side w (text_path parent more d path) (text_path parent more e path)) same
      (sides less (walk parent ask e) (walk parent more e) (text_path parent ask d path) (text_path parent more d path) (text_path parent ask e path) (text_path parent more e path)
      (λ i. f i (subst IsReady same i) path) (λ i j. g i j path) x (subst (λ w. IsReady (or_else w (walk parent more e))) (sym same) y))

  node-same : (op : Op) (f : Form) (r : Row Var Name) → AllSame r → IsReady (walk_node parent ask op r f (walks parent ask r)) → IsReady (walk_node parent more op r f (walks parent more r)) → (path : List ℕ)
      → way_into f (walks parent ask r) (text_paths parent ask r) path ≡ way_into f (walks parent more r) (text_paths parent more r) path
  node-same op (importing i) r h x y path = refl
  node-same op other r h x y path = ap (λ ways. way_on ways path) (ways-same r h (first_ready _ _ x) (first_ready _ _ y))
  node-same op choosing end h x y path = refl
  node-same op choosing (kid a d end) h x y path = ap (λ ways. way_on ways path) (ways-same (kid a d end) h (first_ready _ _ x) (first_ready _ _ y))
  node-same op choosing (kid a d (kid b e end)) h x y path = choice-same d e h.0 h.1.0 x y path
  node-same op choosing (kid a d (kid b e (kid c f r))) h x y path =
      ap (λ ways. way_on ways path) (ways-same (kid a d (kid b e (kid c f r))) h (first_ready _ _ x) (first_ready _ _ y))

  mutual
    path-same : (e : Term) → IsReady (walk parent ask e) → IsReady (walk parent more e) → (path : List ℕ) → text_path parent ask e path ≡ text_path parent more e path
    path-same (Leaf v) x y path = refl
    path-same (Node op r) x y path = node-same op (form_of op) r (all-same r) x y path

    all-same : (r : Row Var Name) → AllSame r
    all-same end = tt
    all-same (kid b e r) = (λ x y path. path-same e x y path, all-same r)

value_of : Term → Walked Term → Term
value_of d (Ready v) = v
value_of d (Fails b) = d
value_of d (Turns j) = d
value_of d (Needs y) = d

pub one_path : OnePath
unfolding value_of
one_path r ask more parent e v w f g h k = (
  ap (value_of v) (sym h ∙ walk-agrees parent ask more one e (ready_decided _ x) (ready_decided _ y) ∙ k),
  λ path. path-same parent ask more one e x y path,
)
  where
    one : AreOne ask more
    one j o p a b = resolves-one r j o p (f j o a) (g j p b)

    x : IsReady (walk parent ask e)
    x = subst IsReady (sym h) tt

    y : IsReady (walk parent more e)
    y = subst IsReady (sym k) tt
