-- What more outcomes change in a walk.
use Rattle.std.specs.Prelude.{◌≡◌, Bool, true, false, if◌then◌else◌, List, [], ◌∷◌, Option, Some, None, refl}
use Rattle.std.proofs.Common.{ap, sym, subst}
use Rattle.dh_syntax.specs.declared.expressions.Op.{Op}
use Rattle.dh_syntax.specs.declared.locations.Key.{Key}
use Rattle.dh_syntax.specs.Expressions.Tree.{Row, Leaf, Node, end, kid, Name, Var, Term}
use Rattle.dh_syntax.specs.Normalising.Trees.{replace_row}
use Rattle.dh_syntax.specs.Imports.Keys.{chained}
use Rattle.dh_imports.specs.declared.outcomes.Blame.{Blame}
use Rattle.dh_imports.specs.declared.outcomes.Why.TheVariants.{Cors}
use Rattle.dh_imports.specs.Outcomes.{Outcome, Good, Bad, Loop, may_go_on}
use Rattle.dh_imports.specs.Walk.{Ask, place, Form, importing, choosing, other, form_of, Walked, Ready, Fails, Turns, Needs, and_then, or_else, in_order, allowed, by_outcome, is_sane, walk_key, walk_node, walk, walks}

-- the second knows each outcome that the first knows
abbrev pub Knows : Ask → Ask → Type 0
Knows less more = (k : Key) (o : Outcome) → less k ≡ Some o → more k ≡ Some o

-- what becomes of a walk that needed y, by what is known of y now
abbrev pub OnNeed : {X : Type 0} → Key → Walked X → Option Outcome → Type 0
OnNeed y w None = w ≡ Needs y
OnNeed y w (Some (Loop j)) = w ≡ Turns j
OnNeed y w (Some _) = Unit {0}

-- the second walk is the first, or goes on from what that needed
abbrev pub Grown : {X : Type 0} → Ask → Walked X → Walked X → Type 0
Grown more (Ready x) w = w ≡ Ready x
Grown more (Fails b) w = w ≡ Fails b
Grown more (Turns j) w = w ≡ Turns j
Grown more (Needs y) w = OnNeed y w (more y)

on_need : {X Y : Type 0} (y : Key) (w : Walked X) (v : Walked Y) (o : Option Outcome)
    → (w ≡ Needs y → v ≡ Needs y) → ((j : Key) → w ≡ Turns j → v ≡ Turns j) → OnNeed y w o → OnNeed y v o
on_need y w v None f g h = f h
on_need y w v (Some (Loop j)) f g h = g j h
on_need y w v (Some (Good e o)) f g h = tt
on_need y w v (Some (Bad b)) f g h = tt

and_then-grown : {X Y : Type 0} (more : Ask) (a b : Walked X) (f g : X → Walked Y)
    → Grown more a b → ((x : X) → Grown more (f x) (g x)) → Grown more (and_then a f) (and_then b g)
and_then-grown more (Ready x) b f g h k = subst (λ w. Grown more (f x) (and_then w g)) (sym h) (k x)
and_then-grown more (Fails c) b f g h k = ap (λ w. and_then w g) h
and_then-grown more (Turns j) b f g h k = ap (λ w. and_then w g) h
and_then-grown more (Needs y) b f g h k = on_need y b (and_then b g) (more y) (λ e. ap (λ w. and_then w g) e) (λ j e. ap (λ w. and_then w g) e) h

either-grown : (more : Ask) (t : Bool) (c : Blame) (a b : Walked Term) → Grown more a b
    → Grown more (if t then a else Fails c) (if t then b else Fails c)
either-grown more true c a b h = h
either-grown more false c a b h = refl

or_else-grown : (more : Ask) (a b c d : Walked Term) → Grown more a b → Grown more c d → Grown more (or_else a c) (or_else b d)
or_else-grown more (Ready x) b c d h k = ap (λ w. or_else w d) h
or_else-grown more (Fails e) b c d h k =
    subst (λ w. Grown more (if may_go_on e.why then c else Fails e) (or_else w d)) (sym h) (either-grown more (may_go_on e.why) e c d k)
or_else-grown more (Turns j) b c d h k = ap (λ w. or_else w d) h
or_else-grown more (Needs y) b c d h k = on_need y b (or_else b d) (more y) (λ e. ap (λ w. or_else w d) e) (λ j e. ap (λ w. or_else w d) e) h

-- the walks of parts
abbrev AllGrown : Ask → List (Walked Term) → List (Walked Term) → Type 0
AllGrown more [] ws = ws ≡ []
AllGrown more (v ∷ vs) [] = ⊥
AllGrown more (v ∷ vs) (w ∷ ws) = Grown more v w × AllGrown more vs ws

in_order-grown : (more : Ask) (vs ws : List (Walked Term)) → AllGrown more vs ws → Grown more (in_order vs) (in_order ws)
in_order-grown more [] ws h = subst (λ x. in_order x ≡ Ready []) (sym h) refl
in_order-grown more (v ∷ vs) [] h = absurd h
in_order-grown more (v ∷ vs) (w ∷ ws) h =
    and_then-grown more v w _ _ h.0 (λ e. and_then-grown more (in_order vs) (in_order ws) _ _ (in_order-grown more vs ws h.1) (λ es. refl))

by_outcome-grown : (parent : Option Key) (k : Key) (less more : Ask) → Knows less more → (o : Option Outcome) → less k ≡ o
    → Grown more (by_outcome parent k o) (by_outcome parent k (more k))
by_outcome-grown parent k less more h None e = go (more k)
  where
    go : (o : Option Outcome) → OnNeed k (by_outcome parent k o) o
    go None = refl
    go (Some (Loop j)) = refl
    go (Some (Good v o)) = tt
    go (Some (Bad b)) = tt
by_outcome-grown parent k less more h (Some (Good v o)) e = go (allowed parent k o) (ap (by_outcome parent k) (h k _ e))
  where
    go : (t : Bool) → by_outcome parent k (more k) ≡ (if t then Ready v else Fails (record { at = parent; why = Cors k.loc }))
        → Grown more (if t then Ready v else Fails (record { at = parent; why = Cors k.loc })) (by_outcome parent k (more k))
    go true p = p
    go false p = p
by_outcome-grown parent k less more h (Some (Bad b)) e = ap (by_outcome parent k) (h k _ e)
by_outcome-grown parent k less more h (Some (Loop j)) e = ap (by_outcome parent k) (h k _ e)

walk_key-grown : (parent : Option Key) (less more : Ask) → Knows less more → (k : Key) → Grown more (walk_key parent less k) (walk_key parent more k)
walk_key-grown parent less more h k = either-grown more (is_sane parent k) _ _ _ (by_outcome-grown parent k less more h (less k) refl)

rebuilt-grown : (more : Ask) (op : Op) (r : Row Var Name) (vs ws : List (Walked Term)) → AllGrown more vs ws
    → Grown more (and_then (in_order vs) (λ es. Ready (Node op (replace_row r es)))) (and_then (in_order ws) (λ es. Ready (Node op (replace_row r es))))
rebuilt-grown more op r vs ws h = and_then-grown more (in_order vs) (in_order ws) _ _ (in_order-grown more vs ws h) (λ es. refl)

walk_node-grown : (parent : Option Key) (less more : Ask) → Knows less more → (op : Op) (r : Row Var Name) (f : Form) (vs ws : List (Walked Term))
    → AllGrown more vs ws → Grown more (walk_node parent less op r f vs) (walk_node parent more op r f ws)
walk_node-grown parent less more h op r (importing i) vs ws g = walk_key-grown parent less more h (chained (place parent) i)
walk_node-grown parent less more h op r other vs ws g = rebuilt-grown more op r vs ws g
walk_node-grown parent less more h op r choosing [] ws g = subst (λ x. Grown more (walk_node parent less op r choosing []) (walk_node parent more op r choosing x)) (sym g) refl
walk_node-grown parent less more h op r choosing (v ∷ vs) [] g = absurd g
walk_node-grown parent less more h op r choosing (v ∷ []) (w ∷ []) g = rebuilt-grown more op r (v ∷ []) (w ∷ []) g
walk_node-grown parent less more h op r choosing (v ∷ []) (w ∷ x ∷ ws) g = absurd (cons_nil g.1)
  where
    cons_nil : {A : Type 0} {a : A} {as' : List A} → a ∷ as' ≡ [] → ⊥
    cons_nil p = cc
walk_node-grown parent less more h op r choosing (v ∷ u ∷ vs) (w ∷ []) g = absurd g.1
walk_node-grown parent less more h op r choosing (v ∷ u ∷ []) (w ∷ x ∷ []) g = or_else-grown more v w u x g.0 g.1.0
walk_node-grown parent less more h op r choosing (v ∷ u ∷ []) (w ∷ x ∷ y ∷ ws) g = absurd (cons_nil g.1.1)
  where
    cons_nil : {A : Type 0} {a : A} {as' : List A} → a ∷ as' ≡ [] → ⊥
    cons_nil p = cc
walk_node-grown parent less more h op r choosing (v ∷ u ∷ t ∷ vs) (w ∷ x ∷ []) g = absurd g.1.1
walk_node-grown parent less more h op r choosing (v ∷ u ∷ t ∷ vs) (w ∷ x ∷ y ∷ ws) g = rebuilt-grown more op r (v ∷ u ∷ t ∷ vs) (w ∷ x ∷ y ∷ ws) g

mutual
  pub walk-grown : (parent : Option Key) (less more : Ask) → Knows less more → (e : Term) → Grown more (walk parent less e) (walk parent more e)
  walk-grown parent less more h (Leaf v) = refl
  walk-grown parent less more h (Node op r) = walk_node-grown parent less more h op r (form_of op) _ _ (walks-grown parent less more h r)

  walks-grown : (parent : Option Key) (less more : Ask) → Knows less more → (r : Row Var Name) → AllGrown more (walks parent less r) (walks parent more r)
  walks-grown parent less more h end = refl
  walks-grown parent less more h (kid b e r) = (walk-grown parent less more h e, walks-grown parent less more h r)

-- ---- what a walk says of the outcomes

-- a walk that needs a key does not know it; one that turns knows a loop
abbrev pub Told : {X : Type 0} → Ask → Walked X → Type 0
Told ask (Needs y) = ask y ≡ None
Told ask (Turns j) = (y : Key) × (ask y ≡ Some (Loop j))
Told ask _ = Unit {0}

and_then-told : {X Y : Type 0} (ask : Ask) (a : Walked X) (f : X → Walked Y) → Told ask a → ((x : X) → Told ask (f x)) → Told ask (and_then a f)
and_then-told ask (Ready x) f h k = k x
and_then-told ask (Fails b) f h k = tt
and_then-told ask (Turns j) f h k = h
and_then-told ask (Needs y) f h k = h

either-told : (ask : Ask) (t : Bool) (c : Blame) (a : Walked Term) → Told ask a → Told ask (if t then a else Fails c)
either-told ask true c a h = h
either-told ask false c a h = tt

or_else-told : (ask : Ask) (a c : Walked Term) → Told ask a → Told ask c → Told ask (or_else a c)
or_else-told ask (Ready x) c h k = tt
or_else-told ask (Fails e) c h k = either-told ask (may_go_on e.why) e c k
or_else-told ask (Turns j) c h k = h
or_else-told ask (Needs y) c h k = h

abbrev AllTold : Ask → List (Walked Term) → Type 0
AllTold ask [] = Unit {0}
AllTold ask (w ∷ ws) = Told ask w × AllTold ask ws

in_order-told : (ask : Ask) (ws : List (Walked Term)) → AllTold ask ws → Told ask (in_order ws)
in_order-told ask [] h = tt
in_order-told ask (w ∷ ws) h = and_then-told ask w _ h.0 (λ e. and_then-told ask (in_order ws) _ (in_order-told ask ws h.1) (λ es. tt))

by_outcome-told : (parent : Option Key) (k : Key) (ask : Ask) (o : Option Outcome) → ask k ≡ o → Told ask (by_outcome parent k o)
by_outcome-told parent k ask None e = e
by_outcome-told parent k ask (Some (Good v o)) e = either-told ask (allowed parent k o) _ (Ready v) tt
by_outcome-told parent k ask (Some (Bad b)) e = tt
by_outcome-told parent k ask (Some (Loop j)) e = (k, e)

walk_node-told : (parent : Option Key) (ask : Ask) (op : Op) (r : Row Var Name) (f : Form) (ws : List (Walked Term)) → AllTold ask ws → Told ask (walk_node parent ask op r f ws)
walk_node-told parent ask op r (importing i) ws h =
    let k = chained (place parent) i in either-told ask (is_sane parent k) _ _ (by_outcome-told parent k ask (ask k) refl)
walk_node-told parent ask op r other ws h = and_then-told ask (in_order ws) _ (in_order-told ask ws h) (λ es. tt)
walk_node-told parent ask op r choosing [] h = tt
walk_node-told parent ask op r choosing (w ∷ []) h = and_then-told ask (in_order (w ∷ [])) _ (in_order-told ask (w ∷ []) h) (λ es. tt)
walk_node-told parent ask op r choosing (w ∷ x ∷ []) h = or_else-told ask w x h.0 h.1.0
walk_node-told parent ask op r choosing (w ∷ x ∷ y ∷ ws) h = and_then-told ask (in_order (w ∷ x ∷ y ∷ ws)) _ (in_order-told ask (w ∷ x ∷ y ∷ ws) h) (λ es. tt)

mutual
  pub walk-told : (parent : Option Key) (ask : Ask) (e : Term) → Told ask (walk parent ask e)
  walk-told parent ask (Leaf v) = tt
  walk-told parent ask (Node op r) = walk_node-told parent ask op r (form_of op) _ (walks-told parent ask r)

  walks-told : (parent : Option Key) (ask : Ask) (r : Row Var Name) → AllTold ask (walks parent ask r)
  walks-told parent ask end = tt
  walks-told parent ask (kid b e r) = (walk-told parent ask e, walks-told parent ask r)
