-- Walks of a text under keys of one location differ in whom they blame alone.
use Rattle.std.specs.Prelude.{◌≡◌, Bool, true, false, if◌then◌else◌, List, ◌∷◌, ℕ, Option, Some, None, refl}
use Rattle.std.proofs.Common.{ap, sym, ◌∙◌, subst}
use Rattle.std.proofs.Math.Path.{fun_ext}
use Rattle.dh_syntax.specs.declared.locations.Key.{Key}
use Rattle.dh_imports.specs.declared.outcomes.Blame.{Blame}
use Rattle.dh_imports.specs.declared.outcomes.Origin.{Origin}
use Rattle.dh_imports.specs.declared.outcomes.Origin.TheVariants.{Fetched, Cached, Made}
use Rattle.dh_imports.specs.declared.outcomes.Why.TheVariants.{Cors, Insane}
use Rattle.dh_syntax.specs.Expressions.Tree.{Row, Leaf, Node, end, kid, Name, Var, Term}
use Rattle.dh_syntax.specs.Imports.Locations.{sane, cors}
use Rattle.dh_imports.specs.Outcomes.{Outcome, Good, Bad, Loop, may_go_on}
use Rattle.dh_imports.specs.TextPaths.{to_side, way_on, way_into, text_path, text_paths}
use Rattle.dh_imports.specs.Walk.{Ask, place, Form, importing, choosing, other, form_of, Walked, Ready, Fails, Turns, Needs, and_then, or_else, allowed, by_outcome, is_sane, walk_key, walk, walks}
use Rattle.dh_import_laws.specs.Paths.{ValuesByLocation, PathsByLocation}
use Rattle.dh_import_laws.proofs.WalkPairs.{StepsKeep, walk-related}

-- the second walk is the first, but for whom it blames
abbrev Alike : (X : Type 0) → Walked X → Walked X → Type 0
Alike X (Ready x) w = w ≡ Ready x
Alike X (Fails b) w = (c : Blame) × (w ≡ Fails c) × (b.why ≡ c.why)
Alike X (Turns j) w = w ≡ Turns j
Alike X (Needs y) w = w ≡ Needs y

and_then-alike : (X Y : Type 0) (a b : Walked X) (f g : X → Walked Y) → Alike X a b → ((x : X) → Alike Y (f x) (g x)) → Alike Y (and_then a f) (and_then b g)
and_then-alike X Y (Ready x) b f g h k = subst (λ w. Alike Y (f x) (and_then w g)) (sym h) (k x)
and_then-alike X Y (Fails c) b f g h k = (h.0, ap (λ w. and_then w g) h.1, h.2)
and_then-alike X Y (Turns j) b f g h k = ap (λ w. and_then w g) h
and_then-alike X Y (Needs y) b f g h k = ap (λ w. and_then w g) h

either-alike : (t : Bool) (a b c d : Walked Term) → Alike Term a b → Alike Term c d → Alike Term (if t then a else c) (if t then b else d)
either-alike true a b c d h k = h
either-alike false a b c d h k = k

or_else-alike : (a b c d : Walked Term) → Alike Term a b → Alike Term c d → Alike Term (or_else a c) (or_else b d)
or_else-alike (Ready x) b c d h k = ap (λ w. or_else w d) h
or_else-alike (Fails e) b c d (i, p, q) k =
    subst (λ w. Alike Term (or_else (Fails e) c) (or_else w d)) (sym p)
    (subst (λ y. Alike Term (if may_go_on e.why then c else Fails e) (if may_go_on y then d else Fails i)) q
    (either-alike (may_go_on e.why) c d (Fails e) (Fails i) k (i, refl, q)))
or_else-alike (Turns j) b c d h k = ap (λ w. or_else w d) h
or_else-alike (Needs y) b c d h k = ap (λ w. or_else w d) h

-- the left side of a choice is taken under both keys or under none
sides : (v w : Walked Term) (left right : List ℕ) → Alike Term v w → to_side v left right ≡ to_side w left right
sides (Ready x) w left right h = ap (λ z. to_side z left right) (sym h)
sides (Fails b) w left right (c, p, q) = ap (λ z. to_side z left right) (sym p)
sides (Turns j) w left right h = ap (λ z. to_side z left right) (sym h)
sides (Needs y) w left right h = ap (λ z. to_side z left right) (sym h)

module _ (p q : Option Key) (ask : Ask) (one : place p ≡ place q) where
  allowed-same : (k : Key) (o : Origin) → allowed p k o ≡ allowed q k o
  allowed-same k (Fetched allow) = ap (λ l. cors l k.loc allow) one
  allowed-same k Cached = refl
  allowed-same k Made = refl

  outcome-alike : (k : Key) (o : Option Outcome) → Alike Term (by_outcome p k o) (by_outcome q k o)
  outcome-alike k None = refl
  outcome-alike k (Some (Good v o)) =
      let here = Fails (record { at = p; why = Cors k.loc }) in
      let there = Fails (record { at = q; why = Cors k.loc }) in
      subst (λ t. Alike Term (if allowed p k o then Ready v else here) (if t then Ready v else there)) (allowed-same k o)
      (either-alike (allowed p k o) (Ready v) (Ready v) here there refl (record { at = q; why = Cors k.loc }, refl, refl))
  outcome-alike k (Some (Bad b)) = (b, refl, refl)
  outcome-alike k (Some (Loop j)) = refl

  key-alike : (k : Key) → Alike Term (walk_key p ask k) (walk_key q ask k)
  key-alike k =
      let here = Fails (record { at = p; why = Insane k.loc }) in
      let there = Fails (record { at = q; why = Insane k.loc }) in
      subst (λ t. Alike Term (if is_sane p k then by_outcome p k (ask k) else here) (if t then by_outcome q k (ask k) else there)) (ap (λ l. sane l k.loc k.mode) one)
      (either-alike (is_sane p k) (by_outcome p k (ask k)) (by_outcome q k (ask k)) here there (outcome-alike k (ask k)) (record { at = q; why = Insane k.loc }, refl, refl))

  steps : StepsKeep Alike p q ask ask
  steps = record {
    one_place = one;
    key = key-alike;
    choice = or_else-alike;
    last = λ op r a b h. and_then-alike (List Term) Term a b _ _ h (λ es. refl);
    leaf = λ e. refl;
    none = refl;
    next = λ a b c d h k. and_then-alike Term (List Term) a b _ _ h (λ e. and_then-alike (List Term) (List Term) c d _ _ k (λ es. refl));
  }

  walk-alike : (e : Term) → Alike Term (walk p ask e) (walk q ask e)
  walk-alike e = walk-related Alike p q ask ask steps e

  abbrev Same : Term → Type 0
  Same e = (path : List ℕ) → text_path p ask e path ≡ text_path q ask e path

  abbrev AllSame : Row Var Name → Type 0
  AllSame end = Unit {0}
  AllSame (kid b e r) = Same e × AllSame r

  ways-same : (r : Row Var Name) → AllSame r → text_paths p ask r ≡ text_paths q ask r
  ways-same end h = refl
  ways-same (kid b e r) h = ap (λ way. way ∷ text_paths p ask r) (fun_ext h.0) ∙ ap (λ ways. (λ path. text_path q ask e path) ∷ ways) (ways-same r h.1)

  choice-same : (d e : Term) → Same d → Same e → (path : List ℕ)
      → to_side (walk p ask d) (text_path p ask d path) (text_path p ask e path) ≡ to_side (walk q ask d) (text_path q ask d path) (text_path q ask e path)
  choice-same d e f g path =
      ap (λ z. to_side (walk p ask d) z (text_path p ask e path)) (f path)
      ∙ ap (λ z. to_side (walk p ask d) (text_path q ask d path) z) (g path)
      ∙ sides (walk p ask d) (walk q ask d) (text_path q ask d path) (text_path q ask e path) (walk-alike d)

  node-same : (f : Form) (r : Row Var Name) → AllSame r → (path : List ℕ) → way_into f (walks p ask r) (text_paths p ask r) path ≡ way_into f (walks q ask r) (text_paths q ask r) path
  node-same (importing i) r h path = refl
  node-same other r h path = ap (λ ways. way_on ways path) (ways-same r h)
  node-same choosing end h path = refl
  node-same choosing (kid a d end) h path = ap (λ ways. way_on ways path) (ways-same (kid a d end) h)
  node-same choosing (kid a d (kid b e end)) h path = choice-same d e h.0 h.1.0 path
  node-same choosing (kid a d (kid b e (kid c f r))) h path = ap (λ ways. way_on ways path) (ways-same (kid a d (kid b e (kid c f r))) h)

  mutual
    path-same : (e : Term) (path : List ℕ) → text_path p ask e path ≡ text_path q ask e path
    path-same (Leaf v) path = refl
    path-same (Node op r) path = node-same (form_of op) r (all-same r) path

    all-same : (r : Row Var Name) → AllSame r
    all-same end = tt
    all-same (kid b e r) = (λ path. path-same e path, all-same r)

  value-same : (e v : Term) → walk p ask e ≡ Ready v → walk q ask e ≡ Ready v
  value-same e v h = subst (λ w. Alike Term w (walk q ask e)) h (walk-alike e)

pub values_by_location : ValuesByLocation
values_by_location j k ask e v one h = value-same (Some j) (Some k) ask (ap (λ l. Some l) one) e v h

pub paths_by_location : PathsByLocation
paths_by_location j k ask e path one = path-same (Some j) (Some k) ask (ap (λ l. Some l) one) e path
