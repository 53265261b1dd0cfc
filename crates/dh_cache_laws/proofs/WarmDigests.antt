-- The digests that are written behind the imports of a root are the same with honest entries and without.
use Rattle.std.specs.Prelude.{◌≡◌, ◌⊎◌, Bool, true, false, ◌&&◌, if◌then◌else◌, is_none, List, [], ◌∷◌, ◌++◌, Option, Some, None, IsTrue, refl}
use Rattle.std.proofs.Common.{ap, sym, ◌∙◌, subst, inl, inr}
use Rattle.dh_syntax.specs.declared.expressions.Op.{Op}
use Rattle.dh_syntax.specs.declared.expressions.Op.TheVariants as ops
use Rattle.dh_syntax.specs.declared.locations.Import.{Import}
use Rattle.dh_syntax.specs.declared.locations.Key.{Key}
use Rattle.dh_syntax.specs.declared.operators.BinOp.{BinOp}
use Rattle.dh_syntax.specs.declared.operators.BinOp.TheVariants as bins
use Rattle.dh_imports.specs.declared.outcomes.Blame.{Blame}
use Rattle.dh_syntax.specs.Expressions.Arity.{plain, fits, loc_fits, IsWellFormed, AreWellFormed}
use Rattle.dh_syntax.specs.Expressions.Tree.{Row, Leaf, Node, end, kid, Name, Var, Term}
use Rattle.dh_imports.specs.Freezing.{takes_content, digest_behind, goes_on, own_digest, digests_behind, digests_behind_row}
use Rattle.dh_imports.specs.Keeps.{Visited, by_root}
use Rattle.dh_syntax.specs.Imports.Keys.{chained}
use Rattle.dh_imports.specs.Outcomes.{Outcome, may_go_on}
use Rattle.dh_imports.specs.Records.{Record}
use Rattle.dh_imports.specs.Resolver.{resolve, ResolvesRoot}
use Rattle.dh_imports.specs.Walk.{Ask, Form, importing, choosing, other, form_of, Walked, Ready, Fails, Turns, Needs, and_then, or_else, in_order, walk_node, walk, else_by, all_courses, course_node, course, courses}
use Rattle.dh_syntax.specs.Names.Alpha.{IsSame}
use Rattle.dh_import_laws.specs.ImportLaws.{IsDecided}
use Rattle.dh_import_laws.proofs.Grow.{resolves-one}
use Rattle.dh_import_laws.proofs.Walks.{Knows}
use Rattle.dh_cache_laws.specs.WarmCache.{IsLimit, IsSameOutcome, AreSameOutcomes, WarmDigests}
use Rattle.dh_cache_laws.proofs.CalmAsks.{calm_ask, calm_ask-known}
use Rattle.dh_cache_laws.proofs.WarmKeys.{itself, digests-same}
use Rattle.dh_cache_laws.proofs.WarmRoots.{visited-as, roots-one}
use Rattle.dh_cache_laws.proofs.WarmWalks as walks
use Rattle.dh_cache_laws.proofs.WarmWalks.{EndsAs, All, hard, limit-hard, first_all, rest_all, left_choice, right_choice, goes_on-ending, stops}

-- ---- shapes of nodes

abbrev Two : Row Var Name → Type 0
Two r = (d : Term) × (e : Term) × (r ≡ kid None d (kid None e end))

abbrev ShapeOf : Form → Row Var Name → Type 0
ShapeOf (importing i) r = r ≡ end
ShapeOf choosing r = Two r
ShapeOf other r = Unit {0}

never : {A : Type 0} → false ≡ true → A
never p = cc

two-plain : (r : Row Var Name) → IsTrue (plain 2 r) → Two r
two-plain (kid None d (kid None e end)) h = (d, e, refl)
two-plain end h = never h
two-plain (kid (Some x) d r) h = never h
two-plain (kid None d end) h = never h
two-plain (kid None d (kid (Some x) e r)) h = never h
two-plain (kid None d (kid None e (kid (Some x) c r))) h = never h
two-plain (kid None d (kid None e (kid None c r))) h = never h

none-plain : (b : Bool) (r : Row Var Name) → IsTrue (b && plain 0 r) → r ≡ end
none-plain true end h = refl
none-plain true (kid (Some x) d r) h = never h
none-plain true (kid None d r) h = never h
none-plain false r h = never h

bin-shape : (o : BinOp) (r : Row Var Name) → IsTrue (plain 2 r) → ShapeOf (form_of (ops.Bin o)) r
bin-shape bins.Fallback r h = two-plain r h
bin-shape bins.Or r h = tt
bin-shape bins.And r h = tt
bin-shape bins.Equal r h = tt
bin-shape bins.NotEqual r h = tt
bin-shape bins.Plus r h = tt
bin-shape bins.Times r h = tt
bin-shape bins.TextAppend r h = tt
bin-shape bins.ListAppend r h = tt
bin-shape bins.Combine r h = tt
bin-shape bins.Prefer r h = tt
bin-shape bins.CombineTypes r h = tt
bin-shape bins.Equivalent r h = tt
bin-shape bins.Complete r h = tt

shape : (op : Op) (r : Row Var Name) → IsTrue (fits op r) → ShapeOf (form_of op) r
shape (ops.Import i) r h = none-plain (loc_fits i.loc) r h
shape (ops.Bin o) r h = bin-shape o r h
shape (ops.Builtin b) r h = tt
shape (ops.Bool b) r h = tt
shape (ops.Nat n) r h = tt
shape (ops.Int z) r h = tt
shape (ops.Text ps) r h = tt
shape ops.Lam r h = tt
shape ops.Pi r h = tt
shape (ops.Let b) r h = tt
shape ops.App r h = tt
shape ops.If r h = tt
shape ops.EmptyList r h = tt
shape ops.List r h = tt
shape ops.Some r h = tt
shape (ops.Merge b) r h = tt
shape (ops.RecordType xs) r h = tt
shape (ops.Record xs) r h = tt
shape (ops.Field x) r h = tt
shape (ops.Project xs) r h = tt
shape ops.ProjectType r h = tt
shape (ops.Union alts) r h = tt
shape ops.Assert r h = tt
shape ops.Annot r h = tt
shape (ops.ToMap b) r h = tt
shape (ops.With path) r h = tt

-- ---- walks that come to an end after which a run may go on

abbrev IsFine : {X : Type 0} → Walked X → Type 0
IsFine (Ready x) = Unit {0}
IsFine (Fails b) = may_go_on b.why ≡ true
IsFine (Turns j) = ⊥
IsFine (Needs y) = ⊥

abbrev Both : Walked Term → Walked Term → Type 0
Both v w =
    ((x : Term) × (y : Term) × (v ≡ Ready x) × (w ≡ Ready y) × IsSame x y)
    ⊎ ((b : Blame) × (v ≡ Fails b) × (w ≡ Fails b) × (may_go_on b.why ≡ true))

both : (v w : Walked Term) → EndsAs IsSame v w → IsFine v → IsFine w → Both v w
both (Ready x) (Ready y) h f d = inl (x, y, refl, refl, h)
both (Ready x) (Fails b) h f d = never (sym (limit-hard b.why h) ∙ d)
both (Ready x) (Turns j) h f d = absurd h
both (Ready x) (Needs y) h f d = absurd d
both (Fails b) (Ready y) h f d = absurd (h f)
both (Fails b) (Fails c) h f d = by (h f)
  where
    by : (c ≡ b) ⊎ IsLimit c → Both (Fails b) (Fails c)
    by (inl e) = inr (b, refl, ap Fails e, f)
    by (inr l) = never (sym (limit-hard c.why l) ∙ d)
both (Fails b) (Turns j) h f d = absurd (h f)
both (Fails b) (Needs y) h f d = absurd d
both (Turns j) w h f d = absurd f
both (Needs y) w h f d = absurd f

first_fine : {X Y : Type 0} (v : Walked X) (f : X → Walked Y) → IsFine (and_then v f) → IsFine v
first_fine (Ready x) f h = tt
first_fine (Fails b) f h = h
first_fine (Turns j) f h = h
first_fine (Needs y) f h = h

left_fine : (v w : Walked Term) → IsFine (or_else v w) → IsFine v
left_fine (Ready x) w h = tt
left_fine (Fails b) w h = go (may_go_on b.why) refl h
  where
    go : (t : Bool) → may_go_on b.why ≡ t → IsFine (if t then w else Fails b) → may_go_on b.why ≡ true
    go true p h = p
    go false p h = h
left_fine (Turns j) w h = h
left_fine (Needs y) w h = h

right_fine : (v w : Walked Term) (b : Blame) → v ≡ Fails b → may_go_on b.why ≡ true → IsFine (or_else v w) → IsFine w
right_fine v w b p t h = subst (λ z. IsFine (if z then w else Fails b)) t (subst (λ z. IsFine (or_else z w)) p h)

rest_fine : (v : Walked Term) (ws : Walked (List Term)) (x : Term) → v ≡ Ready x → IsFine (and_then v (λ e. and_then ws (λ es. Ready (e ∷ es)))) → IsFine ws
rest_fine v ws x p h = first_fine ws _ (subst (λ z. IsFine (and_then z (λ e. and_then ws (λ es. Ready (e ∷ es))))) p h)

-- ---- the digests

joined : {A : Type 0} (xs xs' ys ys' : List A) → xs ≡ xs' → ys ≡ ys' → xs ++ ys ≡ xs' ++ ys'
joined xs xs' ys ys' p q = cc

module _ (less more : Ask) where
  none_own : (f : Form) → own_digest less false f ≡ own_digest more false f
  none_own (importing i) = refl
  none_own choosing = refl
  none_own other = refl

  mutual
    -- where the walk does not come, none
    none_here : (e : Term) → digests_behind less false e ≡ digests_behind more false e
    none_here (Leaf v) = refl
    none_here (Node op r) = joined _ _ _ _ (none_own (form_of op)) (none_row (form_of op) r)

    none_row : (f : Form) (r : Row Var Name) → digests_behind_row less f false r ≡ digests_behind_row more f false r
    none_row f end = refl
    none_row f (kid b e r) = joined _ _ _ _ (none_here e) (none_row f r)

module _ (P : Key → Type 0) (less more ask : Ask) (alike : (k : Key) → P k → AreSameOutcomes (less k) (more k)) (known : Knows (calm_ask more) ask) where
  digest-same : (i : Import) (v w : Walked Term) → Both v w → digest_behind i v ≡ digest_behind i w
  digest-same i v w (inl (x, y, p, q, s)) =
      ap (digest_behind i) p ∙ ap (λ d. if is_none i.digest && takes_content i.mode then Some d else None) (digests-same x y s) ∙ sym (ap (digest_behind i) q)
  digest-same i v w (inr (b, p, q, t)) = ap (digest_behind i) p ∙ sym (ap (digest_behind i) q)

  abbrev Behind : Term → Type 0
  Behind e = All P (course None ask e).asked → IsFine (walk None less e) → IsFine (walk None more e) → digests_behind less true e ≡ digests_behind more true e

  abbrev AllBehind : Row Var Name → Type 0
  AllBehind end = Unit {0}
  AllBehind (kid b e r) = Behind e × AllBehind r

  both_walks : (e : Term) → All P (course None ask e).asked → IsFine (walk None less e) → IsFine (walk None more e) → Both (walk None less e) (walk None more e)
  both_walks e a f d = both _ _ (walks.walk-as P None less more ask alike known e a) f d

  -- the parts after one that is ready
  rest_behind : (r : Row Var Name) (v w : Walked Term) → Both v w → ((x y : Term) → v ≡ Ready x → w ≡ Ready y → digests_behind_row less other true r ≡ digests_behind_row more other true r)
      → digests_behind_row less other (goes_on other v) r ≡ digests_behind_row more other (goes_on other w) r
  rest_behind r v w (inl (x, y, p, q, s)) k =
      ap (λ z. digests_behind_row less other (goes_on other z) r) p ∙ k x y p q ∙ sym (ap (λ z. digests_behind_row more other (goes_on other z) r) q)
  rest_behind r v w (inr (b, p, q, t)) k =
      ap (λ z. digests_behind_row less other (goes_on other z) r) p ∙ none_row less more other r ∙ sym (ap (λ z. digests_behind_row more other (goes_on other z) r) q)

  row_behind : (r : Row Var Name) → AllBehind r → All P (all_courses (courses None ask r)).asked → IsFine (in_order (walks.walks_of None less r)) → IsFine (in_order (walks.walks_of None more r))
      → digests_behind_row less other true r ≡ digests_behind_row more other true r
  row_behind end h a f d = refl
  row_behind (kid b e r) h a f d =
      let c = course None ask e in
      let cs = all_courses (courses None ask r) in
      let here = first_all P c.ending c cs a in
      let fine = first_fine (walk None less e) _ f in
      let decided = first_fine (walk None more e) _ d in
      joined _ _ _ _ (h.0 here fine decided)
      (rest_behind r (walk None less e) (walk None more e) (both_walks e here fine decided) λ x y p q.
      row_behind r h.1 (rest_all P c.ending c cs (goes_on-ending P (walk None more e) c y q (walks.fits P None less more ask alike known e)) a)
      (rest_fine (walk None less e) (in_order (walks.walks_of None less r)) x p f) (rest_fine (walk None more e) (in_order (walks.walks_of None more r)) y q d))

  -- the right side of a choice
  right_behind : (e : Term) (v w : Walked Term) → Both v w → ((b : Blame) → v ≡ Fails b → w ≡ Fails b → may_go_on b.why ≡ true → digests_behind less true e ≡ digests_behind more true e)
      → digests_behind less (goes_on choosing v) e ≡ digests_behind more (goes_on choosing w) e
  right_behind e v w (inl (x, y, p, q, s)) k =
      ap (λ z. digests_behind less (goes_on choosing z) e) p ∙ none_here less more e ∙ sym (ap (λ z. digests_behind more (goes_on choosing z) e) q)
  right_behind e v w (inr (b, p, q, t)) k =
      ap (λ z. digests_behind less (goes_on choosing z) e) p
      ∙ ap (λ z. digests_behind less z e) t ∙ k b p q t ∙ sym (ap (λ z. digests_behind more z e) t)
      ∙ sym (ap (λ z. digests_behind more (goes_on choosing z) e) q)

  choice_behind : (d e : Term) → Behind d → Behind e → All P (else_by (course None ask d).ending (course None ask d) (course None ask e)).asked
      → IsFine (or_else (walk None less d) (walk None less e)) → IsFine (or_else (walk None more d) (walk None more e))
      → digests_behind_row less choosing true (kid None d (kid None e end)) ≡ digests_behind_row more choosing true (kid None d (kid None e end))
  choice_behind d e hd he a f g =
      let c = course None ask d in
      let here = left_choice P c.ending c (course None ask e) a in
      let fine = left_fine (walk None less d) (walk None less e) f in
      let decided = left_fine (walk None more d) (walk None more e) g in
      joined _ _ _ _ (hd here fine decided)
      (joined _ _ _ _
      (right_behind e (walk None less d) (walk None more d) (both_walks d here fine decided) λ b p q t.
      he (right_choice P c.ending b c (course None ask e) (stops P (walk None more d) c b q (walks.fits P None less more ask alike known d)) t a)
      (right_fine (walk None less d) (walk None less e) b p t f) (right_fine (walk None more d) (walk None more e) b q t g))
      refl)

  node_behind : (op : Op) (f : Form) (r : Row Var Name) → ShapeOf f r → AllBehind r → All P (course_node None ask f (courses None ask r)).asked
      → IsFine (walk_node None less op r f (walks.walks_of None less r)) → IsFine (walk_node None more op r f (walks.walks_of None more r))
      → own_digest less true f ++ digests_behind_row less f true r ≡ own_digest more true f ++ digests_behind_row more f true r
  node_behind op (importing i) r s h a f d =
      subst (λ z. own_digest less true (importing i) ++ digests_behind_row less (importing i) true z ≡ own_digest more true (importing i) ++ digests_behind_row more (importing i) true z) (sym s)
      (ap (λ z. z ∷ []) (digest-same i _ _ (both _ _ (walks.key-as P None less more ask alike known (chained None i) a) f d)))
  node_behind op other r s h a f d = row_behind r h a (first_fine (in_order (walks.walks_of None less r)) _ f) (first_fine (in_order (walks.walks_of None more r)) _ d)
  node_behind op choosing r (x, y, s) h a f d =
      subst (λ z. digests_behind_row less choosing true z ≡ digests_behind_row more choosing true z) (sym s)
      (by_two x y (subst AllBehind s h) (subst (λ z. All P (course_node None ask choosing (courses None ask z)).asked) s a)
      (subst (λ z. IsFine (walk_node None less op z choosing (walks.walks_of None less z))) s f) (subst (λ z. IsFine (walk_node None more op z choosing (walks.walks_of None more z))) s d))
    where
      by_two : (x y : Term) → AllBehind (kid None x (kid None y end)) → All P (else_by (course None ask x).ending (course None ask x) (course None ask y)).asked
          → IsFine (or_else (walk None less x) (walk None less y)) → IsFine (or_else (walk None more x) (walk None more y))
          → digests_behind_row less choosing true (kid None x (kid None y end)) ≡ digests_behind_row more choosing true (kid None x (kid None y end))
      by_two x y k b g e = choice_behind x y k.0 k.1.0 b g e

  mutual
    pub behind : (e : Term) → IsWellFormed e → Behind e
    behind (Leaf v) w a f d = refl
    behind (Node op r) w a f d = node_behind op (form_of op) r (shape op r w.0) (all_behind r w.1) a f d

    all_behind : (r : Row Var Name) → AreWellFormed r → AllBehind r
    all_behind end w = tt
    all_behind (kid b e r) w = ((λ a f d. behind e w.0 a f d), all_behind r w.1)

-- ---- the root

same-itself : (o p : Outcome) → o ≡ p → IsSameOutcome o p
same-itself o p h = subst (IsSameOutcome o) h (itself o)

one-outcomes : (x y : Option Outcome) → ((o p : Outcome) → x ≡ Some o → y ≡ Some p → o ≡ p) → AreSameOutcomes x y
one-outcomes None y h = tt
one-outcomes (Some o) None h = tt
one-outcomes (Some o) (Some p) h = same-itself o p (h o p refl refl)

-- by outcomes that do not contradict each other
one_behind : (less more : Ask) → ((k : Key) (o p : Outcome) → less k ≡ Some o → more k ≡ Some p → o ≡ p) → (e v w : Term) → IsWellFormed e
    → walk None less e ≡ Ready v → walk None more e ≡ Ready w → digests_behind less true e ≡ digests_behind more true e
one_behind less more one e v w f g h =
    behind (λ k. Unit {0}) less more more (λ k t. one-outcomes (less k) (more k) (one k)) (calm_ask-known more) e f
    (λ y i. tt) (subst IsFine (sym g) tt) (subst IsFine (sym h) tt)

ready-spent : (r : Record) (root z : Term) (w : Walked Term) → ResolvesRoot r root w → IsDecided w → ResolvesRoot r root (Ready z) → w ≡ Ready z
ready-spent r root z w h d g = roots-one r root w (Ready z) h g d tt

pub warm_digests : WarmDigests
warm_digests r plain root v ask plain_ask w formed (m, ready) z comes asks plain_asks x u g h =
    let spent = resolve r w.spend [] in
    let p = ready-spent r root z (walk None spent root) (w.spend, refl) w.decided comes in
    one_behind plain_ask (resolve plain m []) (λ k o q i j. resolves-one plain k o q (plain_asks k o i) (m, j)) root x v formed g ready
    ∙ behind (λ k. Visited r spent root k) (resolve plain m []) spent spent (visited-as r plain root w m) (calm_ask-known spent) root formed
    (λ y i. by_root i) (subst IsFine (sym ready) tt) (subst IsFine (sym p) tt)
    ∙ one_behind spent ask (λ k o q i j. resolves-one r k o q (w.spend, i) (asks k q j)) root z u formed p h
