-- The parts of a node are typed one after the other, and then its rule is followed.
use Rattle.std.specs.Prelude.{◌≡◌, ◌<◌, ℕ, zero, suc, Bool, true, false, ◌&&◌, List, [], ◌∷◌, ◌++◌, map, length, drop, Option, Some, None, IsSome, IsTrue, option_map, slice_get, refl}
use Rattle.std.proofs.Common.{Global, Vec, ap, sym, ◌∙◌, append_assoc, append-nil, subst as along}
use Rattle.std.proofs.lemmas.List.{map-append}
use Rattle.std.proofs.Math.Path.{fun_ext}
use Rattle.dh_syntax.specs.declared.expressions.Op.{Op}
use Rattle.dh_syntax.specs.declared.expressions.Op.TheVariants as ops
use Rattle.dh_syntax.specs.declared.operators.BinOp.TheVariants as bins
use Rattle.dh_syntax.specs.declared.operators.Builtin.TheVariants as builtins
use Rattle.dh_syntax.specs.Expressions.Arity.{fits}
use Rattle.dh_syntax.specs.Expressions.Tree.{Row, Leaf, Node, end, kid, Name}
use Rattle.dh_syntax.specs.Expressions.Views.{bodies}
use Rattle.dh_syntax.specs.Names.Nameless.{Ref, Core, sub, sub_row}
use Rattle.dh_syntax.specs.Typing.Inference.{Inference, FromPart}
use Rattle.dh_syntax.specs.Typing.NamelessTyping.{core_scopes}
use Rattle.dh_syntax.specs.Typing.Scopes.{Context}
use Rattle.dh_syntax.specs.Typing.TypeRules as rule
use Rattle.dh_syntax.specs.Typing.TypeRules.{Rule}
use Rattle.dh_syntax.specs.Typing.TypeRuling as ruling
use Rattle.dh_syntax.specs.Typing.TypeRuling.{Ruling}
use Rattle.dh_syntax.specs.Typing.TypeViews.{is_constant}
use Rattle.dh_syntax.specs.Typing.Typing as typings
use Rattle.dh_store.specs.declared.codes.CodeKid.{CodeKid}
use Rattle.dh_store.specs.Cells.{code_row, AreBelow}
use Rattle.dh_store.specs.Growth.{count}
use Rattle.dh_types.specs.declared.steps.Found.{Found}
use Rattle.dh_types.specs.Following.{normal_found, universe_found, facts_of}
use Rattle.dh_typerows.specs.Groups.{IsLabelled}
use Rattle.dh_infer.specs.declared.forms.Form.TheVariants as forms
use Rattle.dh_infer.specs.declared.frames.Frame.TheVariants as frames
use Rattle.dh_infer.specs.declared.frames.State.{State}
use Rattle.dh_infer.specs.declared.frames.State.TheVariants as states
use Rattle.dh_infer.specs.declared.frames.Typer.{Typer}
use Rattle.dh_infer.specs.Inside.Debts.{Family, whole, Debt, Comes, Goes}
use Rattle.dh_infer.specs.Inside.Forms.{has_own_rule, IsForm}
use Rattle.dh_infer.specs.Inside.Levels.{IsOf}
use Rattle.dh_infer.specs.Inside.Machine.{debts, IsSound, IsReady, IsPlainNode, AreAllOf, IsCounted, Advances, with_frame}
use Rattle.dh_infer.specs.Inside.OpenTyping.{typing_in}
use Rattle.dh_infer.specs.Inside.Rests.{op_of, those, bodies_of, reach, rule_of, settled_by, ruled, rule_next, parts_next, part_next}
use Rattle.dh_infer.specs.Inside.Scopes.{Models, env, in_scope}
use Rattle.dh_infer.proofs.Counting.{counted-none, counted-part, counted-skipped, labelled, length-more}
use Rattle.dh_infer.proofs.Starting.{deeper}
use Rattle.dh_infer.proofs.Leading.{leads-part}
use Rattle.dh_infer.proofs.PartsOf.{AreRowOf, of-node, of-first, of-rest}
use Rattle.dh_infer.proofs.Readiness.{stays, pushes}
use Rattle.dh_infer.proofs.Returning.{returns}
use Rattle.dh_infer.proofs.RuleSteps.{goes-alike, get-map, all-get}

-- ---- lists

some-once : {X : Type 0} (x y : X) → Some x ≡ Some y → x ≡ y
some-once x y h = cc

drop-some : (es : List Core) (j : ℕ) (e : Core) → slice_get es j ≡ Some e → drop j es ≡ e ∷ drop (suc j) es
drop-some [] j e p = absurd cc
drop-some (d ∷ es) zero e p = ap (λ z. z ∷ es) (some-once d e p)
drop-some (d ∷ es) (suc j) e p = drop-some es j e p

drop-none : (es : List Core) (j : ℕ) → slice_get es j ≡ None → drop j es ≡ []
drop-none [] zero p = refl
drop-none [] (suc j) p = refl
drop-none (d ∷ es) zero p = absurd cc
drop-none (d ∷ es) (suc j) p = drop-none es j p

-- ---- the parts of a node

sub-all : (s : ℕ → Core) (e : Core) (o : Option (List Core)) → option_map (λ es. sub s e ∷ es) (option_map (map (sub s)) o) ≡ option_map (map (sub s)) (option_map (λ es. e ∷ es) o)
sub-all s e (Some es) = refl
sub-all s e None = refl

sub-bodies : (s : ℕ → Core) (r : Row Ref Name) → bodies (sub_row s r) ≡ option_map (map (sub s)) (bodies r)
sub-bodies s end = refl
sub-bodies s (kid None e r) = ap (option_map (λ es. sub s e ∷ es)) (sub-bodies s r) ∙ sub-all s e (bodies r)
sub-bodies s (kid (Some x) e r) = refl

those-map : (s : ℕ → Core) (o : Option (List Core)) → those (option_map (map (sub s)) o) ≡ map (sub s) (those o)
those-map s (Some es) = refl
those-map s None = refl

cons-some : (e : Core) (o : Option (List Core)) → IsSome (option_map (λ es. e ∷ es) o) → IsSome o × (those (option_map (λ es. e ∷ es) o) ≡ e ∷ those o)
cons-some e (Some es) h = (refl, refl)
cons-some e None h = absurd cc

kid-bodies : (g : ℕ → Core) (ks : List CodeKid) → IsSome (bodies (code_row g ks)) → those (bodies (code_row g ks)) ≡ map g (map (λ k. k.code) ks)
kid-bodies g [] h = refl
kid-bodies g (k ∷ ks) h = by k.binder h (λ q. kid-bodies g ks q)
  where
    by : (b : Option Name) → IsSome (bodies (kid b (g k.code) (code_row g ks))) → (IsSome (bodies (code_row g ks)) → those (bodies (code_row g ks)) ≡ map g (map (λ k. k.code) ks))
        → those (bodies (kid b (g k.code) (code_row g ks))) ≡ g k.code ∷ map g (map (λ k. k.code) ks)
    by (Some x) q ih = absurd cc
    by None q ih = let (i, p) = cons-some (g k.code) (bodies (code_row g ks)) q in p ∙ ap (λ es. g k.code ∷ es) (ih i)

abbrev row_of : Core → Row Ref Name
row_of (Node op r) = r
row_of (Leaf x) = end

get-code : (ks : List CodeKid) (j : ℕ) → slice_get (map (λ k. k.code) ks) j ≡ option_map (λ k. k.code) (slice_get ks j)
get-code [] j = refl
get-code (k ∷ ks) zero = refl
get-code (k ∷ ks) (suc j) = get-code ks j

get-sub : (s : ℕ → Core) (es : List Core) (j : ℕ) → slice_get (map (sub s) es) j ≡ option_map (sub s) (slice_get es j)
get-sub s [] j = refl
get-sub s (e ∷ es) zero = refl
get-sub s (e ∷ es) (suc j) = get-sub s es j

module _ (g : ℕ → Core) (s : ℕ → Core) (k : ℕ) (plain : IsPlainNode g k) where
  sub-parts : bodies_of (sub s (g k)) ≡ map (sub s) (bodies_of (g k))
  sub-parts =
      let (op, r, e, b) = plain in
      ap (λ z. bodies_of (sub s z)) e ∙ ap those (sub-bodies s r) ∙ those-map s (bodies r) ∙ sym (ap (λ z. map (sub s) (bodies_of z)) e)

  module _ (op : Op) (ks : List CodeKid) (is : g k ≡ Node op (code_row g ks)) where
    code-parts : bodies_of (g k) ≡ map g (map (λ k. k.code) ks)
    code-parts =
        let (op', r, e, b) = plain in
        ap bodies_of is ∙ kid-bodies g ks (along (λ z. IsSome (bodies z)) (ap row_of (sym e ∙ is)) b)

    pub get-parts : (j : ℕ) (o : Option CodeKid) → slice_get ks j ≡ o → slice_get (bodies_of (sub s (g k))) j ≡ option_map (sub s) (option_map g (option_map (λ k. k.code) o))
    get-parts j o p =
        ap (λ z. slice_get z j) (sub-parts ∙ ap (map (sub s)) code-parts) ∙ get-sub s (map g (map (λ k. k.code) ks)) j
        ∙ ap (option_map (sub s)) (get-map g (map (λ k. k.code) ks) j ∙ ap (option_map g) (get-code ks j ∙ ap (option_map (λ k. k.code)) p))

    -- a part that is there, and one that is not
    pub part-there : (j : ℕ) (c : CodeKid) → slice_get ks j ≡ Some c → slice_get (bodies_of (sub s (g k))) j ≡ Some (sub s (g c.code))
    part-there j c p = get-parts j (Some c) p

    pub part-past : (j : ℕ) → slice_get ks j ≡ None → slice_get (bodies_of (sub s (g k))) j ≡ None
    part-past j p = get-parts j None p

cons-all : (n : ℕ) (e : Core) (o : Option (List Core)) → IsOf n e → AreAllOf n (those o) → AreAllOf n (those (option_map (λ es. e ∷ es) o))
cons-all n e (Some es) h k = (h, k)
cons-all n e None h k = tt

row-all : (n : ℕ) (r : Row Ref Name) → AreRowOf n r → AreAllOf n (those (bodies r))
row-all n end h = tt
row-all n (kid (Some x) e r) h = tt
row-all n (kid None e r) h = cons-all n e (bodies r) (of-first n e r h) (row-all n r (of-rest n e r h))

bodies-all : (n : ℕ) (e : Core) → IsOf n e → AreAllOf n (bodies_of e)
bodies-all n (Node op r) h = row-all n r (of-node n op r h)
bodies-all n (Leaf x) h = tt

-- each part of an expression has variables of lower numbers alone, where the expression has
pub part-of : (n : ℕ) (e : Core) → IsOf n e → (j : ℕ) (p : Core) → slice_get (bodies_of e) j ≡ Some p → IsOf n p
part-of n e h j p q = all-get n (bodies_of e) (bodies-all n e h) j p q

-- ---- a node without a rule of its own

module _ (below : Context Ref Name → Core → Inference Core) where
  abbrev by-group : Op → Row Ref Name → Inference Core
  by-group op r = typings.given_form (bodies r) rule.NotResolved (λ es. typings.grouped core_scopes below [] op es)

  group-node : (op : Op) (r : Row Ref Name) → has_own_rule op ≡ false → typings.node core_scopes below [] op r ≡ by-group op r
  group-node (ops.Builtin b) r n = absurd cc
  group-node (ops.Bool b) r n = absurd cc
  group-node (ops.Nat b) r n = absurd cc
  group-node (ops.Int b) r n = absurd cc
  group-node ops.Lam r n = absurd cc
  group-node ops.Pi r n = absurd cc
  group-node (ops.Let b) r n = absurd cc
  group-node ops.App r n = absurd cc
  group-node (ops.Bin bins.Or) r n = refl
  group-node (ops.Bin bins.And) r n = refl
  group-node (ops.Bin bins.Equal) r n = refl
  group-node (ops.Bin bins.NotEqual) r n = refl
  group-node (ops.Bin bins.Plus) r n = refl
  group-node (ops.Bin bins.Times) r n = refl
  group-node (ops.Bin bins.TextAppend) r n = refl
  group-node (ops.Bin bins.ListAppend) r n = refl
  group-node (ops.Bin bins.Combine) r n = refl
  group-node (ops.Bin bins.Prefer) r n = refl
  group-node (ops.Bin bins.CombineTypes) r n = refl
  group-node (ops.Bin bins.Fallback) r n = refl
  group-node (ops.Bin bins.Equivalent) r n = refl
  group-node (ops.Bin bins.Complete) r n = absurd cc
  group-node (ops.Text ps) r n = refl
  group-node (ops.Import i) r n = refl
  group-node ops.If r n = refl
  group-node ops.EmptyList r n = refl
  group-node ops.List r n = refl
  group-node ops.Some r n = refl
  group-node (ops.Merge b) r n = refl
  group-node (ops.RecordType xs) r n = refl
  group-node (ops.Record xs) r n = refl
  group-node (ops.Field x) r n = refl
  group-node (ops.Project xs) r n = refl
  group-node ops.ProjectType r n = refl
  group-node (ops.Union alts) r n = refl
  group-node ops.Assert r n = refl
  group-node ops.Annot r n = refl
  group-node (ops.ToMap b) r n = refl
  group-node (ops.With path) r n = refl

  given-bodies : (op : Op) (o : Option (List Core)) → IsSome o
      → typings.given_form o rule.NotResolved (λ es. typings.grouped core_scopes below [] op es)
      ≡ typings.from_parts core_scopes below [] op 0 (those o) (λ us. typings.given_form (rule_of op us) rule.NotResolved (λ r. typings.settled core_scopes below [] (those o) us r))
  given-bodies op (Some es) h = refl
  given-bodies op None h = absurd cc

some-sub : (s : ℕ → Core) (o p : Option (List Core)) → p ≡ option_map (map (sub s)) o → IsSome o → IsSome p
some-sub s (Some es) p e h = along IsSome (sym e) refl
some-sub s None p e h = absurd cc

-- nothing is found yet
abbrev pub unknown : Found
unknown = record { first = None; second = None; third = None; first_universe = None; second_universe = None }

normal-unknown : (k : ℕ) → normal_found unknown k ≡ None
normal-unknown zero = refl
normal-unknown (suc zero) = refl
normal-unknown (suc (suc zero)) = refl
normal-unknown (suc (suc (suc k))) = refl

universe-unknown : (k : ℕ) → universe_found unknown k ≡ None
universe-unknown zero = refl
universe-unknown (suc zero) = refl
universe-unknown (suc (suc k)) = refl

reach-unknown : (g : ℕ → Core) (r : Ruling Core) → reach (facts_of g unknown) r ≡ r
reach-unknown g (ruling.Takes t) = refl
reach-unknown g (ruling.Forms t) = refl
reach-unknown g (ruling.Refuses q) = refl
reach-unknown g (ruling.WithNormal zero next) = refl
reach-unknown g (ruling.WithNormal (suc zero) next) = refl
reach-unknown g (ruling.WithNormal (suc (suc zero)) next) = refl
reach-unknown g (ruling.WithNormal (suc (suc (suc k))) next) = refl
reach-unknown g (ruling.WithUniverse zero next) = refl
reach-unknown g (ruling.WithUniverse (suc zero) next) = refl
reach-unknown g (ruling.WithUniverse (suc (suc k)) next) = refl

given-alike : (o : Option (Ruling Core)) (q : Rule) (f h : Ruling Core → Inference Core) → ((r : Ruling Core) → f r ≡ h r) → typings.given_form o q f ≡ typings.given_form o q h
given-alike (Some r) q f h k = k r
given-alike None q f h k = refl

-- ---- it begins

pub begins-plain : (m : Typer) (k u : ℕ) → IsReady m (states.Type k) → ((g : ℕ → Core) → Models m.codes g → IsForm g (g k) forms.Plain) → (us : Vec ℕ Global) → us.items ≡ []
    → Advances m m (states.Type k) (states.Parts k 0 us) u u
begins-plain m k u ready is us empty =
    stays m (states.Type k) ready (states.Parts k 0 us) u u
    (ready.state, along (AreBelow (count m.codes)) (sym empty) tt)
    (λ g a s.
    let (op, n, (r, e, b)) = is g a in (
      (op, r, e, b),
      s.state,
      along (λ z. AreAllOf (length (map g m.levels)) (map g z)) (sym empty) tt,
      along (λ z. IsCounted (op_of (g k)) (length z) 0) (sym empty) (counted-none (op_of (g k))),
    ))
    (λ g a s root w.
    goes-alike root (debts g m.scope m.levels m.frames) (λ d. whole (map g m.levels) (in_scope g m.scope k) (suc d)) (parts_next (map g m.levels) (in_scope g m.scope k) 0 (map g us.items)) u
    (λ d. ap (λ z. parts_next (map g m.levels) (in_scope g m.scope k) 0 (map g z) d) empty ∙ sym (begun g a d))
    (deeper root m g k u w))
  where
    begun : (g : ℕ → Core) → Models m.codes g → (d : ℕ) → whole (map g m.levels) (in_scope g m.scope k) (suc d) ≡ parts_next (map g m.levels) (in_scope g m.scope k) 0 [] d
    begun g a d =
        let (op, n, (r, e, b)) = is g a in
        let s = env g m.scope in
        ap (λ z. whole (map g m.levels) (sub s z) (suc d)) e ∙ group-node (typing_in (map g m.levels) d) op (sub_row s r) n
        ∙ given-bodies (typing_in (map g m.levels) d) op (bodies (sub_row s r)) (some-sub s (bodies r) (bodies (sub_row s r)) (sub-bodies s r) b)
        ∙ sym (ap (λ z. parts_next (map g m.levels) (sub s z) 0 [] d) e)

-- ---- a part

module _ (m : Typer) (k at : ℕ) (us : Vec ℕ Global) (u : ℕ) (ready : IsReady m (states.Parts k at us))
    (op : Op) (ks : List CodeKid) (is : (g : ℕ → Core) → Models m.codes g → g k ≡ Node op (code_row g ks)) (fit : (f : ℕ → Core) → IsTrue (fits op (code_row f ks))) where
  abbrev here : State
  here = states.Parts k at us

  abbrev numbered : (ℕ → Core) → List Core
  numbered g = map g m.levels

  abbrev typed : (ℕ → Core) → List Core
  typed g = map g us.items

  abbrev it : (ℕ → Core) → Core
  it g = in_scope g m.scope k

  abbrev owed : (ℕ → Core) → List Debt
  owed g = debts g m.scope m.levels m.frames

  abbrev family : (ℕ → Core) → Family
  family g = parts_next (numbered g) (it g) at (typed g)

  abbrev rest : (ℕ → Core) → ℕ → List Core → Inference Core
  rest g d es = typings.from_parts core_scopes (typing_in (numbered g) d) [] (op_of (it g)) at es (λ vs. ruled (numbered g) (it g) (typed g ++ vs) d)

  op-is : (g : ℕ → Core) → Models m.codes g → op_of (it g) ≡ op
  op-is g a = ap (λ z. op_of (sub (env g m.scope) z)) (is g a)

  -- how many parts are typed
  counted : (g : ℕ → Core) → Models m.codes g → IsSound g m here → IsCounted op (length us.items) at
  counted g a s = along (λ o. IsCounted o (length us.items) at) (ap op_of (is g a)) s.state.3

  counting : (g : ℕ → Core) → Models m.codes g → (n i : ℕ) → IsCounted op n i → IsCounted (op_of (g k)) n i
  counting g a n i h = along (λ o. IsCounted o n i) (sym (ap op_of (is g a))) h

  pub parts-done : slice_get ks at ≡ None → Advances m m here (states.Rule k us unknown) u u
  parts-done none =
      stays m here ready (states.Rule k us unknown) u u
      (ready.state.0, ready.state.1, record { first = tt; second = tt; third = tt })
      (λ g a s. (
        s.state.0,
        s.state.1,
        s.state.2,
        λ j c p. let q = normal-unknown j in absurd cc,
        along (λ o. IsLabelled o (length us.items)) (sym (ap op_of (is g a))) (labelled op ks (length us.items) at fit (counted g a s) none),
      ))
      (λ g a s root w. (
        λ j v p. let q = universe-unknown j in absurd cc,
        goes-alike root (owed g) (family g) (rule_next (numbered g) (it g) (typed g) (facts_of g unknown)) u
            (λ d. sym
            (ap (rest g d) (drop-none (bodies_of (it g)) at (part-past g (env g m.scope) k s.state.0 op ks (is g a) at none))
            ∙ ap (λ vs. ruled (numbered g) (it g) vs d) (append-nil (typed g))
            ∙ given-alike (rule_of (op_of (it g)) (typed g)) rule.NotResolved (λ r. settled_by (numbered g) (bodies_of (it g)) (typed g) r d)
            (λ r. settled_by (numbered g) (bodies_of (it g)) (typed g) (reach (facts_of g unknown) r) d)
            (λ r. ap (λ z. settled_by (numbered g) (bodies_of (it g)) (typed g) z d) (sym (reach-unknown g r)))))
            w,
      ))

  module _ (c : CodeKid) (there : slice_get ks at ≡ Some c) (skips : Bool)
      (skip : (g : ℕ → Core) → Models m.codes g → (d : ℕ)
      → (typings.is_annotation core_scopes (typing_in (map g m.levels) d) [] op at && is_constant builtins.Sort (in_scope g m.scope c.code)) ≡ skips) where
    part-is : (g : ℕ → Core) → Models m.codes g → IsSound g m here → slice_get (bodies_of (it g)) at ≡ Some (in_scope g m.scope c.code)
    part-is g a s = part-there g (env g m.scope) k s.state.0 op ks (is g a) at c there

    -- what follows from the type of the part
    abbrev after : (ℕ → Core) → ℕ → Option Core → Inference Core
    after g d o =
        typings.from_parts core_scopes (typing_in (numbered g) d) [] (op_of (it g)) (suc at) (drop (suc at) (bodies_of (it g)))
        (λ vs. ruled (numbered g) (it g) (typed g ++ ruling.prepend_type o vs) d)

    family-is : (g : ℕ → Core) → Models m.codes g → IsSound g m here → (d : ℕ)
        → family g d ≡ typings.unless_untyped core_scopes (typing_in (numbered g) d) [] skips at (in_scope g m.scope c.code) (after g d)
    family-is g a s d =
        ap (rest g d) (drop-some (bodies_of (it g)) at (in_scope g m.scope c.code) (part-is g a s))
        ∙ ap (λ z. typings.unless_untyped core_scopes (typing_in (numbered g) d) [] z at (in_scope g m.scope c.code) (after g d))
        (ap (λ o. typings.is_annotation core_scopes (typing_in (numbered g) d) [] o at && is_constant builtins.Sort (in_scope g m.scope c.code)) (op-is g a) ∙ skip g a d)

    pub part-skipped : skips ≡ true → Advances m m here (states.Parts k (suc at) us) u u
    part-skipped y =
        stays m here ready (states.Parts k (suc at) us) u u ready.state
        (λ g a s. (
          s.state.0,
          s.state.1,
          s.state.2,
          counting g a (length us.items) (suc at)
              (counted-skipped op (length us.items) at (typing_in (map g m.levels) 0) (is_constant builtins.Sort (in_scope g m.scope c.code)) (skip g a 0 ∙ y) (counted g a s)),
        ))
        (λ g a s root w.
        goes-alike root (owed g) (family g) (parts_next (numbered g) (it g) (suc at) (typed g)) u
        (λ d. sym (family-is g a s d ∙ ap (λ z. typings.unless_untyped core_scopes (typing_in (numbered g) d) [] z at (in_scope g m.scope c.code) (after g d)) y)) w)

    pub part-begins : skips ≡ false → c.code < count m.codes → Advances m (with_frame (frames.Part k at us) m) here (states.Type c.code) u u
    part-begins n below =
        pushes m here ready (frames.Part k at us) c.code u u refl refl ready.state below
        (λ g a s. (
          (s.state.0, s.state.1, s.state.2, counting g a (suc (length us.items)) (suc at) (counted-part op ks (length us.items) at c fit (counted g a s) there)),
          part-of (length (numbered g)) (it g) s.state.1 at (in_scope g m.scope c.code) (part-is g a s),
        ))
        (λ g a s root w.
        leads-part (Comes root (owed g)) u (family g) w at (whole (numbered g) (in_scope g m.scope c.code)) (part_next (numbered g) (it g) at (typed g))
        (λ d. family-is g a s d ∙ ap (λ z. typings.unless_untyped core_scopes (typing_in (numbered g) d) [] z at (in_scope g m.scope c.code) (after g d)) n
        ∙ ap (FromPart at (whole (numbered g) (in_scope g m.scope c.code) d)) (fun_ext (λ t. joined g d t))))
      where
        joined : (g : ℕ → Core) (d : ℕ) (t : Core) → after g d (Some t) ≡ part_next (numbered g) (it g) at (typed g) t d
        joined g d t =
            ap (typings.from_parts core_scopes (typing_in (numbered g) d) [] (op_of (it g)) (suc at) (drop (suc at) (bodies_of (it g))))
            (fun_ext (λ vs. ap (λ z. ruled (numbered g) (it g) z d) (sym (append_assoc (typed g) (t ∷ []) vs))))

-- ---- a part is typed

below-append : (n : ℕ) (cs : List ℕ) (t : ℕ) → AreBelow n cs → t < n → AreBelow n (cs ++ t ∷ [])
below-append n [] t h l = (l, tt)
below-append n (c ∷ cs) t h l = (h.0, below-append n cs t h.1 l)

all-append : (n : ℕ) (es : List Core) (t : Core) → AreAllOf n es → IsOf n t → AreAllOf n (es ++ t ∷ [])
all-append n [] t h l = (l, tt)
all-append n (e ∷ es) t h l = (h.0, all-append n es t h.1 l)

pub part-typed : (m : Typer) (k at : ℕ) (us vs : Vec ℕ Global) (t u : ℕ) → IsReady (with_frame (frames.Part k at us) m) (states.Typed t) → vs.items ≡ us.items ++ t ∷ []
    → Advances (with_frame (frames.Part k at us) m) m (states.Typed t) (states.Parts k (suc at) vs) u u
part-typed m k at us vs t u ready e =
    returns m (frames.Part k at us) (states.Typed t) refl refl ready (states.Parts k (suc at) vs) u u
    (ready.frames.0.0, along (AreBelow (count m.codes)) (sym e) (below-append (count m.codes) us.items t ready.frames.0.1 ready.state))
    (λ g a s. (
      s.frames.0.0,
      s.frames.0.1,
      along (AreAllOf (length (map g m.levels))) (sym (mapped g)) (all-append (length (map g m.levels)) (map g us.items) (g t) s.frames.0.2 s.state),
      along (λ n. IsCounted (op_of (g k)) n (suc at)) (sym (ap length e ∙ length-more us.items t)) s.frames.0.3,
    ))
    (λ g a s root w. along (λ z. Goes root (debts g m.scope m.levels m.frames) (parts_next (map g m.levels) (in_scope g m.scope k) (suc at) z) u) (sym (mapped g)) w)
  where
    mapped : (g : ℕ → Core) → map g vs.items ≡ map g us.items ++ g t ∷ []
    mapped g = ap (map g) e ∙ map-append g us.items (t ∷ [])
