-- A rule is followed one step.
use Rattle.std.specs.Prelude.{◌≡◌, ◌<◌, ◌+◌, ℕ, zero, suc, List, [], ◌∷◌, map, length, reverse, Option, Some, None, option_map, option_and_then, slice_get, slice_index_or, refl}
use Rattle.std.proofs.Common.{Global, Vec, ap, sym, ◌∙◌, arith, inl, inr, subst as along}
use Rattle.dh_syntax.specs.declared.operators.Builtin.{Builtin}
use Rattle.dh_syntax.specs.Limits.{purse_aside}
use Rattle.dh_syntax.specs.Names.Nameless.{Core, sub}
use Rattle.dh_syntax.specs.Typing.Inference.{Gives, Fails, FromNormal, Aside, Judgment, Has, Ill, IsWide, IsDeep, IsOver, IsOverAside, IsShallow}
use Rattle.dh_syntax.specs.Typing.TypeRules as rule
use Rattle.dh_syntax.specs.Typing.TypeRules.{Rule, rule_number}
use Rattle.dh_syntax.specs.Typing.TypeRuling as ruling
use Rattle.dh_syntax.specs.Typing.TypeRuling.{Ruling}
use Rattle.dh_syntax.specs.Typing.Typing as typings
use Rattle.dh_syntax.specs.Typing.Universes.{as_universe}
use Rattle.dh_store.specs.Cells.{nothing, AreBelow}
use Rattle.dh_store.specs.Growth.{count}
use Rattle.dh_norm.specs.Answers.{IsNormal}
use Rattle.dh_types.specs.declared.steps.Found.{Found}
use Rattle.dh_types.specs.declared.steps.Step.{Step}
use Rattle.dh_types.specs.declared.steps.Step.TheVariants as steps
use Rattle.dh_types.specs.Following.{Facts, follow, normal_found, facts_of, course_of}
use Rattle.dh_infer.specs.declared.frames.Failure.{Failure}
use Rattle.dh_infer.specs.declared.frames.Frame.TheVariants as frames
use Rattle.dh_infer.specs.declared.frames.State.{State}
use Rattle.dh_infer.specs.declared.frames.State.TheVariants as states
use Rattle.dh_infer.specs.declared.frames.Typer.{Typer}
use Rattle.dh_syntax.specs.declared.faults.NormFault.{NormFault}
use Rattle.dh_infer.specs.Inside.Debts.{Family, whole, Lags, HasFound, IsWithoutType, AreUniverses, Debt, Beside, Leads, through, Root, Comes, Goes}
use Rattle.dh_infer.specs.Inside.Levels.{IsOf}
use Rattle.dh_infer.specs.Inside.Machine.{debt_of, debts, IsOwed, IsSound, IsReady, IsPlainNode, AreNormals, AreAllOf, Advances, Halts, IsRefusal, with_frame}
use Rattle.dh_infer.specs.Inside.Normals.{IsLicensedHalt}
use Rattle.dh_infer.specs.Inside.OpenTyping.{typing_in}
use Rattle.dh_infer.specs.Inside.Rests.{op_of, bodies_of, reached, reach, rule_of, settled_by, rule_next, with_normal, with_universe, universe_next, IsStepOf}
use Rattle.dh_infer.specs.Inside.Scopes.{Models, env, in_scope}
use Rattle.dh_infer.proofs.FoundMore.{normal-itself, normal-more, normals-with, universes-with_normal, below-with_normal, universe-itself, universe-more, normals-with_universe, universes-with, below-with_universe}
use Rattle.dh_infer.proofs.Leading.{leads-fails, leads-gives, leads-aside}
use Rattle.dh_infer.proofs.LevelTypes.{of-sub}
use Rattle.dh_infer.proofs.Readiness.{stays, pushes}
use Rattle.dh_infer.proofs.RenamedJudgments.{normal-of}
use Rattle.dh_infer.proofs.Returning.{returns, halts-normal, goes-normal}
use Rattle.dh_infer.proofs.RuleTypes.{IsRuleOf, rule-of, reach-of, takes-of, forms-of}
use Rattle.dh_infer.proofs.Scoping.{map-length}
use Rattle.dh_infer.proofs.Ruling.{front, front-reach, takes-front, forms-front, refuses-front, normal-front, universe-front, asks-unknown_normal, asks-unknown_universe, reach-more, settled-known}

-- ---- what the step says of the rule

some-follows : {X Y Z : Type 0} (f : X → Z) (h : Y → Z) (s : X) (o : Option Y) → option_map f (Some s) ≡ option_map h o → (r : Y) × (o ≡ Some r) × (f s ≡ h r)
some-follows f h s (Some r) p = (r, refl, cc)
some-follows f h s None p = absurd cc

none-follows : {X Y Z : Type 0} (f : X → Z) (h : Y → Z) (o : Option X) (q : Option Y) → o ≡ None → option_map f o ≡ option_map h q → q ≡ None
none-follows f h o (Some r) p e = absurd cc
none-follows f h o None p e = refl

pub node-op : (g : ℕ → Core) (s : ℕ → Core) (k : ℕ) → IsPlainNode g k → op_of (sub s (g k)) ≡ op_of (g k)
node-op g s k (op, r, e, b) = ap (λ z. op_of (sub s z)) e ∙ sym (ap op_of e)

pub all-get : (n : ℕ) (us : List Core) → AreAllOf n us → (j : ℕ) (e : Core) → slice_get us j ≡ Some e → IsOf n e
all-get n [] h j e p = absurd cc
all-get n (u ∷ us) h zero e p = along (IsOf n) (some-once u e p) h.0
  where
    some-once : (x y : Core) → Some x ≡ Some y → x ≡ y
    some-once x y q = cc
all-get n (u ∷ us) h (suc j) e p = all-get n us h.1 j e p

pub get-map : (g : ℕ → Core) (us : List ℕ) (j : ℕ) → slice_get (map g us) j ≡ option_map g (slice_get us j)
get-map g [] j = refl
get-map g (u ∷ us) zero = refl
get-map g (u ∷ us) (suc j) = get-map g us j

pub index-map : (g : ℕ → Core) (us : List ℕ) (j c : ℕ) → slice_get us j ≡ Some c → slice_index_or (map g us) j nothing ≡ g c
index-map g [] j c p = absurd cc
index-map g (u ∷ us) zero c p = ap g (some-once u c p)
  where
    some-once : (x y : ℕ) → Some x ≡ Some y → x ≡ y
    some-once x y q = cc
index-map g (u ∷ us) (suc j) c p = index-map g us j c p

index-get : (us : List Core) (j : ℕ) → j < length us → slice_get us j ≡ Some (slice_index_or us j nothing)
index-get [] j l = absurd (omega (arith, l))
index-get (u ∷ us) zero l = refl
index-get (u ∷ us) (suc j) l = index-get us j (omega (arith, l))

get-below : (us : List ℕ) (j c : ℕ) → slice_get us j ≡ Some c → j < length us
get-below [] j c p = absurd cc
get-below (u ∷ us) zero c p = omega arith
get-below (u ∷ us) (suc j) c p = let l = get-below us j c p in omega (arith, l)

get-there : (n : ℕ) (us : List ℕ) → AreBelow n us → (j c : ℕ) → slice_get us j ≡ Some c → c < n
get-there n [] h j c p = absurd cc
get-there n (u ∷ us) h zero c p = along (λ z. z < n) (some-once u c p) h.0
  where
    some-once : (x y : ℕ) → Some x ≡ Some y → x ≡ y
    some-once x y q = cc
get-there n (u ∷ us) h (suc j) c p = get-there n us h.1 j c p

mapped-some : (g : ℕ → Core) (o : Option ℕ) (e : Core) → option_map g o ≡ Some e → (c : ℕ) × (o ≡ Some c) × (g c ≡ e)
mapped-some g (Some c) e p = (c, refl, some-once (g c) e p)
  where
    some-once : (x y : Core) → Some x ≡ Some y → x ≡ y
    some-once x y q = cc
mapped-some g None e p = absurd cc

pub goes-alike : (root : Root) (ds : List Debt) (family other : Family) (units : ℕ) → ((d : ℕ) → other d ≡ family d) → Goes root ds family units → Goes root ds other units
goes-alike root ds family other units h w answer (enough, meets) = w answer (enough, λ more. along (λ z. Lags units z answer) (h (more + enough)) (meets more))

-- what is known of a type aside leads on
beside-more : (comes : Judgment Core → Type 0) (units : ℕ) (aside : Family) (ts us : List Core) (found : Found) (next next' : Option Core → Family)
    → (AreUniverses ts us found → (t : Core) → HasFound aside t → Leads comes (next (Some t)) units → Leads comes (next' (Some t)) units)
    → (AreUniverses ts us found → IsWithoutType aside → Leads comes (next None) units → Leads comes (next' None) units)
    → (answer : Judgment Core) → through (Beside units aside ts us found next) comes answer → through (Beside units aside ts us found next') comes answer
beside-more comes units aside ts us found next next' f h (Has t left) w = (w.0, w.1, f w.0 t w.1 w.2)
beside-more comes units aside ts us found next next' f h (Ill path r) w = (w.0, w.1, h w.0 w.1 w.2)
beside-more comes units aside ts us found next next' f h IsWide w = w
beside-more comes units aside ts us found next next' f h IsDeep w = w
beside-more comes units aside ts us found next next' f h IsOver w = w
beside-more comes units aside ts us found next next' f h IsOverAside w = w
beside-more comes units aside ts us found next next' f h IsShallow w = w

module _ (m : Typer) (k : ℕ) (us : Vec ℕ Global) (found : Found) (u : ℕ) (ready : IsReady m (states.Rule k us found)) where
  abbrev here : State
  here = states.Rule k us found

  abbrev numbered : (ℕ → Core) → List Core
  numbered g = map g m.levels

  abbrev typed : (ℕ → Core) → List Core
  typed g = map g us.items

  abbrev it : (ℕ → Core) → Core
  it g = in_scope g m.scope k

  abbrev owed : (ℕ → Core) → List Debt
  owed g = debts g m.scope m.levels m.frames

  -- what follows by this rule, as far as it goes by what was found
  abbrev by-rule : (ℕ → Core) → Ruling Core → Family
  by-rule g r = settled_by (numbered g) (bodies_of (it g)) (typed g) r

  abbrev so_far : (ℕ → Core) → Ruling Core → Ruling Core
  so_far g r = reach (facts_of g found) r

  abbrev Asked : Option Step → Type 0
  Asked o = (g : ℕ → Core) → Models m.codes g → IsStepOf g k us.items found o

  family-is : (g : ℕ → Core) → IsSound g m here → (facts : Facts Core) (r : Ruling Core) → rule_of (op_of (g k)) (typed g) ≡ Some r → (d : ℕ)
      → rule_next (numbered g) (it g) (typed g) facts d ≡ by-rule g (reach facts r) d
  family-is g s facts r p d =
      ap (λ o. typings.given_form (rule_of o (typed g)) rule.NotResolved (λ r. by-rule g (reach facts r) d)) (node-op g (env g m.scope) k s.state.0)
      ∙ ap (λ z. typings.given_form z rule.NotResolved (λ r. by-rule g (reach facts r) d)) p

  rule-kind : (g : ℕ → Core) → IsSound g m here → (r : Ruling Core) → rule_of (op_of (g k)) (typed g) ≡ Some r → IsRuleOf (length (numbered g)) (so_far g r)
  rule-kind g s r p =
      reach-of (length (numbered g)) (facts_of g found)
      (λ j e q. let (c, h, w) = mapped-some g (normal_found found j) e q in along (IsOf (length (numbered g))) w (s.state.3 j c h).3)
      r (rule-of (length (numbered g)) (op_of (g k)) (typed g) r s.state.2 p)

  refused : (s : State) (number : ℕ) → IsRefusal number s
      → ((g : ℕ → Core) → Models m.codes g → IsSound g m here → (q : Rule) × (number ≡ rule_number q) × ((d : ℕ) → rule_next (numbered g) (it g) (typed g) (facts_of g found) d ≡ Fails q))
      → Advances m m here s u u
  refused s number (f, p, e, n) h =
      along (λ z. Advances m m here z u u) (sym p)
      (stays m here ready (states.Failed f) u u tt (λ g a b. tt)
      (λ g a b root w.
      let (q, i, r) = h g a b in (
        q,
        n ∙ i,
        along (λ z. Comes root (owed g) (Ill z q)) (sym (ap reverse e))
            (leads-fails (Comes root (owed g)) u (rule_next (numbered g) (it g) (typed g) (facts_of g found)) w.1 q r),
      )))

  -- ---- it ends

  module _ (c : ℕ) (asked : Asked (Some (steps.Takes c))) where
    takes-rule : (g : ℕ → Core) → Models m.codes g → (r : Ruling Core) × (rule_of (op_of (g k)) (typed g) ≡ Some r) × (so_far g r ≡ ruling.Takes (g c))
    takes-rule g a =
        let (r, p, e) = some-follows (course_of g) (follow (facts_of g found)) (steps.Takes c) (rule_of (op_of (g k)) (typed g)) (asked g a) in
        (r, p, takes-front (so_far g r) (g c) (front-reach (facts_of g found) r ∙ sym e))

    pub takes : c < count m.codes → Advances m m here (states.Typed c) u u
    takes there =
        stays m here ready (states.Typed c) u u there
        (λ g a s. let (r, p, e) = takes-rule g a in takes-of (length (numbered g)) (so_far g r) (g c) e (rule-kind g s r p))
        (λ g a s root w.
        let (r, p, e) = takes-rule g a in
        leads-gives (Comes root (owed g)) u (rule_next (numbered g) (it g) (typed g) (facts_of g found)) w.1 (g c)
        (λ d. family-is g s (facts_of g found) r p d ∙ ap (λ z. by-rule g z d) e))

  module _ (c : ℕ) (asked : Asked (Some (steps.Forms c))) where
    forms-rule : (g : ℕ → Core) → Models m.codes g → (r : Ruling Core) × (rule_of (op_of (g k)) (typed g) ≡ Some r) × (so_far g r ≡ ruling.Forms (g c))
    forms-rule g a =
        let (r, p, e) = some-follows (course_of g) (follow (facts_of g found)) (steps.Forms c) (rule_of (op_of (g k)) (typed g)) (asked g a) in
        (r, p, forms-front (so_far g r) (g c) (front-reach (facts_of g found) r ∙ sym e))

    forms-family : (g : ℕ → Core) → Models m.codes g → IsSound g m here → (d : ℕ) → rule_next (numbered g) (it g) (typed g) (facts_of g found) d ≡ FromNormal (g c) (λ f. Gives f)
    forms-family g a s d = let (r, p, e) = forms-rule g a in family-is g s (facts_of g found) r p d ∙ ap (λ z. by-rule g z d) e

    pub forms : (t l : ℕ) → t < count m.codes → ((g : ℕ → Core) → Models m.codes g → IsNormal u l (g c) (g t)) → Advances m m here (states.Typed t) u l
    forms t l there n =
        stays m here ready (states.Typed t) u l there
        (λ g a s.
        let (r, p, e) = forms-rule g a in
        let q = n g a in
        normal-of (length (numbered g)) (g c) (g t) (u + q.extra) l (forms-of (length (numbered g)) (so_far g r) (g c) e (rule-kind g s r p)) q.cost)
        (λ g a s root w.
        leads-gives (Comes root (owed g)) l (λ d. Gives (g t))
        (goes-normal root (owed g) (rule_next (numbered g) (it g) (typed g) (facts_of g found)) u l (g c) (g t) (λ f d. Gives f) (forms-family g a s) w.1 (n g a)) (g t) (λ d. refl))

    pub forms-halts : (h : NormFault) → ((g : ℕ → Core) → Models m.codes g → IsLicensedHalt u (g c) h) → Halts m here u h
    forms-halts h n g a root w =
        halts-normal root (owed g) (rule_next (numbered g) (it g) (typed g) (facts_of g found)) u (g c) (λ f d. Gives f) (forms-family g a (ready.sound g a)) w.1 h (n g a)

  pub refuses : (number : ℕ) → Asked (Some (steps.Refuses number)) → (s : State) → IsRefusal number s → Advances m m here s u u
  refuses number asked s i =
      refused s number i
      (λ g a b.
      let (r, p, e) = some-follows (course_of g) (follow (facts_of g found)) (steps.Refuses number) (rule_of (op_of (g k)) (typed g)) (asked g a) in
      let (q, h, j) = refuses-front (so_far g r) number (front-reach (facts_of g found) r ∙ sym e) in
      (q, j, λ d. family-is g b (facts_of g found) r p d ∙ ap (λ z. by-rule g z d) h))

  pub no-rule : Asked None → (s : State) → IsRefusal 56 s → Advances m m here s u u
  no-rule asked s i =
      refused s 56 i
      (λ g a b. (
        rule.NotResolved,
        refl,
        λ d.
            ap (λ o. typings.given_form (rule_of o (typed g)) rule.NotResolved (λ r. by-rule g (reach (facts_of g found) r) d)) (node-op g (env g m.scope) k b.state.0)
            ∙ ap (λ z. typings.given_form z rule.NotResolved (λ r. by-rule g (reach (facts_of g found) r) d))
            (none-follows (course_of g) (follow (facts_of g found)) None (rule_of (op_of (g k)) (typed g)) refl (asked g a)),
      ))

  -- ---- it wants a normal form

  module _ (j : ℕ) (asked : Asked (Some (steps.WantsNormal j))) where
    normal-rule : (g : ℕ → Core) → Models m.codes g → (r : Ruling Core) × (rule_of (op_of (g k)) (typed g) ≡ Some r) × (next : Core → Ruling Core) × (so_far g r ≡ ruling.WithNormal j next)
    normal-rule g a =
        let (r, p, e) = some-follows (course_of g) (follow (facts_of g found)) (steps.WantsNormal j) (rule_of (op_of (g k)) (typed g)) (asked g a) in
        let (next, q) = normal-front (so_far g r) j (front-reach (facts_of g found) r ∙ sym e) in
        (r, p, next, q)

    part-known : (g : ℕ → Core) (next : Core → Ruling Core) (e : Core) → slice_get (bodies_of (it g)) j ≡ Some e → (d : ℕ)
        → by-rule g (ruling.WithNormal j next) d ≡ FromNormal e (λ f. by-rule g (next f) d)
    part-known g next e q d = ap (λ z. typings.given_form z rule.NotResolved (λ e. FromNormal e (λ f. by-rule g (next f) d))) q

    pub no-part : ((g : ℕ → Core) → Models m.codes g → slice_get (bodies_of (it g)) j ≡ None) → (s : State) → IsRefusal 56 s → Advances m m here s u u
    no-part none s i =
        refused s 56 i
        (λ g a b.
        let (r, p, next, e) = normal-rule g a in (
          rule.NotResolved,
          refl,
          λ d.
              family-is g b (facts_of g found) r p d ∙ ap (λ z. by-rule g z d) e ∙ ap (λ z. typings.given_form z rule.NotResolved (λ e. FromNormal e (λ f. by-rule g (next f) d))) (none g a),
        ))

    module _ (part : (g : ℕ → Core) → Models m.codes g → (e : Core) × (slice_get (bodies_of (it g)) j ≡ Some e)) where
      normal-family : (g : ℕ → Core) → (a : Models m.codes g) → IsSound g m here → (r : Ruling Core) → rule_of (op_of (g k)) (typed g) ≡ Some r → (next : Core → Ruling Core)
          → so_far g r ≡ ruling.WithNormal j next → (d : ℕ) → rule_next (numbered g) (it g) (typed g) (facts_of g found) d ≡ FromNormal (part g a).0 (λ f. by-rule g (next f) d)
      normal-family g a s r p next e d =
          family-is g s (facts_of g found) r p d ∙ ap (λ z. by-rule g z d) e ∙ part-known g next (part g a).0 (part g a).1 d

      pub part-halts : (h : NormFault) → ((g : ℕ → Core) → (a : Models m.codes g) → IsLicensedHalt u (part g a).0 h) → Halts m here u h
      part-halts h n g a root w =
          let (r, p, next, e) = normal-rule g a in
          halts-normal root (owed g) (rule_next (numbered g) (it g) (typed g) (facts_of g found)) u (part g a).0 (λ f. by-rule g (next f))
          (normal-family g a (ready.sound g a) r p next e) w.1 h (n g a)

      module _ (c l : ℕ) (below : j < 3) (n : (g : ℕ → Core) → (a : Models m.codes g) → IsNormal u l (part g a).0 (g c))
          (of-part : (g : ℕ → Core) → (a : Models m.codes g) → IsSound g m here → IsOf (length (numbered g)) (part g a).0) where
        abbrev more : Found
        more = with_normal found j c

        normals-more : (g : ℕ → Core) → (a : Models m.codes g) → (s : IsSound g m here) → AreNormals g (numbered g) (bodies_of (it g)) more
        normals-more g a s =
            let q = n g a in
            normals-with g (numbered g) (bodies_of (it g)) found j c s.state.3
            ((part g a).0, (part g a).1, (u + q.extra, l, q.cost), normal-of (length (numbered g)) (part g a).0 (g c) (u + q.extra) l (of-part g a s) q.cost)

        reach-next : (g : ℕ → Core) → (r : Ruling Core) → (next : Core → Ruling Core) → so_far g r ≡ ruling.WithNormal j next
            → reach (facts_of g more) r ≡ reach (facts_of g more) (next (g c))
        reach-next g r next e =
            let unknown = asks-unknown_normal (facts_of g found) j r (ap front e) in
            sym (reach-more (facts_of g found) (facts_of g more) (normal-more g found j c unknown) r)
            ∙ ap (reach (facts_of g more)) e
            ∙ ap (λ o. reached (ruling.WithNormal j next) (option_map g o) (λ e. reach (facts_of g more) (next e))) (normal-itself found j c below)

        works-on : (g : ℕ → Core) → (a : Models m.codes g) → (s : IsSound g m here) → (root : Root) → AreUniverses (numbered g) (typed g) found
            → Goes root (owed g) (rule_next (numbered g) (it g) (typed g) (facts_of g found)) u
            → Goes root (owed g) (rule_next (numbered g) (it g) (typed g) (facts_of g more)) l
        works-on g a s root known w =
            let (r, p, next, e) = normal-rule g a in
            let found-next = goes-normal root (owed g) (rule_next (numbered g) (it g) (typed g) (facts_of g found)) u l (part g a).0 (g c) (λ f. by-rule g (next f))
            (normal-family g a s r p next e) w (n g a) in
            let after = settled-known (Comes root (owed g)) g (numbered g) (bodies_of (it g)) (typed g) more (normals-more g a s)
            (universes-with_normal (numbered g) (typed g) found j c known) (next (g c)) l found-next in
            goes-alike root (owed g) (by-rule g (reach (facts_of g more) (next (g c)))) (rule_next (numbered g) (it g) (typed g) (facts_of g more)) l
            (λ d. family-is g s (facts_of g more) r p d ∙ ap (λ z. by-rule g z d) (reach-next g r next e)) after

        pub part-found : c < count m.codes → Advances m m here (states.Rule k us more) u l
        part-found there =
            stays m here ready (states.Rule k us more) u l
            (ready.state.0, ready.state.1, below-with_normal (count m.codes) found j c there ready.state.2)
            (λ g a s. (s.state.0, s.state.1, s.state.2, normals-more g a s, s.state.4))
            (λ g a s root w. (universes-with_normal (numbered g) (typed g) found j c w.0, works-on g a s root w.0 w.1))

  -- ---- it wants a universe

  module _ (j : ℕ) (asked : Asked (Some (steps.WantsUniverse j))) where
    universe-rule : (g : ℕ → Core) → Models m.codes g
        → (r : Ruling Core) × (rule_of (op_of (g k)) (typed g) ≡ Some r) × (next : Option Builtin → Ruling Core) × (so_far g r ≡ ruling.WithUniverse j next)
    universe-rule g a =
        let (r, p, e) = some-follows (course_of g) (follow (facts_of g found)) (steps.WantsUniverse j) (rule_of (op_of (g k)) (typed g)) (asked g a) in
        let (next, q) = universe-front (so_far g r) j (front-reach (facts_of g found) r ∙ sym e) in
        (r, p, next, q)

    abbrev beside : (ℕ → Core) → (Option Builtin → Ruling Core) → Option Core → Family
    beside g next o = by-rule g (next (option_and_then as_universe o))

    pub no-type : slice_get us.items j ≡ None → (s : State) → IsRefusal 56 s → Advances m m here s u u
    no-type none s i =
        refused s 56 i
        (λ g a b.
        let (r, p, next, e) = universe-rule g a in (
          rule.NotResolved,
          refl,
          λ d.
              family-is g b (facts_of g found) r p d ∙ ap (λ z. by-rule g z d) e
              ∙ ap (λ z. typings.given_form z rule.NotResolved (λ t. Aside (typing_in (numbered g) d [] t) (λ u. beside g next u d))) (get-map g us.items j ∙ ap (option_map g) none),
        ))

    module _ (c : ℕ) (below : j < 2) (is : slice_get us.items j ≡ Some c) where
      universe-family : (g : ℕ → Core) → (s : IsSound g m here) → (r : Ruling Core) → rule_of (op_of (g k)) (typed g) ≡ Some r → (next : Option Builtin → Ruling Core)
          → so_far g r ≡ ruling.WithUniverse j next → (d : ℕ)
          → rule_next (numbered g) (it g) (typed g) (facts_of g found) d ≡ Aside (whole (numbered g) (g c) d) (λ o. beside g next o d)
      universe-family g s r p next e d =
          family-is g s (facts_of g found) r p d ∙ ap (λ z. by-rule g z d) e
          ∙ ap (λ z. typings.given_form z rule.NotResolved (λ t. Aside (typing_in (numbered g) d [] t) (λ u. beside g next u d))) (get-map g us.items j ∙ ap (option_map g) is)

      abbrev with : Option Builtin → Found
      with v = with_universe found j v

      reach-universe : (g : ℕ → Core) → (r : Ruling Core) → (next : Option Builtin → Ruling Core) → so_far g r ≡ ruling.WithUniverse j next → (v : Option Builtin)
          → reach (facts_of g (with v)) r ≡ reach (facts_of g (with v)) (next v)
      reach-universe g r next e v =
          let unknown = asks-unknown_universe (facts_of g found) j r (ap front e) in
          sym (reach-more (facts_of g found) (facts_of g (with v)) (universe-more g found j v unknown) r)
          ∙ ap (reach (facts_of g (with v))) e
          ∙ ap (λ o. reached (ruling.WithUniverse j next) o (λ w. reach (facts_of g (with v)) (next w))) (universe-itself found j v below)

      leads-on : (g : ℕ → Core) → (s : IsSound g m here) → (r : Ruling Core) → rule_of (op_of (g k)) (typed g) ≡ Some r → (next : Option Builtin → Ruling Core)
          → so_far g r ≡ ruling.WithUniverse j next → (root : Root) → (v : Option Builtin) → AreUniverses (numbered g) (typed g) (with v)
          → Leads (Comes root (owed g)) (by-rule g (next v)) u → Leads (Comes root (owed g)) (rule_next (numbered g) (it g) (typed g) (facts_of g (with v))) u
      leads-on g s r p next e root v known w =
          let after = settled-known (Comes root (owed g)) g (numbered g) (bodies_of (it g)) (typed g) (with v)
          (normals-with_universe g (numbered g) (bodies_of (it g)) found j v s.state.3) known (next v) u w in
          goes-alike root (owed g) (by-rule g (reach (facts_of g (with v)) (next v))) (rule_next (numbered g) (it g) (typed g) (facts_of g (with v))) u
          (λ d. family-is g s (facts_of g (with v)) r p d ∙ ap (λ z. by-rule g z d) (reach-universe g r next e v)) after

      type-at : (g : ℕ → Core) → slice_get (typed g) j ≡ Some (g c)
      type-at g = get-map g us.items j ∙ ap (option_map g) is

      goes-beside : (g : ℕ → Core) → (a : Models m.codes g) → (s : IsSound g m here) → (root : Root) → AreUniverses (numbered g) (typed g) found
          → Goes root (owed g) (rule_next (numbered g) (it g) (typed g) (facts_of g found)) u
          → Goes root (Beside u (whole (numbered g) (g c)) (numbered g) (typed g) found (universe_next g (numbered g) (it g) j (typed g) found) ∷ owed g) (whole (numbered g) (g c)) purse_aside
      goes-beside g a s root known w answer meets =
          let (r, p, next, e) = universe-rule g a in
          beside-more (Comes root (owed g)) u (whole (numbered g) (g c)) (numbered g) (typed g) found (beside g next) (universe_next g (numbered g) (it g) j (typed g) found)
          (λ known t h l. leads-on g s r p next e root (as_universe t)
          (universes-with (numbered g) (typed g) found j (as_universe t) known (g c, type-at g, inl (t, h, refl))) l)
          (λ known h l. leads-on g s r p next e root None
          (universes-with (numbered g) (typed g) found j None known (g c, type-at g, inr (h, refl))) l)
          answer
          (leads-aside (Comes root (owed g)) u (rule_next (numbered g) (it g) (typed g) (facts_of g found)) w (whole (numbered g) (g c)) (beside g next)
          (universe-family g s r p next e) (numbered g) (typed g) found known answer meets)

      pub asks-type : Advances m (with_frame (frames.Universe k j us found u) m) here (states.Type c) u purse_aside
      asks-type =
          pushes m here ready (frames.Universe k j us found u) c u purse_aside refl refl (ready.state.0, ready.state.1, ready.state.2)
          (get-there (count m.codes) us.items ready.state.1 j c is)
          (λ g a s.
          let o = all-get (length (numbered g)) (typed g) s.state.2 j (g c) (type-at g) in (
            (s.state.0, s.state.1, s.state.2, get-below us.items j c is, s.state.3, s.state.4),
            along (IsOf (length (numbered g))) (sym (of-sub (length (numbered g)) (env g m.scope) (g c) o)) o,
          ))
          (λ g a s root w.
          let o = all-get (length (numbered g)) (typed g) s.state.2 j (g c) (type-at g) in
          along (λ z. Goes root (Beside u (whole (numbered g) z) (numbered g) (typed g) found (universe_next g (numbered g) (it g) j (typed g) found) ∷ owed g) (whole (numbered g) (in_scope g m.scope c)) purse_aside)
          (sym (index-map g us.items j c is))
          (along (λ z. Goes root (Beside u (whole (numbered g) (g c)) (numbered g) (typed g) found (universe_next g (numbered g) (it g) j (typed g) found) ∷ owed g) (whole (numbered g) z) purse_aside)
          (sym (of-sub (length (numbered g)) (env g m.scope) (g c) o)) (goes-beside g a s root w.0 w.1)))

-- ---- a universe is found

module _ (m : Typer) (k j : ℕ) (us : Vec ℕ Global) (found : Found) (left u : ℕ) (s : State) (ready : IsReady (with_frame (frames.Universe k j us found left) m) s) where
  by-universe : (v : Option Builtin)
      → ((g : ℕ → Core) → Models m.codes g → IsSound g (with_frame (frames.Universe k j us found left) m) s → (root : Root)
      → IsOwed root (debt_of g m.scope m.levels (frames.Universe k j us found left) ∷ debts g m.scope m.levels m.frames) g m.scope m.levels s u
      → AreUniverses (map g m.levels) (map g us.items) (with_universe found j v)
      × Goes root (debts g m.scope m.levels m.frames) (rule_next (map g m.levels) (in_scope g m.scope k) (map g us.items) (facts_of g (with_universe found j v))) left)
      → Advances (with_frame (frames.Universe k j us found left) m) m s (states.Rule k us (with_universe found j v)) u left
  by-universe v works =
      returns m (frames.Universe k j us found left) s refl refl ready (states.Rule k us (with_universe found j v)) u left
      (ready.frames.0.0, ready.frames.0.1, below-with_universe (count m.codes) found j v ready.frames.0.2)
      (λ g a q. (q.frames.0.0, q.frames.0.1, q.frames.0.2, normals-with_universe g (map g m.levels) (bodies_of (in_scope g m.scope k)) found j v q.frames.0.4, q.frames.0.5))
      works

  type-there : (g : ℕ → Core) → IsSound g (with_frame (frames.Universe k j us found left) m) s → slice_get (map g us.items) j ≡ Some (slice_index_or (map g us.items) j nothing)
  type-there g q = index-get (map g us.items) j (along (λ n. j < n) (sym (map-length g us.items)) q.frames.0.3)

pub universe-typed : (m : Typer) (k j : ℕ) (us : Vec ℕ Global) (found : Found) (left u t : ℕ) → IsReady (with_frame (frames.Universe k j us found left) m) (states.Typed t)
    → (v : Option Builtin) → ((g : ℕ → Core) → Models m.codes g → as_universe (g t) ≡ v)
    → Advances (with_frame (frames.Universe k j us found left) m) m (states.Typed t) (states.Rule k us (with_universe found j v)) u left
universe-typed m k j us found left u t ready v is =
    by-universe m k j us found left u (states.Typed t) ready v
    (λ g a q root w. (
      universes-with (map g m.levels) (map g us.items) found j v w.0 (slice_index_or (map g us.items) j nothing, type-there m k j us found left u (states.Typed t) ready g q, inl (g t, w.1, is g a)),
      along (λ z. Goes root (debts g m.scope m.levels m.frames) (rule_next (map g m.levels) (in_scope g m.scope k) (map g us.items) (facts_of g (with_universe found j z))) left) (is g a) w.2,
    ))

pub universe-none : (m : Typer) (k j : ℕ) (us : Vec ℕ Global) (found : Found) (left u : ℕ) (f : Failure) → IsReady (with_frame (frames.Universe k j us found left) m) (states.Failed f)
    → Advances (with_frame (frames.Universe k j us found left) m) m (states.Failed f) (states.Rule k us (with_universe found j None)) u left
universe-none m k j us found left u f ready =
    by-universe m k j us found left u (states.Failed f) ready None
    (λ g a q root w.
    let (known, h, l) = w.2 in
    (universes-with (map g m.levels) (map g us.items) found j None known (slice_index_or (map g us.items) j nothing, type-there m k j us found left u (states.Failed f) ready g q, inr (h, refl)), l))
