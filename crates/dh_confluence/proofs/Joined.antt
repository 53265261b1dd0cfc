-- The ends of two lists of steps from one expression are brought together by further steps.
use Rattle.std.specs.Prelude.{◌≡◌, ℕ, zero, suc, true, List, [], ◌∷◌, ◌++◌, map, Option, Some, None, option_map, refl}
use Rattle.std.proofs.Common.{ap, sym, ◌∙◌, inl, inr, subst as along}
use Rattle.dh_syntax.specs.declared.expressions.Op.{Op}
use Rattle.dh_syntax.specs.Expressions.Rows.{◌+++◌, row_length}
use Rattle.dh_syntax.specs.Expressions.Tree.{Tree, Row, Leaf, Node, end, kid, Term}
use Rattle.dh_syntax.specs.Names.Nameless.{Ref, going_nameless, to_core, Core}
use Rattle.dh_syntax.specs.Normalising.Named.{binders, names, put}
use Rattle.dh_syntax.specs.Normalising.Steps.{ReachesBy, Reaches, in_fragment}
use Rattle.dh_syntax.proofs.Rows.{+++_assoc}
use Rattle.dh_laws.proofs.Names.Cores.{core_below-one_to_one}
use Rattle.dh_confluence.specs.FragmentSteps.{step_at, step_part}
use Rattle.dh_confluence.specs.OrderLaws.{Confluence}
use Rattle.dh_confluence.proofs.RowsRelated.{map-some}
use Rattle.dh_confluence.proofs.ReductsMoved.{step_at-moved, put_first}
use Rattle.dh_confluence.proofs.ManySteps.{Parallel, ParallelRow}
use Rattle.dh_confluence.proofs.Confluent.{Chain, confluent}
use Rattle.dh_confluence.proofs.FragmentPlaces.{given-steps}
use Rattle.dh_confluence.proofs.FragmentKept.{put-in_fragment, step-in_fragment}
use Rattle.dh_confluence.proofs.OneEnd.{puts-core, chained, reached-in_fragment}

module _ {A B : Type 0} (put : B → Tree A B → Tree A B → Tree A B) where
  -- steps at these places, one after another, lead from d to e
  abbrev pub LeadsBy : List (List ℕ) → Tree A B → Tree A B → Type 0
  LeadsBy [] d e = d ≡ e
  LeadsBy (place ∷ places) d e = (g : Tree A B) × (step_at put place d ≡ Some g) × LeadsBy places g e

  abbrev pub Leads : Tree A B → Tree A B → Type 0
  Leads d e = (places : List (List ℕ)) × LeadsBy places d e

  then-by : (ps qs : List (List ℕ)) (d e f : Tree A B) → LeadsBy ps d e → LeadsBy qs e f → LeadsBy (ps ++ qs) d f
  then-by [] qs d e f h k = along (λ z. LeadsBy qs z f) (sym h) k
  then-by (p ∷ ps) qs d e f (g, s, h) k = (g, s, then-by ps qs g e f h k)

  go-on : (d e f : Tree A B) → Leads d e → Leads e f → Leads d f
  go-on d e f (ps, h) (qs, k) = (ps ++ qs, then-by ps qs d e f h k)

  map-twice : {X Y Z : Type 0} (f : Y → Z) (g : X → Y) (h : X → Z) → ((x : X) → f (g x) ≡ h x) → (o : Option X) → option_map f (option_map g o) ≡ option_map h o
  map-twice f g h k None = refl
  map-twice f g h k (Some x) = ap Some (k x)

  -- a step in a part behind others
  slot : (place : List ℕ) (pre : Row A B) (b : Option B) (d : Tree A B) (r : Row A B)
      → step_part put (row_length pre) place (pre +++ kid b d r) ≡ option_map (λ g. pre +++ kid b g r) (step_at put place d)
  slot place end b d r = refl
  slot place (kid c e pre) b d r =
      ap (option_map (λ s. kid c e s)) (slot place pre b d r)
      ∙ map-twice (λ s. kid c e s) (λ g. pre +++ kid b g r) (λ g. kid c e (pre +++ kid b g r)) (λ g. refl) (step_at put place d)

  slot-by : (op : Op) (pre : Row A B) (b : Option B) (r : Row A B) (ps : List (List ℕ)) (d e : Tree A B) → LeadsBy ps d e
      → LeadsBy (map (λ p. row_length pre ∷ p) ps) (Node op (pre +++ kid b d r)) (Node op (pre +++ kid b e r))
  slot-by op pre b r [] d e h = ap (λ z. Node op (pre +++ kid b z r)) h
  slot-by op pre b r (p ∷ ps) d e (g, s, h) = (
    Node op (pre +++ kid b g r),
    ap (option_map (λ t. Node op t)) (slot p pre b d r ∙ ap (option_map (λ z. pre +++ kid b z r)) s),
    slot-by op pre b r ps g e h,
  )

  slot-leads : (op : Op) (pre : Row A B) (b : Option B) (r : Row A B) (d e : Tree A B) → Leads d e → Leads (Node op (pre +++ kid b d r)) (Node op (pre +++ kid b e r))
  slot-leads op pre b r d e (ps, h) = (map (λ p. row_length pre ∷ p) ps, slot-by op pre b r ps d e h)

-- ---- a step at many places is a list of steps

module _ {B : Type 0} where
  mutual
    parallel-leads : (d e : Tree Ref B) → Parallel d e → Leads put_first d e
    parallel-leads (Leaf v) e p = ([], sym p)
    parallel-leads (Node op r) e (s, k, inl p) = along (λ z. Leads put_first (Node op r) z) (sym p) (row-leads op end r s k)
    parallel-leads (Node op r) e (s, k, inr (c, p, q)) = go-on put_first (Node op r) (Node op s) e (row-leads op end r s k) ([] ∷ [], (e, q, refl))

    row-leads : (op : Op) (pre r s : Row Ref B) → ParallelRow r s → Leads put_first (Node op (pre +++ r)) (Node op (pre +++ s))
    row-leads op pre end s p = ([], ap (λ z. Node op (pre +++ z)) (sym p))
    row-leads op pre (kid b d r) s (e, t, h, k, p) =
        along (λ z. Leads put_first (Node op (pre +++ kid b d r)) (Node op (pre +++ z))) (sym p)
        (go-on put_first (Node op (pre +++ kid b d r)) (Node op (pre +++ kid b e r)) (Node op (pre +++ kid b e t))
        (slot-leads put_first op pre b r d e (parallel-leads d e h))
        (along (λ z. Leads put_first (Node op z) (Node op (pre +++ kid b e t))) (+++_assoc pre (kid b e end) r)
        (along (λ z. Leads put_first (Node op ((pre +++ kid b e end) +++ r)) (Node op z)) (+++_assoc pre (kid b e end) t)
        (row-leads op (pre +++ kid b e end) r t k))))

  chain-leads : (n : ℕ) (d e : Tree Ref B) → Chain n d e → Leads put_first d e
  chain-leads zero d e p = ([], sym p)
  chain-leads (suc n) d e (g, h, c) = go-on put_first d g e (parallel-leads d g h) (chain-leads n g e c)

-- ---- by names

abbrev Named : List (List ℕ) → Term → Core → Type 0
Named places e c = (f : Term) × (to_core f ≡ c) × LeadsBy put places e f

named-leads : (places : List (List ℕ)) (e : Term) (c : Core) → LeadsBy put_first places (to_core e) c → Named places e c
named-leads [] e c p = (e, p, refl)
named-leads (place ∷ places) e c (g, s, h) =
    map-some to_core (step_at put place e) g (sym (step_at-moved going_nameless put put_first puts-core [] place e) ∙ s) λ d q w.
    let (f, u, v) = named-leads places d c (along (λ z. LeadsBy put_first places z c) (sym w) h) in
    (f, u, (d, q, v))

leads-reach : (places : List (List ℕ)) (e f : Term) → in_fragment e ≡ true → LeadsBy put places e f → ReachesBy names places e f
leads-reach [] e f h p = p
leads-reach (place ∷ places) e f h (d, s, k) =
    (d, given-steps binders names.same names.too_deep place e d h s, leads-reach places d f (step-in_fragment put put-in_fragment place e d h s) k)

pub confluence : Confluence
confluence e f g h (ps, r) (qs, t) =
    let (m, c) = chained ps e f h r in
    let (n, d) = chained qs e g h t in
    let (j, u, v) = confluent m n (to_core e) (to_core f) (to_core g) c d in
    let (us, a) = chain-leads n (to_core f) j u in
    let (vs, b) = chain-leads m (to_core g) j v in
    let (k, p, x) = named-leads us f j a in
    let (l, q, y) = named-leads vs g j b in (
      k,
      (us, leads-reach us f k (reached-in_fragment ps e f h r) x),
      along (λ z. Reaches names g z) (core_below-one_to_one [] l k (q ∙ sym p)) (vs, leads-reach vs g l (reached-in_fragment qs e g h t) y),
    )
