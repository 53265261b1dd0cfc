-- How each question of an inference is answered by the machine: what the answer leads to.
use Rattle.std.specs.Prelude.{◌≡◌, ◌⊎◌, ◌+◌, ℕ, suc, List, [], ◌∷◌, length, Option, Some, None, refl}
use Rattle.std.proofs.Common.{ap, sym, ◌∙◌, arith, inl, inr, subst as along}
use Rattle.dh_syntax.specs.Expressions.Nesting.{nesting}
use Rattle.dh_syntax.specs.Expressions.Tree.{Leaf, Name}
use Rattle.dh_syntax.specs.Limits.{purse_aside}
use Rattle.dh_syntax.specs.Names.Nameless.{Core, sub, first}
use Rattle.dh_syntax.specs.Normalising.Heads.{Whole, Found, Over, run}
use Rattle.dh_syntax.specs.Normalising.NamelessRuns.{cores}
use Rattle.dh_syntax.specs.Normalising.Normal.{endless, Normalises, HasNormalForm, IsWideLicensed, IsDeepLicensed}
use Rattle.dh_syntax.specs.Typing.Inference.{Gives, Fails, FromNormal, FromPart, Aside, Instead, Judgment, Has, Ill, IsWide, IsDeep, IsOver, IsOverAside, IsShallow, after_part, after_aside, instead, judged_within, ComesTo, IsRefused}
use Rattle.dh_syntax.specs.Typing.NamelessTyping.{core_scopes}
use Rattle.dh_syntax.specs.Typing.Scopes.{enter}
use Rattle.dh_syntax.specs.Typing.TypeRules.{Rule}
use Rattle.dh_norm.specs.References.{opened}
use Rattle.dh_laws.specs.Runs.{IsWithMore}
use Rattle.dh_laws.proofs.Normalising.RunCosts.{whole_cost_of_run}
use Rattle.dh_laws.proofs.Normalising.RunLimits.{more_units}
use Rattle.dh_types.specs.declared.steps.Found.{Found as Known}
use Rattle.dh_typing_laws.proofs.Judging.JudgmentsCost.{cost-of}
use Rattle.dh_typing_laws.proofs.Judging.JudgmentsLag.{kept-lag, normal-lag, part-lag, aside_type-lag, aside_refused-lag, after_normal-lag, after_part-lag, after_aside-lag, instead-lag}
use Rattle.dh_infer.specs.Inside.Debts.{Family, whole, Lags, Meets, HasFound, IsWithoutType, AreUniverses, Debt, Part, Beside, Replaced, Used, Leads, through, Root, Comes}
use Rattle.dh_types.specs.Binding.{bound_in}
use Rattle.dh_infer.specs.Inside.Levels.{IsOf, IsOfBelow, AreOf, entering}
use Rattle.dh_infer.specs.Inside.OpenTyping.{level, typing_in}
use Rattle.dh_infer.proofs.Closing.{bound-opened}
use Rattle.dh_infer.proofs.RenamedJudgments.{types-of, types-of_below, grown-type, shrunk-type, opened_lag}

abbrev wide : Core → Type 0
wide = IsWideLicensed cores nesting

abbrev deep : Core → Type 0
deep = IsDeepLicensed cores nesting

-- ---- depths

assoc : (a b c : ℕ) → a + (b + c) ≡ (a + c) + b
assoc a b c = omega arith

assoc-two : (a b c : ℕ) → a + (b + c) ≡ (a + b) + c
assoc-two a b c = omega arith

plus-comm : (a b : ℕ) → a + b ≡ b + a
plus-comm a b = omega arith

next-depth : (a b : ℕ) → suc (a + b) ≡ a + suc b
next-depth a b = omega arith

-- what is met at the depths behind the first is met
pub meets-next : (units : ℕ) (family : Family) (answer : Judgment Core) → Meets units (λ d. family (suc d)) answer → Meets units family answer
meets-next units family answer (enough, m) = (suc enough, λ more. along (λ z. Lags units (family z) answer) (next-depth more enough) (m more))

-- ---- answers

has-alone : (t v : Core) (l : ℕ) → t ≡ v → Has v l ≡ Has t l
has-alone t v l p = ap (λ z. Has z l) (sym p)

pub meets-found : (units left : ℕ) (family : Family) (t : Core) → Meets units family (Has t left) → HasFound family t
meets-found units left family t (enough, m) = (enough, λ more. by more (m more))
  where
    by : (more : ℕ) → Lags units (family (more + enough)) (Has t left) → (n : ℕ) × ComesTo cores n (family (more + enough)) (Has t 0)
    by more (v, p, extra, (h, q, r)) =
        let (n, a, b) = cost-of cores h q (units + extra) left v (family (more + enough)) r in (n, along (λ z. ComesTo cores n (family (more + enough)) (Has z 0)) (sym p) b)

pub meets-refused : (units : ℕ) (family : Family) (path : List ℕ) (rule : Rule) → Meets units family (Ill path rule) → IsWithoutType family
meets-refused units family path rule (enough, m) = (enough, λ more. (path, rule, m more))

pub found-meets : (units : ℕ) (family : Family) (t : Core) → HasFound family t → Meets units family (Has t units)
found-meets units family t (enough, m) =
    (enough, λ more. let (n, r) = m more in kept-lag cores wide deep purse_aside (λ z. z) units n (family (more + enough)) t r)

module _ (comes : Judgment Core → Type 0) (units : ℕ) (family : Family) (leads : Leads comes family units) where
  -- ---- the end of an inference

  pub leads-next : Leads comes (λ d. family (suc d)) units
  leads-next answer m = leads answer (meets-next units family answer m)

  pub leads-gives : (t : Core) → ((d : ℕ) → family d ≡ Gives t) → comes (Has t units)
  leads-gives t h =
      leads (Has t units) (0, λ more. (t, refl, 0, (0, 0, ap (λ z. judged_within cores 0 0 (units + 0) z) (h (more + 0)) ∙ ap (Has t) (omega arith))))

  pub leads-fails : (rule : Rule) → ((d : ℕ) → family d ≡ Fails rule) → comes (Ill [] rule)
  leads-fails rule h =
      leads (Ill [] rule) (0, λ more. (0, (0, 0, ap (λ z. judged_within cores 0 0 0 z) (h (more + 0)))))

  pub leads-found : (t : Core) → HasFound family t → comes (Has t units)
  leads-found t h = leads (Has t units) (found-meets units family t h)

  -- ---- a normal form

  module _ (e : Core) (next : Core → Family) (h : (d : ℕ) → family d ≡ FromNormal e (λ f. next f d)) where
    pub leads-normal : (extra left : ℕ) (f : Core) → Normalises cores (units + extra) e (Found f left) → Leads comes (next f) left
    leads-normal extra left f r answer (enough, m) =
        leads answer (
          enough,
          λ more.
              along (λ z. Lags units z answer) (sym (h (more + enough)))
              (normal-lag cores wide deep purse_aside (λ z. z) units extra left e f (λ g. next g (more + enough)) r answer (m more)),
        )

    -- one that is known costs nothing
    pub leads-known : (f : Core) → HasNormalForm cores e f → Leads comes (next f) units
    leads-known f (u, l, n) =
        let (c, w, p) = whole_cost_of_run cores u l e f n in
        leads-normal c units f (let (h, r) = w in (
          h,
          along (λ z. run (endless cores) h Whole z e ≡ Found f units) (plus-comm c units)
              (along (λ z. IsWithMore units z (run (endless cores) h Whole (c + units) e)) r (more_units (endless cores) h Whole c units e) ∙ ap (Found f) (omega arith)),
        ))

    pub leads-wide : wide e → comes IsWide
    leads-wide w = leads IsWide (0, λ more. along (λ z. Lags units z IsWide) (sym (h (more + 0))) (inl w))

    pub leads-deep : deep e → comes IsDeep
    leads-deep w = leads IsDeep (0, λ more. along (λ z. Lags units z IsDeep) (sym (h (more + 0))) (inl w))

    pub leads-over : Normalises cores units e Over → comes IsOver
    leads-over r =
        leads IsOver (
          0,
          λ more.
              along (λ z. Lags units z IsOver) (sym (h (more + 0)))
              (after_normal-lag cores wide deep purse_aside (λ z. z) units e (λ f. next f (more + 0)) Over (λ t l. IsShallow) r (λ v l. tt)),
        )

  -- ---- a part

  module _ (k : ℕ) (part : Family) (next : Core → Family) (h : (d : ℕ) → family d ≡ FromPart k (part d) (λ t. next t d)) where
    meets-part : (t : Core) (left : ℕ) (answer : Judgment Core) → Meets units part (Has t left) → Meets left (next t) answer → Meets units family answer
    meets-part t left answer (n, a) (m, b) = (n + m, λ more. by more (a (more + m)) (b (more + n)))
      where
        by : (more : ℕ) → Lags units (part ((more + m) + n)) (Has t left) → Lags left (next t ((more + n) + m)) answer → Lags units (family (more + (n + m))) answer
        by more (v, p, extra, r) q =
            let r' = along (λ z. ComesTo cores (units + extra) (part z) (Has v left)) (sym (assoc more n m)) r in
            let q' = along (λ z. Lags left (next z (more + (n + m))) answer) p (along (λ z. Lags left (next t z) answer) (sym (assoc-two more n m)) q) in
            along (λ z. Lags units z answer) (sym (h (more + (n + m))))
            (part-lag cores wide deep purse_aside (λ z. z) units extra left k (part (more + (n + m))) v (λ z. next z (more + (n + m))) r' answer q')

    -- what follows where it has no type
    past-part : (answer : Judgment Core) (n : ℕ) → ((more : ℕ) → Lags units (part (more + n)) answer) → (more : ℕ)
        → Lags units (family (more + n)) (after_part k answer (λ t l. IsShallow))
    past-part answer n a more =
        along (λ z. Lags units z (after_part k answer (λ t l. IsShallow))) (sym (h (more + n)))
        (after_part-lag cores wide deep purse_aside (λ z. z) (λ z. z) units k (part (more + n)) (λ t. next t (more + n)) answer (λ t l. IsShallow) (a more) (λ v l. tt))

    pub leads-part : Leads (through (Part k next) comes) part units
    leads-part (Has t left) m = λ answer n. leads answer (meets-part t left answer m n)
    leads-part (Ill path rule) (n, m) = leads (Ill (k ∷ path) rule) (n, past-part (Ill path rule) n m)
    leads-part IsWide (n, m) = leads IsWide (n, past-part IsWide n m)
    leads-part IsDeep (n, m) = leads IsDeep (n, past-part IsDeep n m)
    leads-part IsOver (n, m) = leads IsOver (n, past-part IsOver n m)
    leads-part IsOverAside (n, m) = leads IsOverAside (n, past-part IsOverAside n m)
    leads-part IsShallow (n, m) = leads IsShallow (n, past-part IsShallow n m)

  -- ---- a type aside

  module _ (aside : Family) (next : Option Core → Family) (h : (d : ℕ) → family d ≡ Aside (aside d) (λ o. next o d)) where
    meets-aside_type : (t : Core) (left : ℕ) (answer : Judgment Core) → Meets purse_aside aside (Has t left) → Meets units (next (Some t)) answer → Meets units family answer
    meets-aside_type t left answer (n, a) (m, b) = (n + m, λ more. by more (a (more + m)) (b (more + n)))
      where
        by : (more : ℕ) → Lags purse_aside (aside ((more + m) + n)) (Has t left) → Lags units (next (Some t) ((more + n) + m)) answer → Lags units (family (more + (n + m))) answer
        by more (v, p, extra, r) q =
            let r' = along (λ z. ComesTo cores (purse_aside + extra) (aside z) (Has v left)) (sym (assoc more n m)) r in
            let q' = along (λ z. Lags units (next (Some z) (more + (n + m))) answer) p (along (λ z. Lags units (next (Some t) z) answer) (sym (assoc-two more n m)) q) in
            along (λ z. Lags units z answer) (sym (h (more + (n + m))))
            (aside_type-lag cores wide deep purse_aside (λ z. z) units (purse_aside + extra) left (aside (more + (n + m))) v (λ o. next o (more + (n + m))) r' answer q')

    meets-aside_refused : (path : List ℕ) (rule : Rule) (answer : Judgment Core) → Meets purse_aside aside (Ill path rule) → Meets units (next None) answer → Meets units family answer
    meets-aside_refused path rule answer (n, a) (m, b) = (n + m, λ more. by more (a (more + m)) (b (more + n)))
      where
        by : (more : ℕ) → Lags purse_aside (aside ((more + m) + n)) (Ill path rule) → Lags units (next None ((more + n) + m)) answer → Lags units (family (more + (n + m))) answer
        by more (c, r) q =
            let r' = along (λ z. ComesTo cores c (aside z) (Ill path rule)) (sym (assoc more n m)) r in
            let q' = along (λ z. Lags units (next None z) answer) (sym (assoc-two more n m)) q in
            along (λ z. Lags units z answer) (sym (h (more + (n + m))))
            (aside_refused-lag cores wide deep purse_aside (λ z. z) units c (aside (more + (n + m))) path rule (λ o. next o (more + (n + m))) r' answer q')

    -- what is known of it leads on at once
    pub leads-aside_type : (t : Core) → HasFound aside t → Leads comes (next (Some t)) units
    leads-aside_type t h answer n = leads answer (meets-aside_type t purse_aside answer (found-meets purse_aside aside t h) n)

    pub leads-aside_none : IsWithoutType aside → Leads comes (next None) units
    leads-aside_none (n, a) answer (m, b) = leads answer (n + m, λ more. by more (a (more + m)) (b (more + n)))
      where
        by : (more : ℕ) → (path : List ℕ) × (rule : Rule) × IsRefused cores (aside ((more + m) + n)) path rule → Lags units (next None ((more + n) + m)) answer → Lags units (family (more + (n + m))) answer
        by more (path, rule, w) q =
            let (c, r) = w in
            let r' = along (λ z. ComesTo cores c (aside z) (Ill path rule)) (sym (assoc more n m)) r in
            let q' = along (λ z. Lags units (next None z) answer) (sym (assoc-two more n m)) q in
            along (λ z. Lags units z answer) (sym (h (more + (n + m))))
            (aside_refused-lag cores wide deep purse_aside (λ z. z) units c (aside (more + (n + m))) path rule (λ o. next o (more + (n + m))) r' answer q')

    past-aside : (answer : Judgment Core) (n : ℕ) → ((more : ℕ) → Lags purse_aside (aside (more + n)) answer) → (more : ℕ)
        → Lags units (family (more + n)) (after_aside answer (λ o. IsShallow))
    past-aside answer n a more =
        along (λ z. Lags units z (after_aside answer (λ o. IsShallow))) (sym (h (more + n)))
        (after_aside-lag cores wide deep purse_aside (λ z. z) units (aside (more + n)) (λ o. next o (more + n)) answer (λ o. IsShallow) (a more) (λ o. tt))

    pub leads-aside : (ts us : List Core) (found : Known) → AreUniverses ts us found → Leads (through (Beside units aside ts us found next) comes) aside purse_aside
    leads-aside ts us found k (Has t left) m = (k, meets-found purse_aside left aside t m, λ answer n. leads answer (meets-aside_type t left answer m n))
    leads-aside ts us found k (Ill path rule) m = (k, meets-refused purse_aside aside path rule m, λ answer n. leads answer (meets-aside_refused path rule answer m n))
    leads-aside ts us found k IsWide (n, m) = leads IsWide (n, past-aside IsWide n m)
    leads-aside ts us found k IsDeep (n, m) = leads IsDeep (n, past-aside IsDeep n m)
    leads-aside ts us found k IsOver (n, m) = leads IsOverAside (n, past-aside IsOver n m)
    leads-aside ts us found k IsOverAside (n, m) = leads IsOverAside (n, past-aside IsOverAside n m)
    leads-aside ts us found k IsShallow (n, m) = leads IsShallow (n, past-aside IsShallow n m)

  -- ---- another expression

  module _ (other : Family) (rule : Rule) (h : (d : ℕ) → family d ≡ Instead (other d) rule) where
    past-other : (answer : Judgment Core) → Meets units other answer → Meets units family (instead answer rule)
    past-other answer (n, m) = (
      n,
      λ more.
          along (λ z. Lags units z (instead answer rule)) (sym (h (more + n)))
          (instead-lag cores wide deep purse_aside (λ z. z) units (other (more + n)) rule answer (m more)),
    )

    pub leads-other : Leads (through (Replaced rule) comes) other units
    leads-other (Has t left) m = leads (Has t left) (past-other (Has t left) m)
    leads-other (Ill path q) m = leads (Ill [] rule) (past-other (Ill path q) m)
    leads-other IsWide m = leads IsWide (past-other IsWide m)
    leads-other IsDeep m = leads IsDeep (past-other IsDeep m)
    leads-other IsOver m = leads IsOver (past-other IsOver m)
    leads-other IsOverAside m = leads IsOverAside (past-other IsOverAside m)
    leads-other IsShallow m = leads IsShallow (past-other IsShallow m)

  -- ---- a value

  pub leads-used : Leads (through (Used family) comes) family units
  leads-used answer m = ((units, m), leads answer m)

-- ---- the body of a binder, which is typed where its variable has a number

module _ (comes : Judgment Core → Type 0) (units : ℕ) (family : Family) (leads : Leads comes family units) (ts : List Core) (a : AreOf ts) (x : Name) (u : Core) (k : IsOf (length ts) u)
    (b : Core) (below : IsOfBelow (length ts) b) (n : ℕ) (next : Core → Family) (h : (d : ℕ) → family d ≡ FromPart n (typing_in ts d (enter core_scopes x u []) b) (λ t. next t d)) where
  abbrev body : Family
  body = whole (u ∷ ts) (sub (first (Leaf (level (length ts)))) b)

  abbrev after : Core → Family
  after t = next (bound_in (length ts) t)

  meets-body : (t : Core) (left : ℕ) (answer : Judgment Core) → Meets units body (Has t left) → Meets left (after t) answer → Meets units family answer
  meets-body t left answer (p, m) (q, w) = (p + q, λ more. by more (m (more + q)) (w (more + p)))
    where
      by : (more : ℕ) → Lags units (body ((more + q) + p)) (Has t left) → Lags left (after t ((more + p) + q)) answer → Lags units (family (more + (p + q))) answer
      by more l r =
          let d = more + (p + q) in
          let l' = along (λ z. Lags units (body z) (Has t left)) (sym (assoc more p q)) l in
          let (v, e, extra, c) = opened_lag ts a x u k d b below units (Has t left) l' in
          let back = ap (bound_in (length ts)) e ∙ bound-opened (length ts) v (types-of_below ts a x u k d b below (units + extra) left v c) in
          let r' = along (λ z. Lags left (next z d) answer) back (along (λ z. Lags left (after t z) answer) (sym (assoc-two more p q)) r) in
          along (λ z. Lags units z answer) (sym (h d))
          (part-lag cores wide deep purse_aside (λ z. z) units extra left n (typing_in ts d (enter core_scopes x u []) b) v (λ z. next z d) c answer r')

  past-body : (answer : Judgment Core) (enough : ℕ) → ((more : ℕ) → Lags units (body (more + enough)) answer) → (more : ℕ) → Lags units (family (more + enough)) (after_part n answer (λ t l. IsShallow))
  past-body answer enough m more =
      along (λ z. Lags units z (after_part n answer (λ t l. IsShallow))) (sym (h (more + enough)))
      (after_part-lag cores wide deep purse_aside (λ z. z) (opened (entering (length ts))) units n (typing_in ts (more + enough) (enter core_scopes x u []) b) (λ t. next t (more + enough)) answer (λ t l. IsShallow)
      (opened_lag ts a x u k (more + enough) b below units answer (m more)) (λ v l. tt))

  pub leads-body : Leads (through (Part n after) comes) body units
  leads-body (Has t left) m = λ answer w. leads answer (meets-body t left answer m w)
  leads-body (Ill path rule) (e, m) = leads (Ill (n ∷ path) rule) (e, past-body (Ill path rule) e m)
  leads-body IsWide (e, m) = leads IsWide (e, past-body IsWide e m)
  leads-body IsDeep (e, m) = leads IsDeep (e, past-body IsDeep e m)
  leads-body IsOver (e, m) = leads IsOver (e, past-body IsOver e m)
  leads-body IsOverAside (e, m) = leads IsOverAside (e, past-body IsOverAside e m)
  leads-body IsShallow (e, m) = leads IsShallow (e, past-body IsShallow e m)

-- ---- where the machine ends

pub ends-wide : (root : Root) (ds : List Debt) → Comes root ds IsWide → Meets root.0 root.1 IsWide
ends-wide root [] c = c
ends-wide root (Part k next ∷ ds) c = ends-wide root ds c
ends-wide root (Beside units aside ts us found next ∷ ds) c = ends-wide root ds c
ends-wide root (Replaced rule ∷ ds) c = ends-wide root ds c
ends-wide root (Used family ∷ ds) c = ends-wide root ds c.1

pub ends-deep : (root : Root) (ds : List Debt) → Comes root ds IsDeep → Meets root.0 root.1 IsDeep
ends-deep root [] c = c
ends-deep root (Part k next ∷ ds) c = ends-deep root ds c
ends-deep root (Beside units aside ts us found next ∷ ds) c = ends-deep root ds c
ends-deep root (Replaced rule ∷ ds) c = ends-deep root ds c
ends-deep root (Used family ∷ ds) c = ends-deep root ds c.1

pub ends-over_aside : (root : Root) (ds : List Debt) → Comes root ds IsOverAside → Meets root.0 root.1 IsOverAside
ends-over_aside root [] c = c
ends-over_aside root (Part k next ∷ ds) c = ends-over_aside root ds c
ends-over_aside root (Beside units aside ts us found next ∷ ds) c = ends-over_aside root ds c
ends-over_aside root (Replaced rule ∷ ds) c = ends-over_aside root ds c
ends-over_aside root (Used family ∷ ds) c = ends-over_aside root ds c.1

pub ends-over : (root : Root) (ds : List Debt) → Comes root ds IsOver → Meets root.0 root.1 IsOver ⊎ Meets root.0 root.1 IsOverAside
ends-over root [] c = inl c
ends-over root (Part k next ∷ ds) c = ends-over root ds c
ends-over root (Beside units aside ts us found next ∷ ds) c = inr (ends-over_aside root ds c)
ends-over root (Replaced rule ∷ ds) c = ends-over root ds c
ends-over root (Used family ∷ ds) c = ends-over root ds c.1

-- ---- what is kept

pub found-of : (ts : List Core) → AreOf ts → (e t : Core) → IsOf (length ts) e → HasFound (whole ts e) t → IsOf (length ts) t
found-of ts a e t h (enough, m) = let (n, c) = m 0 in types-of ts a (0 + enough) e h n 0 t c

pub found-grown : (u : Core) (ts : List Core) → AreOf (u ∷ ts) → (e t : Core) → IsOf (length ts) e → HasFound (whole ts e) t → HasFound (whole (u ∷ ts) e) t
found-grown u ts a e t h (enough, m) = (enough, λ more. let (n, c) = m more in (n, grown-type u ts a (more + enough) e h n 0 t c))

pub found-shrunk : (u : Core) (ts : List Core) → AreOf (u ∷ ts) → (e t : Core) → IsOf (length ts) e → HasFound (whole (u ∷ ts) e) t → HasFound (whole ts e) t
found-shrunk u ts a e t h (enough, m) = (enough, λ more. let (n, c) = m more in (n, shrunk-type u ts a (more + enough) e h n 0 t c))
