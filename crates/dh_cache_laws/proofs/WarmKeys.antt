-- Each key that a run with honest entries visits has the outcome that it has without entries, but for the names of binders.
use Rattle.std.specs.Prelude.{◌≡◌, ◌⊎◌, ℕ, zero, suc, Bool, true, false, if◌then◌else◌, List, [], ◌∷◌, Option, Some, None, refl}
use Rattle.std.proofs.Common.{ap, sym, ◌∙◌, subst, inl, inr}
use Rattle.dh_syntax.specs.declared.locations.Digest.{Digest}
use Rattle.dh_syntax.specs.declared.locations.Key.{Key}
use Rattle.dh_syntax.specs.declared.locations.Mode.{Mode}
use Rattle.dh_syntax.specs.declared.locations.Mode.TheVariants as modes
use Rattle.dh_imports.specs.declared.outcomes.Blame.{Blame}
use Rattle.dh_imports.specs.declared.outcomes.Origin.{Origin}
use Rattle.dh_imports.specs.declared.outcomes.Origin.TheVariants as origins
use Rattle.dh_imports.specs.declared.outcomes.Why.{Why}
use Rattle.dh_imports.specs.declared.outcomes.Why.TheVariants.{Differs}
use Rattle.dh_syntax.specs.Bytes.Binary.{enc}
use Rattle.dh_syntax.specs.Expressions.SameTree.{digest_eq}
use Rattle.dh_syntax.specs.Expressions.Tree.{Term}
use Rattle.dh_imports.specs.Keeps.{asked_by, Visited, by_key}
use Rattle.dh_imports.specs.LastStep as last
use Rattle.dh_imports.specs.LastStep.{Item, Code, Text, Location, Compare, Entry, Fault, own, compared, last_step}
use Rattle.dh_syntax.specs.Bytes.Digests.{digest_of}
use Rattle.dh_imports.specs.Machine.{IsAmong}
use Rattle.dh_imports.specs.Outcomes.{Outcome, Good, Bad, Loop, may_go_on}
use Rattle.dh_imports.specs.Records as found
use Rattle.dh_imports.specs.Records.{Record, Noted, Seen, text_at, look_at, limit_at}
use Rattle.dh_imports.specs.Resolver.{Part, TextOf, LookOf, Plan, Unknown, Now, Walks, Asks, plan_text, unfetched, plan_fetch, plan_mode, plan_look, plan_digest, plan, Has, of_walk, of_bare, of_plan, stage, unless_limit, closed, ended, is_in, least_back_to, resolve}
use Rattle.dh_imports.specs.Walk.{Ask, Walked, Ready, Fails, Turns, Needs, walk}
use Rattle.dh_syntax.specs.Names.Alpha.{IsSame}
use Rattle.sha2.specs.Sha256.{sha256}
use Rattle.dh_laws.proofs.KeyOrder.{none-some, some-equal}
use Rattle.dh_import_laws.specs.ImportLaws.{ComesOf, normal, ill}
use Rattle.dh_import_laws.proofs.Calm.{IsCalm}
use Rattle.dh_import_laws.proofs.CodeSteps.{code_comes_of, one_outcome_of_code}
use Rattle.dh_import_laws.proofs.Grow.{resolve-rises, resolves-one}
use Rattle.dh_import_laws.proofs.Walks.{Knows}
use Rattle.dh_cache_laws.specs.WarmCache.{IsOriginKept, IsLimit, IsLimited, IsSameOutcome, AreSameOutcomes, AgreesWith, AreSameEntries}
use Rattle.dh_cache_laws.proofs.CalmAsks.{calm_ask, calm_ask-known, calm_ask-calm, below_less}
use Rattle.dh_cache_laws.proofs.SameCode.{same_values}
use Rattle.dh_cache_laws.proofs.WarmWalks.{limit-hard, EndsAs, FailsAs, walk-as}

pub same-none : (x : Option Outcome) → AreSameOutcomes x None
same-none None = tt
same-none (Some o) = tt

same-loop : (j : Key) (x : Option Outcome) → AreSameOutcomes (Some (Loop j)) x
same-loop j None = tt
same-loop j (Some o) = tt

never : {A : Type 0} → false ≡ true → A
never p = cc

-- ---- last steps

pub digests-same : (v w : Term) → IsSame v w → digest_of v ≡ digest_of w
digests-same v w s = ap (λ a. record { 0 = sha256 (enc a) }) s

comes-same : (k : Key) (e d : Term) (allow : Option (List ℕ)) (o p : Outcome) → IsSame e d → ComesOf k e allow o → ComesOf k d allow p → IsSameOutcome o p
comes-same k e d allow _ p s (normal {f} units t left h g) c =
    let (w, b, q) = same_values k e d f allow units t left s h g in
    inl (w, origins.Fetched allow, one_outcome_of_code k d allow p _ c b, q, inl refl)
comes-same k e d allow _ p s (ill {path} {number} h) c = λ q. never q

codes-known : (m n : ℕ) (k : Key) (e f : Term) (allow : Option (List ℕ)) → IsSame e f → (x y : Option Outcome) → last_step m k (Code e allow) ≡ x → last_step n k (Code f allow) ≡ y → AreSameOutcomes x y
codes-known m n k e f allow s None y p q = tt
codes-known m n k e f allow s (Some o) None p q = tt
codes-known m n k e f allow s (Some o) (Some c) p q = comes-same k e f allow o c s (code_comes_of m k e allow o p) (code_comes_of n k f allow c q)

codes-same : (m n : ℕ) (k : Key) (e f : Term) (allow : Option (List ℕ)) → IsSame e f → AreSameOutcomes (last_step m k (Code e allow)) (last_step n k (Code f allow))
codes-same m n k e f allow s = codes-known m n k e f allow s _ _ refl refl

compared-known : (k : Key) (d : Digest) (v w : Term) (o c : Origin) → IsSame v w → IsOriginKept o c → (t : Bool) → digest_eq d (digest_of v) ≡ t
    → IsSameOutcome (if t then Good v o else own k (Differs d (digest_of v))) (if digest_eq d (digest_of w) then Good w c else own k (Differs d (digest_of w)))
compared-known k d v w o c s i true p =
    inl (w, c, ap (λ b. if b then Good w c else own k (Differs d (digest_of w))) (ap (digest_eq d) (sym (digests-same v w s)) ∙ p), s, i)
compared-known k d v w o c s i false p = λ q.
    inl (ap (λ b. if b then Good w c else own k (Differs d (digest_of w))) (ap (digest_eq d) (sym (digests-same v w s)) ∙ p)
    ∙ ap (λ z. own k (Differs d z)) (sym (digests-same v w s)))

compared-same : (k : Key) (d : Option Digest) (v w : Term) (o c : Origin) → IsSame v w → IsOriginKept o c → IsSameOutcome (compared k d v o) (compared k d w c)
compared-same k None v w o c s i = inl (w, c, refl, s, i)
compared-same k (Some d) v w o c s i = compared-known k d v w o c s i (digest_eq d (digest_of v)) refl

pub itself : (o : Outcome) → IsSameOutcome o o
itself (Good v o) = inl (v, o, refl, refl, inl refl)
itself (Bad b) = λ p. inl refl
itself (Loop j) = tt

-- a limit stands in the place of any outcome
same-limit : (x : Option Outcome) (b : Blame) → IsLimit b → AreSameOutcomes x (Some (Bad b))
same-limit None b h = tt
same-limit (Some (Good v o)) b h = inr h
same-limit (Some (Bad c)) b h = λ p. inr h
same-limit (Some (Loop j)) b h = tt

module _ (r plain : Record) (agree : AgreesWith r plain) (m n : ℕ) (k : Key) where
  limited_code : (e f : Term) (allow : Option (List ℕ)) → IsSame e f → (l : Option Why) → limit_at r k ≡ l
      → AreSameOutcomes (last_step m k (Code e allow)) (unless_limit k l (last_step n k (Code f allow)))
  limited_code e f allow s None p = codes-same m n k e f allow s
  limited_code e f allow s (Some w) p = same-limit (last_step m k (Code e allow)) (record { at = Some k; why = w }) (agree.limits k w p)

  plain_limited : (b : Blame) (x : Option Outcome) → IsLimit b → AreSameOutcomes (Some (Bad b)) x
  plain_limited b None h = tt
  plain_limited b (Some y) h = λ p. never (sym (limit-hard b.why h) ∙ p)

  closed_by : (e f : Term) (allow : Option (List ℕ)) → IsSame e f → (l : Option Why) → limit_at plain k ≡ l
      → AreSameOutcomes (unless_limit k l (last_step m k (Code e allow))) (closed r n k (Code f allow))
  closed_by e f allow s None p = limited_code e f allow s (limit_at r k) refl
  closed_by e f allow s (Some w) p = plain_limited (record { at = Some k; why = w }) (closed r n k (Code f allow)) (agree.plain_limits k w p)

  closed_code : (e f : Term) (allow : Option (List ℕ)) → IsSame e f → AreSameOutcomes (closed plain m k (Code e allow)) (closed r n k (Code f allow))
  closed_code e f allow s = closed_by e f allow s (limit_at plain k) refl

  closed_item : (i : Item) → AreSameOutcomes (closed plain m k i) (closed r n k i)
  unfolding last_step
  closed_item (Code e allow) = closed_code e e allow refl
  closed_item (Text bytes allow) = itself (last.text_outcome k bytes allow)
  closed_item (Location l) = itself (Good (last.location_value l) origins.Made)
  closed_item (Compare v o) = itself (compared k k.digest v o)
  closed_item (Entry e) = itself (Good e origins.Cached)
  closed_item (Fault b) = itself (Bad b)

  closed_compare : (v w : Term) (o c : Origin) → IsSame v w → IsOriginKept o c → AreSameOutcomes (closed plain m k (Compare v o)) (closed r n k (Compare w c))
  unfolding last_step
  closed_compare v w o c s i = compared-same k k.digest v w o c s i

  abbrev Failing : Blame → Option Outcome → Type 0
  Failing b x = may_go_on b.why ≡ true → (y : Outcome) → x ≡ Some y → (y ≡ Bad b) ⊎ IsLimited y

  fault-as : (b : Blame) (x : Option Outcome) → Failing b x → AreSameOutcomes (Some (Bad b)) x
  fault-as b None h = tt
  fault-as b (Some y) h = λ p. h p y refl

  fault_known : (b c : Blame) (y : Outcome) → (c ≡ b) ⊎ IsLimit c → closed r n k (Fault c) ≡ Some y → (y ≡ Bad b) ⊎ IsLimited y
  unfolding last_step
  fault_known b c y (inl p) q = inl (sym (some-equal q) ∙ ap Bad p)
  fault_known b c y (inr h) q = inr (subst IsLimited (some-equal q) h)

  plain_fault : (b : Blame) (x : Option Outcome) → Failing b x → AreSameOutcomes (closed plain m k (Fault b)) x
  unfolding last_step
  plain_fault b x h = fault-as b x h

  limit_fault : (x : Option Outcome) (b : Blame) → IsLimit b → AreSameOutcomes x (closed r n k (Fault b))
  unfolding last_step
  limit_fault x b h = same-limit x b h

  ended_fault : (allow : Option (List ℕ)) (b : Blame) (w : Walked Term) → FailsAs b w → (y : Outcome) → ended r n k (of_walk allow w) ≡ Some y → (y ≡ Bad b) ⊎ IsLimited y
  ended_fault allow b (Ready f) h y q = absurd h
  ended_fault allow b (Fails c) h y q = fault_known b c y h q
  ended_fault allow b (Turns j) h y q = absurd h
  ended_fault allow b (Needs z) h y q = none-some refl q

  walked-as : (allow : Option (List ℕ)) (v w : Walked Term) → EndsAs IsSame v w → AreSameOutcomes (ended plain m k (of_walk allow v)) (ended r n k (of_walk allow w))
  walked-as allow (Ready e) (Ready f) h = closed_code e f allow h
  walked-as allow (Ready e) (Fails b) h = limit_fault (closed plain m k (Code e allow)) b h
  walked-as allow (Ready e) (Turns j) h = absurd h
  walked-as allow (Ready e) (Needs y) h = same-none (closed plain m k (Code e allow))
  walked-as allow (Fails b) w h = plain_fault b (ended r n k (of_walk allow w)) (λ p y q. ended_fault allow b w (h p) y q)
  walked-as allow (Turns j) w h = same-loop j (ended r n k (of_walk allow w))
  walked-as allow (Needs y) w h = tt

  bare_limit : (x : Option Outcome) (j : Key) (q : Outcome) → IsLimited q → AreSameOutcomes x (ended r n k (of_bare j (Some q)))
  bare_limit x j (Good v o) h = absurd h
  bare_limit x j (Bad b) h = limit_fault x b h
  bare_limit x j (Loop i) h = absurd h

  bare_fault : (j : Key) (b : Blame) (q : Outcome) → (q ≡ Bad b) ⊎ IsLimited q → (y : Outcome) → ended r n k (of_bare j (Some q)) ≡ Some y → (y ≡ Bad b) ⊎ IsLimited y
  bare_fault j b q (inl p) y e = fault_known b b y (inl refl) (sym (ap (λ z. ended r n k (of_bare j (Some z))) p) ∙ e)
  bare_fault j b (Bad c) (inr h) y e = fault_known b c y (inr h) e
  bare_fault j b (Good v o) (inr h) y e = absurd h
  bare_fault j b (Loop i) (inr h) y e = absurd h

  bare_known : (j : Key) (q o : Outcome) → IsSameOutcome q o → AreSameOutcomes (ended plain m k (of_bare j (Some q))) (ended r n k (of_bare j (Some o)))
  bare_known j (Good v o) q (inl (w, c, p, s, i)) = subst (λ z. AreSameOutcomes (closed plain m k (Compare v o)) (ended r n k (of_bare j (Some z)))) (sym p) (closed_compare v w o c s i)
  bare_known j (Good v o) q (inr h) = bare_limit (closed plain m k (Compare v o)) j q h
  bare_known j (Bad b) q h = plain_fault b (ended r n k (of_bare j (Some q))) (λ p y e. bare_fault j b q (h p) y e)
  bare_known j (Loop i) q h = same-loop i (ended r n k (of_bare j (Some q)))

  bare-as : (j : Key) (x y : Option Outcome) → AreSameOutcomes x y → AreSameOutcomes (ended plain m k (of_bare j x)) (ended r n k (of_bare j y))
  bare-as j None y h = tt
  bare-as j (Some q) None h = same-none (ended plain m k (of_bare j (Some q)))
  bare-as j (Some q) (Some o) h = bare_known j q o h

-- ---- plans

module _ (r plain : Record) (agree : AgreesWith r plain) (none_good : (d : Digest) (bytes : List ℕ) (e : Term) → ¬ (look_at plain d ≡ Some (found.Good bytes e))) (k : Key) where
  -- the plan of the run is the plan without entries, or something is not recorded, or there is an entry
  abbrev Plans : Plan → Plan → Type 0
  Plans p q =
      (p ≡ q) ⊎ (((x : Part) × (p ≡ Unknown x)) ⊎ (((x : Part) × (q ≡ Unknown x))
      ⊎ ((d : Digest) × (bytes : List ℕ) × (e : Term) × (k.digest ≡ Some d) × (look_at r d ≡ Some (found.Good bytes e)) × (q ≡ Now (Entry e)))))

  text-plans : (as_text : Bool) (x y : Option Noted) → text_at plain k.loc ≡ x → text_at r k.loc ≡ y → Plans (plan_text k as_text x) (plan_text k as_text y)
  text-plans as_text None y p q = inr (inl (TextOf k.loc, refl))
  text-plans as_text (Some t) None p q = inr (inr (inl (TextOf k.loc, refl)))
  text-plans as_text (Some t) (Some u) p q = inl (ap (λ z. plan_text k as_text (Some z)) (sym (agree.texts k.loc t u p q)))

  fetch-plans : (as_text : Bool) (w : Option Why) → Plans (plan_fetch plain k as_text w) (plan_fetch r k as_text w)
  fetch-plans as_text (Some w) = inl refl
  fetch-plans as_text None = text-plans as_text _ _ refl refl

  mode-plans : (mode : Mode) → Plans (plan_mode plain k mode) (plan_mode r k mode)
  mode-plans modes.Location = inl refl
  mode-plans modes.Text = fetch-plans true (unfetched k.loc)
  mode-plans modes.Code = fetch-plans false (unfetched k.loc)

  look-plans : (d : Digest) (x y : Option Seen) → k.digest ≡ Some d → look_at plain d ≡ x → look_at r d ≡ y → Plans (plan_look k d x) (plan_look k d y)
  look-plans d None y e p q = inr (inl (LookOf d, refl))
  look-plans d (Some s) None e p q = inr (inr (inl (LookOf d, refl)))
  look-plans d (Some s) (Some (found.Good bytes t)) e p q = inr (inr (inr (d, bytes, t, e, q, refl)))
  look-plans d (Some (found.Good bytes t)) (Some found.Miss) e p q = absurd (none_good d bytes t p)
  look-plans d (Some (found.Good bytes t)) (Some found.Failed) e p q = absurd (none_good d bytes t p)
  look-plans d (Some found.Miss) (Some found.Miss) e p q = inl refl
  look-plans d (Some found.Miss) (Some found.Failed) e p q = inl refl
  look-plans d (Some found.Failed) (Some found.Miss) e p q = inl refl
  look-plans d (Some found.Failed) (Some found.Failed) e p q = inl refl

  digest-plans : (d : Option Digest) → k.digest ≡ d → Plans (plan_digest plain k d) (plan_digest r k d)
  digest-plans None e = mode-plans k.mode
  digest-plans (Some d) e = look-plans d _ _ e refl refl

  pub both-plans : Plans (plan plain k) (plan r k)
  both-plans = digest-plans k.digest refl

-- ---- keys

module _ (r plain : Record) (agree : AgreesWith r plain) (ask : Ask) (root : Term) (entries : AreSameEntries r ask root plain) where
  -- what the two resolvers give below one chain
  abbrev Same : ℕ → ℕ → List Key → Type 0
  Same m n chain = (y : Key) → Visited r ask root y → AreSameOutcomes (resolve plain m chain y) (resolve r n chain y)

  abbrev Known : ℕ → Type 0
  Known n = (y : Key) (o : Outcome) → IsCalm (Some o) → resolve r n [] y ≡ Some o → ask y ≡ Some o

  known_below : (n : ℕ) (chain : List Key) → Known n → Knows (calm_ask (resolve r n chain)) ask
  known_below n chain h y o e =
      let calm = calm_ask-calm (resolve r n chain) y o e in
      h y o calm (below_less r n [] chain y o calm (calm_ask-known (resolve r n chain) y o e))

  known_less : (n : ℕ) → Known (suc n) → Known n
  known_less n h y o c e = h y o c (resolve-rises r n [] y o e)

  module _ (m n : ℕ) (chain : List Key) (k : Key) (visited : Visited r ask root k) (known : Known n) (ih : Same m n (k ∷ chain)) where
    abbrev less : Ask
    less = resolve plain m (k ∷ chain)

    abbrev more : Ask
    more = resolve r n (k ∷ chain)

    same_plan : (q : Plan) → plan r k ≡ q → AreSameOutcomes (ended plain m k (of_plan less k q)) (ended r n k (of_plan more k q))
    same_plan (Unknown x) e = tt
    same_plan (Now i) e = closed_item r plain agree m n k i
    same_plan (Walks c allow) e =
        walked-as r plain agree m n k allow (walk (Some k) less c) (walk (Some k) more c)
        (walk-as (λ y. Visited r ask root y) (Some k) less more ask ih (known_below n (k ∷ chain) known) c
        (λ y i. by_key visited (subst (λ p. IsAmong y (asked_by ask k p)) (sym e) i)))
    same_plan (Asks j) e =
        bare-as r plain agree m n k j (less j) (more j) (ih j (by_key visited (subst (λ p. IsAmong j (asked_by ask k p)) (sym e) (inl refl))))

    by_entry : (d : Digest) (bytes : List ℕ) (e : Term) → k.digest ≡ Some d → look_at r d ≡ Some (found.Good bytes e) → (x : Option Outcome) → resolve plain (suc m) chain k ≡ x
        → AreSameOutcomes x (Some (Good e origins.Cached))
    by_entry d bytes e p q None h = tt
    by_entry d bytes e p q (Some (Loop j)) h = tt
    by_entry d bytes e p q (Some (Good v o)) h =
        let (w, c, g, s) = entries.same k d bytes e visited p q in
        subst (λ z. IsSameOutcome z (Good e origins.Cached))
        (sym (resolves-one plain k (Good v o) (Good w c) (suc m, below_less plain (suc m) [] chain k (Good v o) tt h) g))
        (inl (e, origins.Cached, refl, s, inr refl))
    by_entry d bytes e p q (Some (Bad b)) h =
        let (w, c, g, s) = entries.same k d bytes e visited p q in
        subst (λ z. IsSameOutcome z (Good e origins.Cached))
        (sym (resolves-one plain k (Bad b) (Good w c) (suc m, below_less plain (suc m) [] chain k (Bad b) tt h) g))
        (inl (e, origins.Cached, refl, s, inr refl))

    entry_ended : (e : Term) → ended r n k (Has (Entry e)) ≡ Some (Good e origins.Cached)
    unfolding last_step
    entry_ended e = refl

    by_plans : (p q : Plan) → plan r k ≡ q → resolve plain (suc m) chain k ≡ ended plain m k (of_plan less k p) → Plans r plain agree (λ d. entries.none_good d) k p q
        → AreSameOutcomes (ended plain m k (of_plan less k p)) (ended r n k (of_plan more k q))
    by_plans p q e g (inl h) = subst (λ z. AreSameOutcomes (ended plain m k (of_plan less k z)) (ended r n k (of_plan more k q))) (sym h) (same_plan q e)
    by_plans p q e g (inr (inl (x, h))) = subst (λ z. AreSameOutcomes (ended plain m k (of_plan less k z)) (ended r n k (of_plan more k q))) (sym h) tt
    by_plans p q e g (inr (inr (inl (x, h)))) =
        subst (λ z. AreSameOutcomes (ended plain m k (of_plan less k p)) (ended r n k (of_plan more k z))) (sym h) (same-none (ended plain m k (of_plan less k p)))
    by_plans p q e g (inr (inr (inr (d, bytes, t, i, l, h)))) =
        subst (λ z. AreSameOutcomes (ended plain m k (of_plan less k p)) (ended r n k (of_plan more k z))) (sym h)
        (subst (λ z. AreSameOutcomes (ended plain m k (of_plan less k p)) z) (sym (entry_ended t)) (by_entry d bytes t i l (ended plain m k (of_plan less k p)) g))

    by_chain : (b : Bool) → is_in k chain ≡ b
        → AreSameOutcomes (if b then Some (Loop (least_back_to k chain)) else ended plain m k (stage plain less k)) (if b then Some (Loop (least_back_to k chain)) else ended r n k (stage r more k))
    by_chain true e = tt
    by_chain false e =
        by_plans (plan plain k) (plan r k) refl (ap (λ b. if b then Some (Loop (least_back_to k chain)) else ended plain m k (stage plain less k)) e)
        (both-plans r plain agree (λ d. entries.none_good d) k)

  pub same_keys : (m n : ℕ) (chain : List Key) → Known n → Same m n chain
  same_keys zero n chain known y v = tt
  same_keys (suc m) zero chain known y v = same-none (resolve plain (suc m) chain y)
  same_keys (suc m) (suc n) chain known y v =
      by_chain m n chain y v (known_less n known) (same_keys m n (y ∷ chain) (known_less n known)) (is_in y chain) refl
