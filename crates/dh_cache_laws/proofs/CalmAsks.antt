-- What the resolver gives below a chain, if it is no loop, it gives below less of the chain.
use Rattle.std.specs.Prelude.{◌≡◌, ◌⊎◌, ℕ, zero, suc, Bool, true, false, ◌||◌, if◌then◌else◌, List, [], ◌∷◌, ◌++◌, Option, Some, None, refl}
use Rattle.std.proofs.Common.{ap, sym, ◌∙◌, subst, inl, inr}
use Rattle.dh_syntax.specs.declared.locations.Key.{Key}
use Rattle.dh_syntax.specs.Imports.Keys.{key_eq}
use Rattle.dh_imports.specs.Outcomes.{Outcome, Good, Bad, Loop}
use Rattle.dh_imports.specs.Records.{Record}
use Rattle.dh_imports.specs.Resolver.{Stage, Lacks, Has, Meets, Waits, of_plan, stage, ended, is_in, least_back_to, resolve}
use Rattle.dh_imports.specs.Walk.{Ask}
use Rattle.dh_laws.proofs.KeyOrder.{bool-case, none-some}
use Rattle.dh_import_laws.proofs.Walks.{Knows}
use Rattle.dh_import_laws.proofs.Grow.{longer-itself, OnWait, StageGrown, stage-grown, StageTold, stage-told, ended-grown}
use Rattle.dh_import_laws.proofs.Calm.{IsCalm, calm_loop, calmed, calmed-some, calmed-calm}

-- the outcomes that are no loops
abbrev pub calm_ask : Ask → Ask
calm_ask ask k = calmed (ask k)

pub calm_ask-known : (ask : Ask) → Knows (calm_ask ask) ask
calm_ask-known ask k o h = calmed-some (ask k) o h

pub calm_ask-calm : (ask : Ask) (k : Key) (o : Outcome) → calm_ask ask k ≡ Some o → IsCalm (Some o)
calm_ask-calm ask k o h = subst IsCalm h (calmed-calm (ask k))

module _ (r : Record) (ask : Ask) (n : ℕ) (k : Key) (o : Outcome) (calm : IsCalm (Some o)) where
  waited : (s' : Stage) (y : Key) (x : Option Outcome) → calmed x ≡ None → OnWait y s' x → ended r n k s' ≡ Some o → (P : Type 0) → P
  waited s' y None e h g P = none-some refl (sym (ap (ended r n k) h) ∙ g)
  waited s' y (Some (Loop j)) e h g P = calm_loop calm (sym (sym (ap (ended r n k) h) ∙ g))
  waited s' y (Some (Good v c)) e h g P = none-some e refl
  waited s' y (Some (Bad b)) e h g P = none-some e refl

  by_stage : (s : Stage) → StageGrown ask s (stage r ask k) → StageTold r (calm_ask ask) k s → ended r n k (stage r ask k) ≡ Some o → ended r n k s ≡ Some o
  by_stage (Has i) g t h = subst (λ s. ended r n k s ≡ Some o) g h
  by_stage (Meets j) g t h = calm_loop (calmed-calm (ask t.0)) t.1
  by_stage (Lacks p) g t h = subst (λ q. ended r n k (of_plan ask k q) ≡ Some o) t h
  by_stage (Waits y) g t h = waited (stage r ask k) y (ask y) t g h (ended r n k (Waits y) ≡ Some o)

  pub calm_ask-ended : ended r n k (stage r ask k) ≡ Some o → ended r n k (stage r (calm_ask ask) k) ≡ Some o
  calm_ask-ended h = by_stage (stage r (calm_ask ask) k) (stage-grown r r (longer-itself r) (calm_ask ask) ask (calm_ask-known ask) k) (stage-told r (calm_ask ask) k) h

-- ---- chains

in_less : (b c d : Bool) → (c ≡ false → d ≡ false) → (b || c) ≡ false → (b || d) ≡ false
in_less true c d f h = h
in_less false c d f h = f h

in_more : (k : Key) (xs zs : List Key) → is_in k (xs ++ zs) ≡ false → is_in k xs ≡ false
in_more k [] zs h = refl
in_more k (x ∷ xs) zs h = in_less (key_eq x k) (is_in k (xs ++ zs)) (is_in k xs) (in_more k xs zs) h

-- one step, where what is known below the longer chain is known below the shorter one
below_step : (r : Record) (n : ℕ) (xs zs : List Key) (k : Key) (o : Outcome) → IsCalm (Some o) → Knows (calm_ask (resolve r n (k ∷ (xs ++ zs)))) (resolve r n (k ∷ xs))
    → resolve r (suc n) (xs ++ zs) k ≡ Some o → resolve r (suc n) xs k ≡ Some o
below_step r n xs zs k o c knows h = go (bool-case (is_in k (xs ++ zs)))
  where
    there : ended r n k (stage r (resolve r n (k ∷ (xs ++ zs))) k) ≡ Some o → ended r n k (stage r (resolve r n (k ∷ xs)) k) ≡ Some o
    there e =
        ended-grown r n k (resolve r n (k ∷ xs)) _ _ o (stage-grown r r (longer-itself r) (calm_ask (resolve r n (k ∷ (xs ++ zs)))) (resolve r n (k ∷ xs)) knows k)
        (calm_ask-ended r (resolve r n (k ∷ (xs ++ zs))) n k o c e)

    go : (is_in k (xs ++ zs) ≡ true) ⊎ (is_in k (xs ++ zs) ≡ false) → resolve r (suc n) xs k ≡ Some o
    go (inl t) = calm_loop c (sym (sym (ap (λ b. if b then Some (Loop (least_back_to k (xs ++ zs))) else ended r n k (stage r (resolve r n (k ∷ (xs ++ zs))) k)) t) ∙ h))
    go (inr f) =
        ap (λ b. if b then Some (Loop (least_back_to k xs)) else ended r n k (stage r (resolve r n (k ∷ xs)) k)) (in_more k xs zs f)
        ∙ there (sym (ap (λ b. if b then Some (Loop (least_back_to k (xs ++ zs))) else ended r n k (stage r (resolve r n (k ∷ (xs ++ zs))) k)) f) ∙ h)

pub below_less : (r : Record) (n : ℕ) (xs zs : List Key) (k : Key) (o : Outcome) → IsCalm (Some o) → resolve r n (xs ++ zs) k ≡ Some o → resolve r n xs k ≡ Some o
below_less r zero xs zs k o c h = none-some refl h
below_less r (suc n) xs zs k o c h =
    below_step r n xs zs k o c
    (λ y p q. below_less r n (k ∷ xs) zs y p (calm_ask-calm (resolve r n (k ∷ (xs ++ zs))) y p q) (calm_ask-known (resolve r n (k ∷ (xs ++ zs))) y p q)) h
