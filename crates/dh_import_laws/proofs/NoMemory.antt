-- No fault that the resolver gives is want of memory.
use Rattle.std.specs.Prelude.{◌≡◌, ◌⊎◌, ℕ, zero, suc, Bool, true, false, if◌then◌else◌, List, [], ◌∷◌, Option, Some, None, refl}
use Rattle.std.proofs.Common.{ap, sym, ◌∙◌, subst, inl, inr}
use Rattle.dh_syntax.specs.declared.faults.TypeFault.TheVariants as type
use Rattle.dh_syntax.specs.declared.locations.Key.{Key}
use Rattle.dh_syntax.specs.Expressions.Tree.{Term}
use Rattle.dh_imports.specs.declared.outcomes.Blame.{Blame}
use Rattle.dh_imports.specs.declared.outcomes.Why.{Why}
use Rattle.dh_imports.specs.declared.outcomes.Why.TheVariants.{Typing}
use Rattle.dh_imports.specs.LastStep.{Code, Text, Location, Compare, Entry, Fault, text_outcome, compared, last_step}
use Rattle.dh_imports.specs.Outcomes.{Outcome, Bad, Loop}
use Rattle.dh_imports.specs.Records.{Record, limit_at}
use Rattle.dh_imports.specs.Resolver.{Stage, Lacks, Has, Meets, Waits, plan, stage, unless_limit, ended, is_in, least_back_to, resolve}
use Rattle.dh_imports.specs.Walk.{Ask}
use Rattle.dh_laws.proofs.KeyOrder.{none-some, some-equal}
use Rattle.dh_import_laws.specs.WithoutMemory.{memory, LimitsNeedNone, KeysNeedNone, RootsNeedNone}
use Rattle.dh_import_laws.proofs.CodeSteps.{code_comes_of}
use Rattle.dh_import_laws.proofs.Sources.{IsOfWalks, IsOfKey, Came, Blames, walk-blames, StageSays, stage-says, blame_in, IsBad, code_ill, OutcomeSays, text_outcome-says, compared-says}

-- the known outcomes blame nothing for it
abbrev Clean : Ask → Type 0
Clean ask = (y : Key) (b : Blame) → ask y ≡ Some (Bad b) → ¬ (b.why ≡ memory)

came-clean : (ask : Ask) (b : Blame) → Clean ask → Came ask b → ¬ (b.why ≡ memory)
came-clean ask b clean (inl h) e = absurd (subst IsOfWalks e h)
came-clean ask b clean (inr (y, h)) e = clean y b h e

abbrev IsIllWhy : Why → Type 0
IsIllWhy (Typing (type.Ill f)) = Unit {0}
IsIllWhy _ = ⊥

blamed-why : (b : Blame) (o : Outcome) → Some o ≡ Some (Bad b) → (blame_in b o).why ≡ b.why
blamed-why b o e = ap (λ (c : Blame). c.why) (ap (blame_in b) (some-equal e))

module _ (r : Record) (ask : Ask) (limits : LimitsNeedNone r) (clean : Clean ask) (k : Key) (n : ℕ) (b : Blame) where
  of_outcome : (o : Outcome) → OutcomeSays r k o → Some o ≡ Some (Bad b) → ¬ (b.why ≡ memory)
  of_outcome o h e q = absurd (subst (IsOfKey r k) q (subst (OutcomeSays r k) (some-equal e) h))

  of_fault : (c : Blame) → IsOfKey r k c.why ⊎ Came ask c → Some (Bad c) ≡ Some (Bad b) → ¬ (b.why ≡ memory)
  of_fault c (inl h) e q = of_outcome (Bad c) h e q
  of_fault c (inr h) e q = came-clean ask c clean h (blamed-why b (Bad c) e ∙ q)

  of_code : (x : Term) (allow : Option (List ℕ)) (w : Option Why) → limit_at r k ≡ w → unless_limit k w (last_step n k (Code x allow)) ≡ Some (Bad b) → ¬ (b.why ≡ memory)
  of_code x allow (Some w) h e q = limits k w h (ap (λ (c : Blame). c.why) (ap (blame_in b) (some-equal e)) ∙ q)
  of_code x allow None h e q = let c = code_ill k x allow b (code_comes_of n k x allow (Bad b) e) in absurd (subst IsIllWhy (ap (λ (d : Blame). d.why) c.2 ∙ q) tt)

  of_stage : (s : Stage) → StageSays r ask k (plan r k) s → ended r n k s ≡ Some (Bad b) → ¬ (b.why ≡ memory)
  unfolding last_step
  of_stage (Has (Code x allow)) s e = of_code x allow (limit_at r k) refl e
  of_stage (Has (Text bytes allow)) s e = of_outcome (text_outcome k bytes allow) (text_outcome-says r k bytes allow) e
  of_stage (Has (Location i)) s e = of_outcome _ tt e
  of_stage (Has (Compare v o)) s e = of_outcome (compared k k.digest v o) (compared-says r k k.digest v o) e
  of_stage (Has (Entry v)) s e = of_outcome _ tt e
  of_stage (Has (Fault c)) s e = of_fault c s e
  of_stage (Meets j) s e = of_outcome (Loop j) tt e
  of_stage (Lacks p) s e = none-some refl e
  of_stage (Waits y) s e = none-some refl e

by_loop : (r : Record) → LimitsNeedNone r → (n : ℕ) (ancestors : List Key) (k : Key) (b : Blame) → Clean (resolve r n (k ∷ ancestors)) → (t : Bool)
    → (if t then Some (Loop (least_back_to k ancestors)) else ended r n k (stage r (resolve r n (k ∷ ancestors)) k)) ≡ Some (Bad b) → ¬ (b.why ≡ memory)
by_loop r limits n ancestors k b clean true e = absurd (subst IsBad (sym (some-equal e)) tt)
by_loop r limits n ancestors k b clean false e =
    let ask = resolve r n (k ∷ ancestors) in of_stage r ask limits clean k n b (stage r ask k) (stage-says r ask k) e

resolve-clean : (r : Record) → LimitsNeedNone r → (n : ℕ) (ancestors : List Key) → Clean (resolve r n ancestors)
resolve-clean r limits zero ancestors k b h = none-some refl h
resolve-clean r limits (suc n) ancestors k b h = by_loop r limits n ancestors k b (resolve-clean r limits n (k ∷ ancestors)) (is_in k ancestors) h

pub keys_need_none : KeysNeedNone
keys_need_none r k b limits (n, h) = resolve-clean r limits n [] k b h

pub roots_need_none : RootsNeedNone
roots_need_none r root b limits (n, h) =
    came-clean (resolve r n []) b (resolve-clean r limits n []) (subst (Blames (resolve r n [])) h (walk-blames None (resolve r n []) root))
