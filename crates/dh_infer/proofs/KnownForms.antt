-- Normal forms that are kept.
use Rattle.std.specs.Prelude.{◌≡◌, ◌<◌, ◌+◌, ◌&&◌, ℕ, Bool, true, false, nat_eq, [], Some, None, if◌then◌else◌, refl}
use Rattle.std.proofs.Common.{ap, sym, ◌∙◌, arith, subst as along}
use Rattle.dh_syntax.specs.Names.Nameless.{Core}
use Rattle.dh_syntax.specs.Normalising.Heads.{Whole, Found, run}
use Rattle.dh_syntax.specs.Normalising.NamelessRuns.{cores}
use Rattle.dh_syntax.specs.Normalising.Normal.{endless, HasNormalForm}
use Rattle.dh_store.specs.declared.codes.Codes.{Codes}
use Rattle.dh_store.specs.Growth.{count}
use Rattle.dh_laws.specs.Runs.{IsWithMore}
use Rattle.dh_laws.proofs.Normalising.RunCosts.{whole_cost_of_run}
use Rattle.dh_laws.proofs.Normalising.RunLimits.{more_units}
use Rattle.dh_norm.specs.Answers.{IsNormal}
use Rattle.dh_types.specs.declared.memos.Memo.{Memo}
use Rattle.dh_types.specs.Growing.{Grows}
use Rattle.dh_types.specs.Memos.{entry}
use Rattle.dh_types.proofs.ChangedCodes.{both-true, same-number}
use Rattle.dh_infer.specs.declared.facts.Facts.{Facts}
use Rattle.dh_syntax.specs.declared.faults.NormFault.{NormFault}
use Rattle.dh_infer.specs.declared.known.Known.{Known}
use Rattle.dh_infer.specs.declared.sharing.Sharing.{Sharing}
use Rattle.dh_infer.specs.Inside.Known.{AreForms, IsKnown}
use Rattle.dh_infer.specs.Inside.NormalCodes.{IsNormalCode, IsStopped}
use Rattle.dh_infer.specs.Inside.Normals.{IsLicensedHalt}
use Rattle.dh_infer.specs.Inside.OwnForms.{IsOwnForm}
use Rattle.dh_infer.specs.Inside.Scopes.{Models}
use Rattle.dh_infer.specs.Inside.Sharing.{AreShared, IsShareOf}
use Rattle.dh_infer.proofs.AlikeCodes.{none-shared}
use Rattle.dh_infer.proofs.FoundFacts.{no-facts}
use Rattle.dh_infer.proofs.Modelled.{models-before}
use Rattle.dh_infer.proofs.Remembering.{Keeps, keeps-grown}

some-once : (a b : ℕ) → Some a ≡ Some b → a ≡ b
some-once a b q = cc

forms-more : (g : ℕ → Core) (m m' : Memo ℕ) (a v : ℕ) → ((c d : ℕ) → entry m' c d ≡ (if nat_eq a c && nat_eq 0 d then Some v else entry m c d)) → HasNormalForm cores (g a) (g v)
    → AreForms g m → AreForms g m'
forms-more g m m' a v puts it h c d k p = by (nat_eq a c && nat_eq 0 d) refl (sym (puts c d) ∙ p)
  where
    by : (t : Bool) → (nat_eq a c && nat_eq 0 d) ≡ t → (if t then Some v else entry m c d) ≡ Some k → HasNormalForm cores (g c) (g k)
    by true e q = along (λ z. HasNormalForm cores (g z) (g k)) (same-number a c (both-true _ _ e).0) (along (λ z. HasNormalForm cores (g a) (g z)) (some-once v k q) it)
    by false e q = h c d k q

pub form-kept : (old new : Codes) (k : Known) (s : Sharing) (m : Memo ℕ) (u l c n j : ℕ) → Grows old new → Keeps old k → IsNormalCode new u l (λ g. g c) n
    → ((g : ℕ → Core) → Models new g → AreShared g k.sharing.firsts.items → AreShared g s.firsts.items)
    → ((g : ℕ → Core) → Models new g → AreShared g k.sharing.firsts.items → IsShareOf g n j)
    → ((a b : ℕ) → entry m a b ≡ (if nat_eq c a && nat_eq 0 b then Some j else entry k.forms a b))
    → Keeps new (record k { sharing = s; forms = m })
form-kept old new k s m u l c n j grows h normal shares is puts g a =
    let q = keeps-grown old new k grows h g a in
    record {
      facts = q.facts;
      shared = shares g a q.shared;
      forms = forms-more g k.forms m c j puts (along (HasNormalForm cores (g c)) (sym (is g a q.shared).core) (normal.normal g a).form) q.forms;
    }

plus-comm : (m n : ℕ) → m + n ≡ n + m
plus-comm m n = omega arith

pub new-known : (g : ℕ → Core) (fs : Facts) (s : Sharing) (m : Memo ℕ) → fs.found.items ≡ [] → s.firsts.items ≡ [] → ((a b : ℕ) → entry m a b ≡ None)
    → IsKnown g (record { facts = fs; sharing = s; forms = m })
new-known g fs s m e f n = record {
  facts = no-facts g fs.found.items e;
  shared = none-shared g s.firsts.items f;
  forms = λ c d k p. absurd (let q = n c d in cc);
}

-- one that is known costs nothing
costless : (u : ℕ) (e f : Core) → HasNormalForm cores e f → IsNormal u u e f
costless u e f (n, l, r) =
    let (c, w, p) = whole_cost_of_run cores n l e f r in
    let (h, t) = w in
    record {
      form = (n, l, r);
      extra = c;
      cost = (
        h,
        along (λ z. run (endless cores) h Whole z e ≡ Found f u) (plus-comm c u)
            (along (λ z. IsWithMore u z (run (endless cores) h Whole (c + u) e)) t (more_units (endless cores) h Whole c u e) ∙ ap (Found f) (omega arith)),
      );
    }

-- ---- the normal form of the first code like a code

module _ (old : Codes) (c k : ℕ) (is : (g : ℕ → Core) → Models old g → IsShareOf g c k) where
  pub form-known : (u j : ℕ) → j < count old → ((g : ℕ → Core) → Models old g → HasNormalForm cores (g k) (g j)) → IsNormalCode old u u (λ g. g c) j
  form-known u j there h = record { there = there; normal = λ g m. costless u (g c) (g j) (along (λ z. HasNormalForm cores z (g j)) (is g m).core (h g m)) }

  pub form-found : (new : Codes) (u l j : ℕ) → Grows old new → IsNormalCode new u l (λ g. g k) j → IsNormalCode new u l (λ g. g c) j
  form-found new u l j grows n = record {
    there = n.there;
    normal = λ g m. along (λ z. IsNormal u l z (g j)) (is g (models-before old new g grows m)).core (n.normal g m);
  }

  pub form-stopped : (u : ℕ) (h : NormFault) → IsStopped old u (λ g. g k) h → IsStopped old u (λ g. g c) h
  form-stopped u h s g m = along (λ z. IsLicensedHalt u z h) (is g m).core (s g m)

-- ---- codes that are their own normal forms

module _ (cs : Codes) (k : Known) (c : ℕ) (h : Keeps cs k) (own : (g : ℕ → Core) → Models cs g → IsKnown g k → IsOwnForm (g c)) where
  pub own-kept : (m : Memo ℕ) → ((a b : ℕ) → entry m a b ≡ (if nat_eq c a && nat_eq 0 b then Some c else entry k.forms a b)) → Keeps cs (record k { forms = m })
  own-kept m puts g a =
      let q = h g a in
      record {
        facts = q.facts;
        shared = q.shared;
        forms = forms-more g k.forms m c c puts (own g a q) q.forms;
      }

  pub own-found : (u : ℕ) → c < count cs → IsNormalCode cs u u (λ g. g c) c
  own-found u there = record { there = there; normal = λ g m. costless u (g c) (g c) (own g m (h g m)) }

pub own-known : (k : Known) (c first form : ℕ) → ((g : ℕ → Core) → AreShared g k.sharing.firsts.items → g first ≡ g c) → entry k.forms first 0 ≡ Some form → form ≡ first
    → (g : ℕ → Core) → IsKnown g k → IsOwnForm (g c)
own-known k c first form is kept same g q =
    along IsOwnForm (is g q.shared) (along (λ z. HasNormalForm cores (g first) (g z)) same (q.forms first 0 form kept))
