-- The keys that are visited from a key on.
use Rattle.std.specs.Prelude.{◌≡◌, ◌⊎◌, ℕ, true, false, [], ◌∷◌, Some, refl}
use Rattle.std.proofs.Common.{ap, sym, ◌∙◌, subst, inl, inr}
use Rattle.dh_syntax.specs.declared.locations.Key.{Key}
use Rattle.dh_imports.specs.Keeps.{asked_by}
use Rattle.dh_imports.specs.Machine.{IsAmong}
use Rattle.dh_imports.specs.Outcomes.{Outcome}
use Rattle.dh_imports.specs.Records.{Record}
use Rattle.dh_imports.specs.Resolver.{plan, Stage, Has, Meets, Lacks, Waits, stage, ended, resolve}
use Rattle.dh_imports.specs.Walk.{Ask}
use Rattle.dh_laws.proofs.KeyOrder.{bool-case, none-some, key_eq-true}
use Rattle.dh_syntax.specs.Imports.Keys.{key_eq}
use Rattle.dh_import_laws.proofs.Walks.{Knows}
use Rattle.dh_import_laws.proofs.Grow.{longer-itself}
use Rattle.dh_import_laws.proofs.Calm.{at-other, at-grown}
use Rattle.dh_import_laws.proofs.Sound.{decided_all}
use Rattle.dh_watch_laws.specs.Kept.{Outcomes, known, Found, nothing, one_more}
use Rattle.dh_watch_laws.specs.Sweeping.{is_due}
use Rattle.dh_watch_laws.specs.Depending.{From, here, there}
use Rattle.dh_watch_laws.specs.Visiting.{IsClosed, AreThese, Visits, WaitsAreVisited, VisitsKept}
use Rattle.dh_watch_laws.proofs.Depending.{asked-alike}
use Rattle.dh_watch_laws.proofs.Holding.{log-of}
use Rattle.dh_watch_laws.proofs.Needing.{asked-needed}
use Rattle.dh_watch_laws.proofs.Settling.{AllSettled, due-settled}
use Rattle.dh_watch_laws.proofs.Sweeping.{due-grown}

pub waits_are_visited : WaitsAreVisited
waits_are_visited r ask more x y h b = there (asked-needed ask more h x (plan r x) y b.1) here

-- ---- closed outcomes

module _ (r : Record) (ask : Ask) (closed : IsClosed r ask) where
  all-settled : (k : Key) (o : Outcome) → ask k ≡ Some o → AllSettled ask (asked_by ask k (plan r k))
  all-settled k o e = due-settled ask k (plan r k) (closed k o e)

  pub from-settled : {k j : Key} → From r ask k j → (o : Outcome) × (ask k ≡ Some o) → (o : Outcome) × (ask j ≡ Some o)
  from-settled here s = s
  from-settled (there {k = k} {y = y} m f) s = from-settled f (all-settled k s.0 s.1 y m)

  module _ (more : Ask) (h : Knows ask more) where
    same-asked : (k : Key) (o : Outcome) → ask k ≡ Some o → asked_by ask k (plan r k) ≡ asked_by more k (plan r k)
    same-asked k o e = asked-alike ask more k (plan r k) (λ y m. let s = all-settled k o e y m in s.1 ∙ sym (h y s.0 s.1))

    pub from-more : {k j : Key} → From r ask k j → (o : Outcome) × (ask k ≡ Some o) → From r more k j
    from-more here s = here
    from-more (there {k = k} {y = y} m f) s =
        there (subst (λ ks. IsAmong y ks) (same-asked k s.0 s.1) m) (from-more f (all-settled k s.0 s.1 y m))

    pub from-less : {k j : Key} → From r more k j → (o : Outcome) × (ask k ≡ Some o) → From r ask k j
    from-less here s = here
    from-less (there {k = k} {y = y} m f) s =
        let n : IsAmong y (asked_by ask k (plan r k)) = subst (λ ks. IsAmong y ks) (sym (same-asked k s.0 s.1)) m in
        there n (from-less f (all-settled k s.0 s.1 y n))

  pub visits : (k : Key) (o : Outcome) → ask k ≡ Some o → (n : ℕ) → AreThese r ask n → Visits r ask k
  visits k o e n t = record {
    units = n;
    these = t;
    same = λ j. (λ f. from-more (resolve r n []) t f (o, e), λ f. from-less (resolve r n []) t f (o, e));
    known = λ j f. from-settled f (o, e);
  }

-- ---- what is kept

pub ended-due : (r : Record) (n : ℕ) (k : Key) (s : Stage) (o : Outcome) → ended r n k s ≡ Some o → is_due s ≡ true
ended-due r n k (Has i) o h = refl
ended-due r n k (Meets j) o h = refl
ended-due r n k (Lacks p) o h = none-some refl h
ended-due r n k (Waits y) o h = none-some refl h

pub found-closed : (r : Record) {l : Outcomes} → Found r l → IsClosed r (known l)
found-closed r nothing k o h = none-some refl h
found-closed r (one_more {l = l} {k = k} {o = o} f e c n q) x p h = go (bool-case (key_eq k x)) (found-closed r f)
  where
    still : (z : Key) → is_due (stage r (known l) z) ≡ true → is_due (stage r (known ((k, o) ∷ l)) z) ≡ true
    still z d = ap is_due (due-grown r r (longer-itself r) (known l) (known ((k, o) ∷ l)) (at-grown l k o e) z (stage r (known l) z) d refl) ∙ d

    go : (key_eq k x ≡ true) ⊎ (key_eq k x ≡ false) → IsClosed r (known l) → is_due (stage r (known ((k, o) ∷ l)) x) ≡ true
    go (inl t) i = subst (λ z. is_due (stage r (known ((k, o) ∷ l)) z) ≡ true) (key_eq-true k x t) (still k (ended-due r n k (stage r (known l) k) o q))
    go (inr t) i = still x (i x p (sym (at-other l k x o t) ∙ h))

pub visits_kept : VisitsKept
visits_kept r l k o f e = let d = decided_all r (log-of r f) in visits r (known l) (found-closed r f) k o e d.0 d.1
