-- Each location and each digest is recorded once: what is in flight is not recorded.
use Rattle.std.specs.Prelude.{◌≡◌, ◌⊎◌, ◌≤◌, ◌+◌, Bool, true, false, cond, List, [], ◌∷◌, Option, Some, None, count_by, refl}
use Rattle.std.proofs.Common.{ap, sym, ◌∙◌, subst, inl, inr, arith}
use Rattle.std.proofs.lemmas.List.Sums.{sum_by-cons}
use Rattle.dh_syntax.specs.declared.locations.Key.{Key}
use Rattle.dh_imports.specs.declared.outcomes.Why.{Why}
use Rattle.dh_syntax.specs.Expressions.SameTree.{digest_eq, loc_eq}
use Rattle.dh_syntax.specs.Expressions.Tree.{Term}
use Rattle.dh_imports.specs.Machine.{Fetch, Look, Event, Claim, Release, Fetched, Looked, Finished, Late, Cycled, with_limit, after_all, Lawful}
use Rattle.dh_imports.specs.Records.{lookup, Record}
use Rattle.dh_syntax.proofs.SameTree.{Tells, locs_tell, digests_tell}
use Rattle.dh_laws.proofs.KeyOrder.{bool-case, none-some}
use Rattle.dh_import_laws.specs.Recorded.{TextsAreRecordedOnce, LooksAreRecordedOnce}
use Rattle.dh_import_laws.proofs.Keep.{lawful-keeps, named-same, named-other}

-- no name stands among the later ones
abbrev pub AreApart : {A B : Type 0} → (A → A → Bool) → List (A × B) → Type 0
AreApart same [] = Unit {0}
AreApart same (p ∷ ps) = (lookup same ps p.0 ≡ None) × AreApart same ps

module _ {A B : Type 0} (same : A → A → Bool) (t : Tells same) where
  count_more : (p : A × B) (ps : List (A × B)) (a : A) → count_by (λ q. same q.0 a) (p ∷ ps) ≡ cond (same p.0 a) 1 0 + count_by (λ q. same q.0 a) ps
  count_more p ps a = sum_by-cons (λ q. cond (same q.0 a) 1 0) p ps

  count_none : (ps : List (A × B)) (a : A) → lookup same ps a ≡ None → count_by (λ q. same q.0 a) ps ≡ 0
  count_none [] a h = refl
  count_none (p ∷ ps) a h = go (bool-case (same p.0 a)) (λ e. count_none ps a e)
    where
      go : (same p.0 a ≡ true) ⊎ (same p.0 a ≡ false) → (lookup same ps a ≡ None → count_by (λ q. same q.0 a) ps ≡ 0) → count_by (λ q. same q.0 a) (p ∷ ps) ≡ 0
      go (inl e) f = none-some h (named-same t ps p.0 a p.1 e)
      go (inr e) f =
          let first : cond (same p.0 a) 1 0 ≡ 0 = ap (λ c. cond c 1 0) e in
          let rest = f (sym (named-other t ps p.0 a p.1 e) ∙ h) in
          count_more p ps a ∙ ap (λ n. n + count_by (λ q. same q.0 a) ps) first ∙ ap (λ n. 0 + n) rest

  count_once : (ps : List (A × B)) (a : A) → AreApart same ps → count_by (λ q. same q.0 a) ps ≤ 1
  count_once [] a h = omega arith
  count_once (p ∷ ps) a h = go (bool-case (same p.0 a)) (count_once ps a h.1)
    where
      counted : (c : Bool) → same p.0 a ≡ c → count_by (λ q. same q.0 a) (p ∷ ps) ≡ cond c 1 0 + count_by (λ q. same q.0 a) ps
      counted c e = count_more p ps a ∙ ap (λ c. cond c 1 0 + count_by (λ q. same q.0 a) ps) e

      go : (same p.0 a ≡ true) ⊎ (same p.0 a ≡ false) → count_by (λ q. same q.0 a) ps ≤ 1 → count_by (λ q. same q.0 a) (p ∷ ps) ≤ 1
      go (inl e) i =
          let none : count_by (λ q. same q.0 a) ps ≡ 0 = count_none ps a (subst (λ x. lookup same ps x ≡ None) (t.equal p.0 a e) h.0) in
          let all : count_by (λ q. same q.0 a) (p ∷ ps) ≡ 1 + count_by (λ q. same q.0 a) ps = counted true e in
          omega arith
      go (inr e) i =
          let all : count_by (λ q. same q.0 a) (p ∷ ps) ≡ 0 + count_by (λ q. same q.0 a) ps = counted false e in
          omega arith

-- ---- histories

abbrev TextsApart : Record → Type 0
TextsApart r = AreApart loc_eq r.texts

abbrev LooksApart : Record → Type 0
LooksApart r = AreApart digest_eq r.looks

limit-texts : (r : Record) (k : Key) (limit : Option Why) → TextsApart r → TextsApart (with_limit r k limit)
limit-texts r k None f = f
limit-texts r k (Some w) f = f

limit-looks : (r : Record) (k : Key) (limit : Option Why) → LooksApart r → LooksApart (with_limit r k limit)
limit-looks r k None f = f
limit-looks r k (Some w) f = f

pub texts_apart : (root : Term) (es : List Event) → Lawful root es → TextsApart (after_all root es).recorded
texts_apart root [] h = tt
texts_apart root (Claim worker t ∷ es) h = texts_apart root es h.0
texts_apart root (Release serial ∷ es) h = texts_apart root es h.0
texts_apart root (Fetched serial l text ∷ es) h = ((lawful-keeps root es h.0).fresh serial (Fetch l) h.1.0, texts_apart root es h.0)
texts_apart root (Looked serial d look ∷ es) h = texts_apart root es h.0
texts_apart root (Finished serial k item limit o ∷ es) h = limit-texts (after_all root es).recorded k limit (texts_apart root es h.0)
texts_apart root (Late serial news ∷ es) h = texts_apart root es h.0
texts_apart root (Cycled k ∷ es) h = texts_apart root es h.0

pub looks_apart : (root : Term) (es : List Event) → Lawful root es → LooksApart (after_all root es).recorded
looks_apart root [] h = tt
looks_apart root (Claim worker t ∷ es) h = looks_apart root es h.0
looks_apart root (Release serial ∷ es) h = looks_apart root es h.0
looks_apart root (Fetched serial l text ∷ es) h = looks_apart root es h.0
looks_apart root (Looked serial d look ∷ es) h = ((lawful-keeps root es h.0).fresh serial (Look d) h.1.0, looks_apart root es h.0)
looks_apart root (Finished serial k item limit o ∷ es) h = limit-looks (after_all root es).recorded k limit (looks_apart root es h.0)
looks_apart root (Late serial news ∷ es) h = looks_apart root es h.0
looks_apart root (Cycled k ∷ es) h = looks_apart root es h.0

pub texts_are_recorded_once : TextsAreRecordedOnce
texts_are_recorded_once root es l h = count_once loc_eq locs_tell (after_all root es).recorded.texts l (texts_apart root es h)

pub looks_are_recorded_once : LooksAreRecordedOnce
looks_are_recorded_once root es d h = count_once digest_eq digests_tell (after_all root es).recorded.looks d (looks_apart root es h)
