-- What is left is the same where the later outcomes still stand.
use Rattle.std.specs.Prelude.{◌≡◌, ◌⊎◌, true, false, if◌then◌else◌, [], ◌∷◌, Some, None, refl}
use Rattle.std.proofs.Common.{ap, sym, ◌∙◌, subst, inl, inr}
use Rattle.dh_syntax.specs.declared.locations.Key.{Key}
use Rattle.dh_syntax.specs.Imports.Keys.{key_eq}
use Rattle.dh_imports.specs.Keeps.{asked_by}
use Rattle.dh_imports.specs.Machine.{IsAmong}
use Rattle.dh_imports.specs.Outcomes.{Outcome}
use Rattle.dh_imports.specs.Records.{Record}
use Rattle.dh_imports.specs.Resolver.{Plan, Unknown, Now, Walks, Asks, plan, of_plan, stage}
use Rattle.dh_imports.specs.Walk.{Ask}
use Rattle.dh_laws.proofs.KeyOrder.{bool-case, true_false, none-some, key_eq-true}
use Rattle.dh_import_laws.proofs.Calm.{at-same, at-other, at-grown}
use Rattle.dh_import_laws.proofs.Grow.{Longer, longer-itself, PlanGrown, plan-grown}
use Rattle.dh_import_laws.proofs.Walks.{Knows}
use Rattle.dh_watch_laws.specs.Kept.{Outcomes, known, Found, one_more}
use Rattle.dh_watch_laws.specs.Sweeping.{is_due, left, put_before, left_in_place, with_texts, SweptInPlace}
use Rattle.dh_watch_laws.proofs.Depending.{asked-alike, planned-alike}
use Rattle.dh_watch_laws.proofs.Settling.{due-settled}
use Rattle.dh_watch_laws.proofs.Sweeping.{due-grown, left-known}
use Rattle.dh_watch_laws.proofs.Visiting.{ended-due}

-- the oldest of outcomes that were found were found
pub found-before : (r : Record) (ps l : Outcomes) → Found r (put_before ps l) → Found r l
found-before r [] l f = f
found-before r (p ∷ ps) l f = tail (found-before r ps (p ∷ l) f)
  where
    tail : Found r (p ∷ l) → Found r l
    tail (one_more g e c n q) = g

fresh : (r : Record) (k : Key) (o : Outcome) (l : Outcomes) → Found r ((k, o) ∷ l) → known l k ≡ None
fresh r k o l (one_more g e c n q) = e

due-first : (r : Record) (k : Key) (o : Outcome) (l : Outcomes) → Found r ((k, o) ∷ l) → is_due (stage r (known l) k) ≡ true
due-first r k o l (one_more g e c n q) = ended-due r n k (stage r (known l) k) o q

-- what is known of a key that an older outcome is of, whatever stands in the place of the older ones
over : (r : Record) (ps a b : Outcomes) → Found r (put_before ps b) → (x : Key) (p : Outcome) → known b x ≡ Some p → known (put_before ps a) x ≡ known a x
over r [] a b f x p e = refl
over r ((k, o) ∷ ps) a b f x p e =
    let new = fresh r k o b (found-before r ps ((k, o) ∷ b) f) in
    over r ps ((k, o) ∷ a) ((k, o) ∷ b) f x p (at-grown b k o new x p e) ∙ at-other a k x o (apart new)
  where
    apart : known b k ≡ None → key_eq k x ≡ false
    apart n = go (bool-case (key_eq k x))
      where
        go : (key_eq k x ≡ true) ⊎ (key_eq k x ≡ false) → key_eq k x ≡ false
        go (inr u) = u
        go (inl t) = none-some n (subst (λ z. known b z ≡ Some p) (sym (key_eq-true k x t)) e)

one-more : (a b : Outcomes) (k : Key) (o : Outcome) → Knows (known a) (known b) → Knows (known ((k, o) ∷ a)) (known ((k, o) ∷ b))
one-more a b k o h x p e = go (bool-case (key_eq k x))
  where
    go : (key_eq k x ≡ true) ⊎ (key_eq k x ≡ false) → known ((k, o) ∷ b) x ≡ Some p
    go (inl t) = at-same b k x o t ∙ sym (at-same a k x o t) ∙ e
    go (inr u) = at-other b k x o u ∙ h x p (sym (at-other a k x o u) ∙ e)

more-before : (ps a b : Outcomes) → Knows (known a) (known b) → Knows (known (put_before ps a)) (known (put_before ps b))
more-before [] a b h = h
more-before ((k, o) ∷ ps) a b h = more-before ps ((k, o) ∷ a) ((k, o) ∷ b) (one-more a b k o h)

module _ (r r1 : Record) (longer : Longer r1 r) (ps l : Outcomes) (k : Key) (o : Outcome) (f : Found r (put_before ps ((k, o) ∷ l))) where
  abbrev there : Ask
  there = known (put_before ps ((k, o) ∷ left r1 l))

  abbrev whole : Ask
  whole = known (put_before ps ((k, o) ∷ l))

  first : Found r ((k, o) ∷ l)
  first = found-before r ps ((k, o) ∷ l) f

  new : known l k ≡ None
  new = fresh r k o l first

  older : Found r l
  older = found-before r ((k, o) ∷ []) l first

  -- the outcomes that are left know as the whole does
  there-whole : Knows (known (put_before ps ((k, o) ∷ left r1 l))) (known (put_before ps ((k, o) ∷ l)))
  there-whole = more-before ps ((k, o) ∷ left r1 l) ((k, o) ∷ l) (one-more (left r1 l) l k o (left-known r1 r older))

  old-there : (x : Key) (p : Outcome) → known l x ≡ Some p → known (put_before ps ((k, o) ∷ left r1 l)) x ≡ known (left r1 l) x
  old-there x p e =
      over r ps ((k, o) ∷ left r1 l) ((k, o) ∷ l) f x p (at-grown l k o new x p e) ∙ at-other (left r1 l) k x o (apart (bool-case (key_eq k x)))
    where
      apart : (key_eq k x ≡ true) ⊎ (key_eq k x ≡ false) → key_eq k x ≡ false
      apart (inr u) = u
      apart (inl t) = none-some new (subst (λ z. known l z ≡ Some p) (sym (key_eq-true k x t)) e)

  old-whole : Knows (known l) (known (put_before ps ((k, o) ∷ l)))
  old-whole x p e = over r ps ((k, o) ∷ l) ((k, o) ∷ l) f x p (at-grown l k o new x p e) ∙ at-grown l k o new x p e

  left-there : Knows (known (left r1 l)) (known (put_before ps ((k, o) ∷ left r1 l)))
  left-there x p e = old-there x p (left-known r1 r older x p e) ∙ e

  -- where the last step is due by what stands, the key asks what it asked when it was found
  same-plan : (a : Ask) (p q : Plan) → PlanGrown p q → is_due (of_plan a k p) ≡ true → q ≡ p
  same-plan a (Unknown p) q g d = true_false d refl
  same-plan a (Now i) q g d = g
  same-plan a (Walks e allow) q g d = g
  same-plan a (Asks j) q g d = g

  module _ (d : is_due (stage r1 (known (put_before ps ((k, o) ∷ left r1 l))) k) ≡ true) where
    plan-is : plan r k ≡ plan r1 k
    plan-is = same-plan (known (put_before ps ((k, o) ∷ left r1 l))) (plan r1 k) (plan r k) (plan-grown r1 r longer k) d

    was-due : is_due (of_plan (known l) k (plan r1 k)) ≡ true
    was-due = subst (λ z. is_due (of_plan (known l) k z) ≡ true) plan-is (due-first r k o l first)

    asked-now : asked_by (known (put_before ps ((k, o) ∷ left r1 l))) k (plan r1 k) ≡ asked_by (known (put_before ps ((k, o) ∷ l))) k (plan r1 k)
    asked-now =
        asked-alike (known (put_before ps ((k, o) ∷ left r1 l))) (known (put_before ps ((k, o) ∷ l))) k (plan r1 k)
        (λ y m. let s = due-settled (known (put_before ps ((k, o) ∷ left r1 l))) k (plan r1 k) d y m in s.1 ∙ sym (there-whole y s.0 s.1))

    asked-then : asked_by (known l) k (plan r1 k) ≡ asked_by (known (put_before ps ((k, o) ∷ l))) k (plan r1 k)
    asked-then =
        asked-alike (known l) (known (put_before ps ((k, o) ∷ l))) k (plan r1 k)
        (λ y m. let s = due-settled (known l) k (plan r1 k) was-due y m in s.1 ∙ sym (old-whole y s.0 s.1))

    same-stage : stage r1 (known (put_before ps ((k, o) ∷ left r1 l))) k ≡ stage r1 (known (left r1 l)) k
    same-stage =
        planned-alike (known (put_before ps ((k, o) ∷ left r1 l))) (known (left r1 l)) k (plan r1 k)
        (λ y m.
        let n : IsAmong y (asked_by (known l) k (plan r1 k)) = subst (λ z. IsAmong y z) (asked-now ∙ sym asked-then) m in
        let s = due-settled (known l) k (plan r1 k) was-due y n in
        old-there y s.0 s.1)

  pub same-due : is_due (stage r1 (known (put_before ps ((k, o) ∷ left r1 l))) k) ≡ is_due (stage r1 (known (left r1 l)) k)
  same-due = go (bool-case (is_due (stage r1 (known (put_before ps ((k, o) ∷ left r1 l))) k))) (bool-case (is_due (stage r1 (known (left r1 l)) k)))
    where
      go : (is_due (stage r1 (known (put_before ps ((k, o) ∷ left r1 l))) k) ≡ true) ⊎ (is_due (stage r1 (known (put_before ps ((k, o) ∷ left r1 l))) k) ≡ false)
          → (is_due (stage r1 (known (left r1 l)) k) ≡ true) ⊎ (is_due (stage r1 (known (left r1 l)) k) ≡ false)
          → is_due (stage r1 (known (put_before ps ((k, o) ∷ left r1 l))) k) ≡ is_due (stage r1 (known (left r1 l)) k)
      go (inl d) e = ap is_due (same-stage d)
      go (inr n) (inr m) = n ∙ sym m
      go (inr n) (inl e) =
          let s = due-grown r1 r1 (longer-itself r1) (known (left r1 l)) (known (put_before ps ((k, o) ∷ left r1 l))) left-there k (stage r1 (known (left r1 l)) k) e refl in
          true_false (ap is_due s ∙ e) n

in-place : (r r1 : Record) → Longer r1 r → (ps l : Outcomes) → Found r (put_before ps l) → left_in_place r1 (left r1 l) ps ≡ left r1 (put_before ps l)
in-place r r1 longer [] l f = refl
in-place r r1 longer ((k, o) ∷ ps) l f = go (bool-case (is_due (stage r1 (known (left r1 l)) k))) (in-place r r1 longer ps ((k, o) ∷ l) f)
  where
    same : is_due (stage r1 (known (put_before ps ((k, o) ∷ left r1 l))) k) ≡ is_due (stage r1 (known (left r1 l)) k)
    same = same-due r r1 longer ps l k o f

    go : (is_due (stage r1 (known (left r1 l)) k) ≡ true) ⊎ (is_due (stage r1 (known (left r1 l)) k) ≡ false)
        → left_in_place r1 (left r1 ((k, o) ∷ l)) ps ≡ left r1 (put_before ps ((k, o) ∷ l))
        → left_in_place r1 (left r1 l) ((k, o) ∷ ps) ≡ left r1 (put_before ps ((k, o) ∷ l))
    go (inl d) i =
        ap (λ b. if b then left_in_place r1 ((k, o) ∷ left r1 l) ps else left_in_place r1 (left r1 l) ps) (same ∙ d)
        ∙ sym (ap (λ b. left_in_place r1 (if b then (k, o) ∷ left r1 l else left r1 l) ps) d) ∙ i
    go (inr u) i =
        ap (λ b. if b then left_in_place r1 ((k, o) ∷ left r1 l) ps else left_in_place r1 (left r1 l) ps) (same ∙ u)
        ∙ sym (ap (λ b. left_in_place r1 (if b then (k, o) ∷ left r1 l else left r1 l) ps) u) ∙ i

pub swept_in_place : SweptInPlace
swept_in_place s texts ps h of e =
    in-place s.recorded (with_texts s.recorded texts) (record { texts = of; looks = λ d look q. q }) ps [] (subst (Found s.recorded) e h.found)
    ∙ ap (left (with_texts s.recorded texts)) (sym e)
