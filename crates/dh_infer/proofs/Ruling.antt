-- How far a rule of typing goes on what was found, and what follows from there.
use Rattle.std.specs.Prelude.{◌≡◌, ℕ, List, [], Option, Some, None, option_map, option_and_then, slice_get, refl}
use Rattle.std.proofs.Common.{ap, sym, ◌∙◌, inl, inr, subst as along}
use Rattle.dh_syntax.specs.declared.operators.Builtin.{Builtin}
use Rattle.dh_syntax.specs.Names.Nameless.{Core}
use Rattle.dh_syntax.specs.Typing.Inference.{FromNormal, Aside, Judgment}
use Rattle.dh_syntax.specs.Typing.TypeRules as rule
use Rattle.dh_syntax.specs.Typing.TypeRules.{Rule, rule_number}
use Rattle.dh_syntax.specs.Typing.TypeRuling as ruling
use Rattle.dh_syntax.specs.Typing.TypeRuling.{Ruling}
use Rattle.dh_syntax.specs.Typing.Typing as typings
use Rattle.dh_syntax.specs.Typing.Universes.{as_universe}
use Rattle.dh_types.specs.declared.steps.Found.{Found}
use Rattle.dh_types.specs.Following as course
use Rattle.dh_types.specs.Following.{Facts, Course, known_or, follow, normal_found, universe_found, facts_of}
use Rattle.dh_infer.specs.Inside.Debts.{whole, IsUniverse, AreUniverses, Leads}
use Rattle.dh_infer.specs.Inside.Machine.{AreNormals}
use Rattle.dh_infer.specs.Inside.OpenTyping.{typing_in}
use Rattle.dh_infer.specs.Inside.Rests.{reached, reach, settled_by}
use Rattle.dh_infer.proofs.Leading.{leads-known, leads-aside_type, leads-aside_none}

-- ---- what a rule answers that goes so far

-- the answer at the front of a rule
abbrev pub front : Ruling Core → Course Core
front (ruling.Takes t) = course.Takes t
front (ruling.Forms t) = course.Forms t
front (ruling.Refuses r) = course.Refuses (rule_number r)
front (ruling.WithNormal k next) = course.WantsNormal k
front (ruling.WithUniverse k next) = course.WantsUniverse k

front-known : {X : Type 0} (here : Ruling Core) (o : Option X) (after : X → Ruling Core) (after' : X → Course Core) → ((x : X) → front (after x) ≡ after' x) → front (reached here o after) ≡ known_or (front here) o after'
front-known here (Some x) after after' k = k x
front-known here None after after' k = refl

pub front-reach : (facts : Facts Core) (r : Ruling Core) → front (reach facts r) ≡ follow facts r
front-reach facts (ruling.Takes t) = refl
front-reach facts (ruling.Forms t) = refl
front-reach facts (ruling.Refuses r) = refl
front-reach facts (ruling.WithNormal k next) = front-known (ruling.WithNormal k next) (facts.normal k) (λ e. reach facts (next e)) (λ e. follow facts (next e)) (λ e. front-reach facts (next e))
front-reach facts (ruling.WithUniverse k next) = front-known (ruling.WithUniverse k next) (facts.universe k) (λ u. reach facts (next u)) (λ u. follow facts (next u)) (λ u. front-reach facts (next u))

-- what stands at the front of a rule
pub takes-front : (r : Ruling Core) (t : Core) → front r ≡ course.Takes t → r ≡ ruling.Takes t
takes-front (ruling.Takes v) t p = cc
takes-front (ruling.Forms v) t p = absurd cc
takes-front (ruling.Refuses q) t p = absurd cc
takes-front (ruling.WithNormal k next) t p = absurd cc
takes-front (ruling.WithUniverse k next) t p = absurd cc

pub forms-front : (r : Ruling Core) (t : Core) → front r ≡ course.Forms t → r ≡ ruling.Forms t
forms-front (ruling.Takes v) t p = absurd cc
forms-front (ruling.Forms v) t p = cc
forms-front (ruling.Refuses q) t p = absurd cc
forms-front (ruling.WithNormal k next) t p = absurd cc
forms-front (ruling.WithUniverse k next) t p = absurd cc

pub refuses-front : (r : Ruling Core) (n : ℕ) → front r ≡ course.Refuses n → (q : Rule) × (r ≡ ruling.Refuses q) × (n ≡ rule_number q)
refuses-front (ruling.Takes v) n p = absurd cc
refuses-front (ruling.Forms v) n p = absurd cc
refuses-front (ruling.Refuses q) n p = (q, refl, cc)
refuses-front (ruling.WithNormal k next) n p = absurd cc
refuses-front (ruling.WithUniverse k next) n p = absurd cc

pub normal-front : (r : Ruling Core) (k : ℕ) → front r ≡ course.WantsNormal k → (next : Core → Ruling Core) × (r ≡ ruling.WithNormal k next)
normal-front (ruling.Takes v) k p = absurd cc
normal-front (ruling.Forms v) k p = absurd cc
normal-front (ruling.Refuses q) k p = absurd cc
normal-front (ruling.WithNormal j next) k p = let e : j ≡ k = cc in (next, ap (λ i. ruling.WithNormal i next) e)
normal-front (ruling.WithUniverse j next) k p = absurd cc

pub universe-front : (r : Ruling Core) (k : ℕ) → front r ≡ course.WantsUniverse k → (next : Option Builtin → Ruling Core) × (r ≡ ruling.WithUniverse k next)
universe-front (ruling.Takes v) k p = absurd cc
universe-front (ruling.Forms v) k p = absurd cc
universe-front (ruling.Refuses q) k p = absurd cc
universe-front (ruling.WithNormal j next) k p = absurd cc
universe-front (ruling.WithUniverse j next) k p = let e : j ≡ k = cc in (next, ap (λ i. ruling.WithUniverse i next) e)

-- ---- what is asked for is not known

wanted-normal : {X : Type 0} (here : Ruling Core) (o : Option X) (after : X → Ruling Core) (k : ℕ) (P : Type 0)
    → ((x : X) → front (after x) ≡ course.WantsNormal k → P) → (o ≡ None → front here ≡ course.WantsNormal k → P) → front (reached here o after) ≡ course.WantsNormal k → P
wanted-normal here (Some x) after k P f n p = f x p
wanted-normal here None after k P f n p = n refl p

abbrev wants_normal : ℕ → Course Core
wants_normal k = course.WantsNormal k

number-once : (j k : ℕ) → wants_normal j ≡ wants_normal k → j ≡ k
number-once j k p = cc

pub asks-unknown_normal : (facts : Facts Core) (k : ℕ) (r : Ruling Core) → front (reach facts r) ≡ course.WantsNormal k → facts.normal k ≡ None
asks-unknown_normal facts k (ruling.Takes t) p = absurd cc
asks-unknown_normal facts k (ruling.Forms t) p = absurd cc
asks-unknown_normal facts k (ruling.Refuses q) p = absurd cc
asks-unknown_normal facts k (ruling.WithNormal j next) p =
    wanted-normal (ruling.WithNormal j next) (facts.normal j) (λ e. reach facts (next e)) k (facts.normal k ≡ None)
    (λ e q. asks-unknown_normal facts k (next e) q) (λ n q. along (λ i. facts.normal i ≡ None) (number-once j k q) n) p
asks-unknown_normal facts k (ruling.WithUniverse j next) p =
    wanted-normal (ruling.WithUniverse j next) (facts.universe j) (λ u. reach facts (next u)) k (facts.normal k ≡ None)
    (λ u q. asks-unknown_normal facts k (next u) q) (λ n q. absurd cc) p

wanted-universe : {X : Type 0} (here : Ruling Core) (o : Option X) (after : X → Ruling Core) (k : ℕ) (P : Type 0)
    → ((x : X) → front (after x) ≡ course.WantsUniverse k → P) → (o ≡ None → front here ≡ course.WantsUniverse k → P) → front (reached here o after) ≡ course.WantsUniverse k → P
wanted-universe here (Some x) after k P f n p = f x p
wanted-universe here None after k P f n p = n refl p

abbrev wants_universe : ℕ → Course Core
wants_universe k = course.WantsUniverse k

universe-once : (j k : ℕ) → wants_universe j ≡ wants_universe k → j ≡ k
universe-once j k p = cc

pub asks-unknown_universe : (facts : Facts Core) (k : ℕ) (r : Ruling Core) → front (reach facts r) ≡ course.WantsUniverse k → facts.universe k ≡ None
asks-unknown_universe facts k (ruling.Takes t) p = absurd cc
asks-unknown_universe facts k (ruling.Forms t) p = absurd cc
asks-unknown_universe facts k (ruling.Refuses q) p = absurd cc
asks-unknown_universe facts k (ruling.WithNormal j next) p =
    wanted-universe (ruling.WithNormal j next) (facts.normal j) (λ e. reach facts (next e)) k (facts.universe k ≡ None)
    (λ e q. asks-unknown_universe facts k (next e) q) (λ n q. absurd cc) p
asks-unknown_universe facts k (ruling.WithUniverse j next) p =
    wanted-universe (ruling.WithUniverse j next) (facts.universe j) (λ u. reach facts (next u)) k (facts.universe k ≡ None)
    (λ u q. asks-unknown_universe facts k (next u) q) (λ n q. along (λ i. facts.universe i ≡ None) (universe-once j k q) n) p

-- ---- with more known

-- the second facts are the first ones, and maybe more
pub record IsMore (old new : Facts Core) : Type 0 where
  pub normals : (k : ℕ) (e : Core) → old.normal k ≡ Some e → new.normal k ≡ Some e
  pub universes : (k : ℕ) (u : Option Builtin) → old.universe k ≡ Some u → new.universe k ≡ Some u

by-more : {X : Type 0} (old new : Facts Core) (here : Ruling Core) (o p : Option X) (next : X → Ruling Core)
    → ((x : X) → o ≡ Some x → p ≡ Some x)
    → ((x : X) → reach new (reach old (next x)) ≡ reach new (next x))
    → reach new here ≡ reached here p (λ x. reach new (next x))
    → reach new (reached here o (λ x. reach old (next x))) ≡ reached here p (λ x. reach new (next x))
by-more old new here (Some x) p next h k q = k x ∙ sym (ap (λ o. reached here o (λ y. reach new (next y))) (h x refl))
by-more old new here None p next h k q = q

pub reach-more : (old new : Facts Core) → IsMore old new → (r : Ruling Core) → reach new (reach old r) ≡ reach new r
reach-more old new m (ruling.Takes t) = refl
reach-more old new m (ruling.Forms t) = refl
reach-more old new m (ruling.Refuses q) = refl
reach-more old new m (ruling.WithNormal k next) =
    by-more old new (ruling.WithNormal k next) (old.normal k) (new.normal k) next (m.normals k) (λ e. reach-more old new m (next e)) refl
reach-more old new m (ruling.WithUniverse k next) =
    by-more old new (ruling.WithUniverse k next) (old.universe k) (new.universe k) next (m.universes k) (λ u. reach-more old new m (next u)) refl

-- what is found costs nothing
module _ (comes : Judgment Core → Type 0) (g : ℕ → Core) (ts es us : List Core) (found : Found) (a : AreNormals g ts es found) (b : AreUniverses ts us found) where
  abbrev facts : Facts Core
  facts = facts_of g found

  by-normal : (k : ℕ) (next : Core → Ruling Core) (units : ℕ) (o : Option ℕ)
      → ((c : ℕ) → o ≡ Some c → Leads comes (settled_by ts es us (next (g c))) units → Leads comes (settled_by ts es us (reach facts (next (g c)))) units)
      → ((c : ℕ) → o ≡ Some c → Leads comes (settled_by ts es us (ruling.WithNormal k next)) units → Leads comes (settled_by ts es us (next (g c))) units)
      → Leads comes (settled_by ts es us (ruling.WithNormal k next)) units
      → Leads comes (settled_by ts es us (reached (ruling.WithNormal k next) (option_map g o) (λ e. reach facts (next e)))) units
  by-normal k next units (Some c) ih pay l = ih c refl (pay c refl l)
  by-normal k next units None ih pay l = l

  pay-normal : (k : ℕ) (next : Core → Ruling Core) (units c : ℕ) → normal_found found k ≡ Some c → Leads comes (settled_by ts es us (ruling.WithNormal k next)) units → Leads comes (settled_by ts es us (next (g c))) units
  pay-normal k next units c p l =
      let (e, q, n, o) = a k c p in
      leads-known comes units (settled_by ts es us (ruling.WithNormal k next)) l e (λ f. settled_by ts es us (next f))
      (λ d. ap (λ z. typings.given_form z rule.NotResolved (λ e. FromNormal e (λ f. settled_by ts es us (next f) d))) q) (g c) n

  by-universe : (k : ℕ) (next : Option Builtin → Ruling Core) (units : ℕ) (o : Option (Option Builtin))
      → ((u : Option Builtin) → o ≡ Some u → Leads comes (settled_by ts es us (next u)) units → Leads comes (settled_by ts es us (reach facts (next u))) units)
      → ((u : Option Builtin) → o ≡ Some u → Leads comes (settled_by ts es us (ruling.WithUniverse k next)) units → Leads comes (settled_by ts es us (next u)) units)
      → Leads comes (settled_by ts es us (ruling.WithUniverse k next)) units
      → Leads comes (settled_by ts es us (reached (ruling.WithUniverse k next) o (λ u. reach facts (next u)))) units
  by-universe k next units (Some u) ih pay l = ih u refl (pay u refl l)
  by-universe k next units None ih pay l = l

  in-universe : (k : ℕ) (next : Option Builtin → Ruling Core) (units : ℕ) (t : Core) (u : Option Builtin) → slice_get us k ≡ Some t → IsUniverse (whole ts t) u
      → Leads comes (settled_by ts es us (ruling.WithUniverse k next)) units → Leads comes (settled_by ts es us (next u)) units
  in-universe k next units t u p (inl (v, h, q)) l =
      along (λ z. Leads comes (settled_by ts es us (next z)) units) q
      (leads-aside_type comes units (settled_by ts es us (ruling.WithUniverse k next)) l (whole ts t) (λ o. settled_by ts es us (next (option_and_then as_universe o)))
      (λ d. ap (λ z. typings.given_form z rule.NotResolved (λ t. Aside (typing_in ts d [] t) (λ u. settled_by ts es us (next (option_and_then as_universe u)) d))) p) v h)
  in-universe k next units t u p (inr (h, q)) l =
      along (λ z. Leads comes (settled_by ts es us (next z)) units) (sym q)
      (leads-aside_none comes units (settled_by ts es us (ruling.WithUniverse k next)) l (whole ts t) (λ o. settled_by ts es us (next (option_and_then as_universe o)))
      (λ d. ap (λ z. typings.given_form z rule.NotResolved (λ t. Aside (typing_in ts d [] t) (λ u. settled_by ts es us (next (option_and_then as_universe u)) d))) p) h)

  pub settled-known : (r : Ruling Core) (units : ℕ) → Leads comes (settled_by ts es us r) units → Leads comes (settled_by ts es us (reach facts r)) units
  settled-known (ruling.Takes t) units l = l
  settled-known (ruling.Forms t) units l = l
  settled-known (ruling.Refuses q) units l = l
  settled-known (ruling.WithNormal k next) units l =
      by-normal k next units (normal_found found k) (λ c p. settled-known (next (g c)) units) (λ c p. pay-normal k next units c p) l
  settled-known (ruling.WithUniverse k next) units l =
      by-universe k next units (universe_found found k) (λ u p. settled-known (next u) units) (λ u p. let (t, q, i) = b k u p in in-universe k next units t u q i) l
