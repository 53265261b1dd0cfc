-- How far the walks of the texts of keys are known to come.
use Rattle.std.specs.Prelude.{◌≡◌, Bool, true, false, if◌then◌else◌, ℕ, List, Option, Some, None, refl}
use Rattle.std.proofs.Common.{ap, sym, ◌∙◌, subst, Bor}
use Rattle.dh_syntax.specs.declared.locations.Key.{Key}
use Rattle.dh_syntax.specs.Expressions.Bridge.{term}
use Rattle.dh_syntax.specs.Expressions.Tree.{Term}
use Rattle.dh_imports.specs.declared.outcomes.Why.TheVariants.{Insane}
use Rattle.dh_imports.specs.Outcomes.{Outcome}
use Rattle.dh_imports.specs.Records.{Record}
use Rattle.dh_imports.specs.Resolver.{Plan, Walks, of_plan, of_walk, plan}
use Rattle.dh_imports.specs.Walk.{Ask, Walked, Ready, Fails, Turns, Needs, by_outcome, is_sane, walk, walk_key}
use Rattle.dh_import_laws.proofs.Grow.{Longer, PlanGrown, plan-grown}
use Rattle.dh_import_laws.proofs.Walks.{Knows}
use Rattle.dh_demand.specs.declared.ends.Next.TheVariants as next
use Rattle.dh_demand.specs.declared.headways.Headway.{Headway}
use Rattle.dh_demand.specs.declared.headways.Headway.TheVariants as headway
use Rattle.dh_demand.specs.declared.scans.Scan.{Scan}
use Rattle.dh_demand.specs.declared.scans.Edge.{Edge}
use Rattle.dh_demand.specs.Headways.{IsHeadway, IsPassed, IsStraightPast}
use Rattle.dh_demand.specs.Nexts.{IsNext}
use Rattle.dh_demand.specs.Results.{Row, ask_of}
use Rattle.dh_demand.specs.Scans.{Fits, text_key}
use Rattle.dh_demand.proofs.Straight.{passed-longer}
use Rattle.dh_record.specs.declared.kinds.Kind.TheVariants as kinds
use Rattle.dh_record.specs.declared.stage.plans.Plan.TheVariants as plans
use Rattle.dh_record.specs.declared.stage.reaches.Reach.{Reach}
use Rattle.dh_record.specs.declared.stage.reaches.Reach.TheVariants as reaches
use Rattle.dh_record.specs.Reading.{IsPlan, IsReach}
use Rattle.dh_record.specs.Ways.{IsWay}
use Rattle.dh_record.proofs.Reaching.{plan_walks}

-- ---- what a walk comes to

module _ (rows : List Row) (k : Key) (allow : Option (List ℕ)) where
  pub reach-needs : (w : Walked Term) (n : ℕ) → IsNext (Some k.loc) rows w (next.Need n) → IsReach rows k (of_walk allow w) (reaches.Wait n)
  reach-needs (Ready e) n h = absurd h
  reach-needs (Fails b) n h = absurd h
  reach-needs (Turns j) n h = absurd h
  reach-needs (Needs y) n h = h

  pub reach-ready : (w : Walked Term) → IsNext (Some k.loc) rows w next.Ready → IsReach rows k (of_walk allow w) (reaches.Due kinds.Finish)
  reach-ready (Ready e) h = tt
  reach-ready (Fails b) h = absurd h
  reach-ready (Turns j) h = absurd h
  reach-ready (Needs y) h = absurd h

  pub reach-fault : (w : Walked Term) (e : Edge) → IsNext (Some k.loc) rows w (next.Fault e) → IsReach rows k (of_walk allow w) (reaches.Due kinds.Finish)
  reach-fault (Ready v) e h = absurd h
  reach-fault (Fails b) e h = tt
  reach-fault (Turns j) e h = tt
  reach-fault (Needs y) e h = absurd h

-- ---- a key with a text to walk

module _ (r : Record) (rows : List Row) (k : Key) (s : Bor Scan) (a : Bor (Option (List ℕ))) (h : IsPlan rows k (plan r k) (plans.Walk s a)) where
  pub way-fits : Fits (Some k.loc) rows (term s.now.expr) s.now.edges
  way-fits = let w = plan_walks rows k (plan r k) s a h in subst (λ e. Fits (Some k.loc) rows e s.now.edges) w.3.expr_is w.3.fits

  pub way-begins : (way : Headway) → IsWay r (ask_of rows) k way → IsHeadway (Some k.loc) (ask_of rows) (term s.now.expr) way
  way-begins headway.Unknown p = tt
  way-begins headway.Branching p = tt
  way-begins (headway.Straight n passed) p =
      let w = plan_walks rows k (plan r k) s a h in
      let same : Walks p.code p.allow ≡ Walks w.0 w.1 = sym p.plan_is ∙ w.2 in
      let code : p.code ≡ w.0 = cc in
      subst (λ e. IsStraightPast (Some k.loc) (ask_of rows) e n passed) (code ∙ w.3.expr_is) p.past

  pub way-ends : (way : Headway) → IsHeadway (Some k.loc) (ask_of rows) (term s.now.expr) way → IsWay r (ask_of rows) k way
  way-ends headway.Unknown p = tt
  way-ends headway.Branching p = tt
  way-ends (headway.Straight n passed) p =
      let w = plan_walks rows k (plan r k) s a h in
      record { code = w.0; allow = w.1; plan_is = w.2; past = subst (λ e. IsStraightPast (Some k.loc) (ask_of rows) e n passed) (sym w.3.expr_is) p }

  pub way-reach : (x : Reach)
      → (text_key (Some k.loc) ≡ Some k → (allow : Option (List ℕ)) → IsReach rows k (of_walk allow (walk (Some k) (ask_of rows) (term s.now.expr))) x)
      → IsReach rows k (of_plan (ask_of rows) k (plan r k)) x
  way-reach x f =
      let w = plan_walks rows k (plan r k) s a h in
      let whole : of_plan (ask_of rows) k (plan r k) ≡ of_walk w.1 (walk (Some k) (ask_of rows) (term s.now.expr)) =
      ap (of_plan (ask_of rows) k) w.2 ∙ ap (λ e. of_walk w.1 (walk (Some k) (ask_of rows) e)) w.3.expr_is in
      subst (λ z. IsReach rows k z x) (sym whole) (f w.3.text_is w.1)

-- ---- more is known

module _ (parent : Option Key) (k : Key) (less more : Ask) (h : Knows less more) where
  still-passed : (t : Bool) (o : Option Outcome) → less k ≡ o
      → IsPassed (if t then by_outcome parent k o else Fails (record { at = parent; why = Insane k.loc }))
      → IsPassed (if t then by_outcome parent k (more k) else Fails (record { at = parent; why = Insane k.loc }))
  still-passed false o e p = absurd p
  still-passed true None e p = absurd p
  still-passed true (Some o) e p = subst (λ z. IsPassed (by_outcome parent k z)) (sym (h k o e)) p

  passed-still : IsPassed (walk_key parent less k) → IsPassed (walk_key parent more k)
  passed-still p = still-passed (is_sane parent k) (less k) refl p

plan-stays : (p q : Plan) (e : Term) (allow : Option (List ℕ)) → p ≡ Walks e allow → PlanGrown p q → q ≡ Walks e allow
plan-stays p q e allow is g = subst (λ x. PlanGrown x q) is g

-- so far as a walk came, it comes by all that knows more
pub way-stays : (r r' : Record) → Longer r r' → (less more : Ask) → Knows less more → (k : Key) (way : Headway) → IsWay r less k way → IsWay r' more k way
way-stays r r' g less more h k headway.Unknown p = tt
way-stays r r' g less more h k headway.Branching p = tt
way-stays r r' g less more h k (headway.Straight n passed) p = record {
  code = p.code;
  allow = p.allow;
  plan_is = plan-stays (plan r k) (plan r' k) p.code p.allow p.plan_is (plan-grown r r' g k);
  past = record {
    straight = p.past.straight;
    count = p.past.count;
    are_passed = passed-longer (text_key (Some k.loc)) less more (λ j. passed-still (text_key (Some k.loc)) j less more h) passed _ p.past.are_passed;
  };
}

-- the same by a record that has the same plan for the key
pub way-same : (r r' : Record) (ask : Ask) (k : Key) → plan r' k ≡ plan r k → (way : Headway) → IsWay r ask k way → IsWay r' ask k way
way-same r r' ask k e headway.Unknown p = tt
way-same r r' ask k e headway.Branching p = tt
way-same r r' ask k e (headway.Straight n passed) p = record { code = p.code; allow = p.allow; plan_is = e ∙ p.plan_is; past = p.past }
