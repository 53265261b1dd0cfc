-- What is left to do for a key, and to which keys it leads.
use Rattle.std.specs.Prelude.{◌≡◌, ◌<◌, ℕ, if◌then◌else◌, List, ◌∷◌, length, Option, Some, None, is_none, refl, []}
use Rattle.std.specs.Option.{option_map}
use Rattle.std.proofs.Common.{ap, sym, ◌∙◌, subst, inl, inr, Bor}
use Rattle.dh_syntax.specs.declared.locations.Key.{Key}
use Rattle.dh_imports.specs.declared.outcomes.Outcome as program
use Rattle.dh_syntax.specs.Expressions.Bridge.{term}
use Rattle.dh_syntax.specs.Expressions.Tree.{Term}
use Rattle.dh_imports.specs.Machine.{IsAmong, leads_by}
use Rattle.dh_imports.specs.Outcomes.{Outcome, Good, Bad, Loop, plain}
use Rattle.dh_imports.specs.Resolver.{Plan, TextOf, LookOf, Unknown, Now, Walks, Asks, of_plan, of_bare, of_walk}
use Rattle.dh_imports.specs.Walk.{Walked, Ready, Fails, Turns, Needs, walk, wants}
use Rattle.dh_laws.proofs.KeyOrder.{some-equal}
use Rattle.dh_demand.specs.declared.ends.Next.{Next}
use Rattle.dh_demand.specs.declared.ends.Next.TheVariants as next
use Rattle.dh_demand.specs.declared.scans.Edge.{Edge}
use Rattle.dh_demand.specs.declared.scans.Scan.{Scan}
use Rattle.dh_demand.specs.Nexts.{IsNext}
use Rattle.dh_demand.specs.Results.{Row, number_of, outcome_at, ask_of}
use Rattle.dh_demand.specs.Scans.{text_key}
use Rattle.dh_demand.proofs.Numbers.{within, stands}
use Rattle.dh_record.specs.declared.stage.plans.Plan as program_plan
use Rattle.dh_record.specs.declared.stage.plans.Plan.TheVariants as plans
use Rattle.dh_record.specs.declared.kinds.Kind.TheVariants as kinds
use Rattle.dh_record.specs.declared.stage.reaches.Reach.{Reach}
use Rattle.dh_record.specs.declared.stage.reaches.Reach.TheVariants as reaches
use Rattle.dh_record.specs.Reading.{IsPlan, IsReach, IsWalk, IsNumbered}
use Rattle.dh_record.proofs.Reading.{wants_numbered}

module _ (rows : List Row) (k : Key) where
  -- ---- a key that asks another

  pub asked_inside : (p : Plan) (n : ℕ) → IsPlan rows k p (plans.Ask n) → n < length rows
  asked_inside (Unknown (TextOf l)) n h = absurd h
  asked_inside (Unknown (LookOf d)) n h = absurd h
  asked_inside (Now i) n h = absurd h
  asked_inside (Walks e allow) n h = absurd h
  asked_inside (Asks j) n h = within rows j n h

  pub asked-outcome : (j : Key) (n : ℕ) (o : Option program.Outcome) → number_of rows j ≡ Some n → outcome_at rows n ≡ Some o → ask_of rows j ≡ option_map plain o
  asked-outcome j n o h q =
      let s = stands rows j n h in
      s.asked ∙ ap (option_map plain) (some-equal (sym s.outcome_is ∙ q))

  -- ---- a key with a text to walk

  pub plan_walks : (p : Plan) (s : Bor Scan) (a : Bor (Option (List ℕ))) → IsPlan rows k p (plans.Walk s a) → (e : Term) × (allow : Option (List ℕ)) × (p ≡ Walks e allow) × IsWalk rows k e allow s.now a.now
  plan_walks (Unknown (TextOf l)) s a h = absurd h
  plan_walks (Unknown (LookOf d)) s a h = absurd h
  plan_walks (Now i) s a h = absurd h
  plan_walks (Walks e allow) s a h = (e, allow, refl, h)
  plan_walks (Asks j) s a h = absurd h

  pub walk_leads : (p : Plan) (s : Bor Scan) (a : Bor (Option (List ℕ))) → IsPlan rows k p (plans.Walk s a) → leads_by (ask_of rows) k p ≡ wants (text_key (Some k.loc)) (ask_of rows) (term s.now.expr)
  walk_leads p s a h =
      let w = plan_walks p s a h in
      ap (leads_by (ask_of rows) k) w.2 ∙ ap (wants (Some k) (ask_of rows)) w.3.expr_is ∙ ap (λ j. wants j (ask_of rows) (term s.now.expr)) (sym w.3.text_is)

  -- ---- the keys to which a key leads have numbers

  bare_numbered : (j i : Key) (o : Option Outcome) (n : ℕ) → number_of rows j ≡ Some n → IsAmong i (if is_none o then j ∷ [] else []) → IsNumbered rows i
  bare_numbered j i None n h (inl p) = subst (IsNumbered rows) p (n, h)
  bare_numbered j i None n h (inr m) = absurd m
  bare_numbered j i (Some o) n h m = absurd m

  pub leads_numbered : (p : Plan) (r : program_plan.Plan) (j : Key) → IsPlan rows k p r → IsAmong j (leads_by (ask_of rows) k p) → IsNumbered rows j
  leads_numbered (Unknown q) r j h m = absurd m
  leads_numbered (Now i) r j h m = absurd m
  leads_numbered (Walks e allow) (plans.Walk s a) j h m = wants_numbered (Some k) rows (ask_of rows) e (s.now.edges) j h.fits m
  leads_numbered (Walks e allow) plans.Fetch j h m = absurd h
  leads_numbered (Walks e allow) plans.Look j h m = absurd h
  leads_numbered (Walks e allow) (plans.Now d) j h m = absurd h
  leads_numbered (Walks e allow) (plans.Ask n) j h m = absurd h
  leads_numbered (Asks i) (plans.Ask n) j h m = bare_numbered i j (ask_of rows i) n h m
  leads_numbered (Asks i) plans.Fetch j h m = absurd h
  leads_numbered (Asks i) plans.Look j h m = absurd h
  leads_numbered (Asks i) (plans.Now d) j h m = absurd h
  leads_numbered (Asks i) (plans.Walk s a) j h m = absurd h
