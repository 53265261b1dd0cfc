-- The stage of a key by its plan, and on what its last step is due.
use Rattle.std.specs.Prelude.{◌≡◌, ℕ, List, Option, Some, None, Result, Ok, Err, refl}
use Rattle.std.specs.Option.{option_map}
use Rattle.std.proofs.Common.{ap, sym, ◌∙◌, subst, Bor}
use Rattle.dh_syntax.specs.declared.expressions.Expr.{Expr}
use Rattle.dh_syntax.specs.declared.faults.ParseFault.{ParseFault}
use Rattle.dh_syntax.specs.declared.locations.Key.{Key}
use Rattle.dh_imports.specs.declared.outcomes.Blame.{Blame}
use Rattle.dh_imports.specs.declared.outcomes.Origin.{Origin}
use Rattle.dh_imports.specs.declared.outcomes.Outcome as program
use Rattle.dh_imports.specs.declared.outcomes.Outcome.TheVariants as variants
use Rattle.dh_imports.specs.declared.outcomes.Why.{Why}
use Rattle.dh_imports.specs.declared.outcomes.Why.TheVariants as whys
use Rattle.dh_syntax.specs.Expressions.Bridge.{term}
use Rattle.dh_syntax.specs.Expressions.Tree.{Term}
use Rattle.dh_imports.specs.LastStep as last
use Rattle.dh_imports.specs.Records as found
use Rattle.dh_imports.specs.Outcomes.{Outcome, plain}
use Rattle.dh_imports.specs.Resolver.{Plan, Stage, TextOf, LookOf, Lacks, Has, Meets, Waits, Unknown, Now, Walks, Asks, of_plan, of_bare, of_walk}
use Rattle.dh_imports.specs.Walk.{Walked, Ready, Fails, Turns, Needs, walk}
use Rattle.dh_demand.specs.declared.ends.Next.TheVariants as next
use Rattle.dh_demand.specs.declared.scans.Scan.{Scan}
use Rattle.dh_demand.specs.Nexts.{IsNext}
use Rattle.dh_demand.specs.Results.{Row, number_of, outcome_at, ask_of}
use Rattle.dh_demand.specs.Scans.{Fits, text_key}
use Rattle.dh_demand.specs.Values.{IsReady}
use Rattle.dh_ports.specs.declared.worlds.Found.{Found}
use Rattle.dh_ports.specs.declared.worlds.Got.{Got}
use Rattle.dh_ports.specs.declared.worlds.Got.TheVariants as gots
use Rattle.dh_record.specs.declared.kinds.Kind.TheVariants as kinds
use Rattle.dh_record.specs.declared.news.Noted.TheVariants as noteds
use Rattle.dh_record.specs.declared.rows.recorded.Text.{Text}
use Rattle.dh_record.specs.declared.stage.dues.Due as program_due
use Rattle.dh_record.specs.declared.stage.dues.Due.TheVariants as dues
use Rattle.dh_record.specs.declared.stage.dues.Reason.{Reason}
use Rattle.dh_record.specs.declared.stage.dues.Reason.TheVariants as reasons
use Rattle.dh_record.specs.declared.stage.plans.Plan.TheVariants as plans
use Rattle.dh_record.specs.declared.stage.reaches.Reach.TheVariants as reaches
use Rattle.dh_record.specs.declared.stage.stages.Stage as program_stage
use Rattle.dh_record.specs.declared.stage.stages.Stage.TheVariants as stages
use Rattle.dh_record.specs.declared.items.Body.TheVariants as body
use Rattle.dh_record.specs.declared.items.Item.{Item}
use Rattle.dh_record.specs.Due.{IsBlame, IsItem, term_read}
use Rattle.dh_record.specs.Dues.{IsCodeAt, IsDueOn, IsStage, blame_by, by_blame, reach_by}
use Rattle.dh_record.specs.Items.{by_fault, stage_of_item}
use Rattle.dh_record.specs.Reading.{IsPlan, IsReach, IsWalk, noted_of}
use Rattle.dh_record.specs.Rows.{noted_by, scanned}
use Rattle.dh_record.proofs.Blaming.{blamed_bare, walk_blamed}
use Rattle.dh_record.proofs.Reaching.{plan_walks}
use Rattle.dh_record.proofs.Reading.{asked_number}

-- what a found text is noted as
pub noted_read : (t : Text) (g : Got) (f : Found) (r : Result Scan ParseFault) → t.got ≡ noteds.Got g → g ≡ gots.Found f → t.read ≡ Some r → noted_of t ≡ found.Found f.bytes f.allow (term_read r)
noted_read t g f r p q h = (λ i. noted_by ((p ∙ ap noteds.Got q) i) (scanned (h i))) ∙ by_read r
  where
    by_read : (x : Result Scan ParseFault) → noted_by (noteds.Got (gots.Found f)) (scanned (Some x)) ≡ found.Found f.bytes f.allow (term_read x)
    by_read (Ok s) = refl
    by_read (Err e) = refl

module _ (rows : List Row) (k : Key) where
  -- ---- a text that is walked

  pub walk_waits : (allow : Option (List ℕ)) (w : Walked Term) (n : ℕ) → IsNext (Some k.loc) rows w (next.Need n) → IsStage rows k (of_walk allow w) (stages.Wait n)
  walk_waits allow (Ready e) n h = absurd h
  walk_waits allow (Fails b) n h = absurd h
  walk_waits allow (Turns j) n h = absurd h
  walk_waits allow (Needs y) n h = (y, refl, h)

  pub walk_ready : (allow : Option (List ℕ)) (s : Scan) (w : Walked Term) → Fits (Some k.loc) rows (term s.expr) s.edges → walk (text_key (Some k.loc)) (ask_of rows) (term s.expr) ≡ w
      → IsNext (Some k.loc) rows w next.Ready → IsCodeAt rows k (of_walk allow w) s allow
  walk_ready allow s (Ready v) f e h = record { value = v; stage_is = refl; ready = record { fits = f; ready = e } }
  walk_ready allow s (Fails b) f e h = absurd h
  walk_ready allow s (Turns j) f e h = absurd h
  walk_ready allow s (Needs y) f e h = absurd h

  -- the walk of a text is that of its key
  pub of_text : (s : Scan) (allow : Option (List ℕ)) → text_key (Some k.loc) ≡ Some k → of_walk allow (walk (text_key (Some k.loc)) (ask_of rows) (term s.expr)) ≡ of_walk allow (walk (Some k) (ask_of rows) (term s.expr))
  of_text s allow p = ap (λ x. of_walk allow (walk x (ask_of rows) (term s.expr))) p

  pub walk_stops : (allow : Option (List ℕ)) (w : Walked Term) (r : Reason) → text_key (Some k.loc) ≡ Some k → IsBlame w (blame_by (text_key (Some k.loc)) r) → of_walk allow w ≡ by_blame (blame_by (Some k) r)
  walk_stops allow w r p h = walk_blamed allow w (blame_by (text_key (Some k.loc)) r) h ∙ ap (λ x. by_blame (blame_by x r)) p

  -- ---- a key that asks the one without digest

  pub bare_good : (j : Key) (o : Option program.Outcome) (v : Expr) (r : Origin) → o ≡ Some (variants.Good v r) → of_bare j (option_map plain o) ≡ Has (last.Compare (term v) r)
  bare_good j o v r h = ap (λ x. of_bare j (option_map plain x)) h

  pub bare_bad : (j : Key) (o : Option program.Outcome) (b : Blame) → o ≡ Some (variants.Bad b) → of_bare j (option_map plain o) ≡ by_blame b
  bare_bad j o b h = ap (λ x. of_bare j (option_map plain x)) h ∙ blamed_bare j b.at b.why

  pub bare_waits : (j : Key) (o : Option program.Outcome) (n : ℕ) → o ≡ None → number_of rows j ≡ Some n → IsStage rows k (of_bare j (option_map plain o)) (stages.Wait n)
  bare_waits j o n h p = (j, ap (λ x. of_bare j (option_map plain x)) h, p)

  -- ---- by the plan

  pub now_stage : (p : Plan) (d : program_due.Due) → IsPlan rows k p (plans.Now d) → IsDueOn rows k (of_plan (ask_of rows) k p) d
  now_stage (Now i) d h = h
  now_stage (Unknown (TextOf l)) d h = absurd h
  now_stage (Unknown (LookOf l)) d h = absurd h
  now_stage (Walks e allow) d h = absurd h
  now_stage (Asks j) d h = absurd h

  pub fetch_stage : (p : Plan) → IsPlan rows k p plans.Fetch → of_plan (ask_of rows) k p ≡ Lacks (TextOf k.loc)
  fetch_stage (Unknown (TextOf l)) h = ap (λ x. Lacks (TextOf x)) h
  fetch_stage (Unknown (LookOf d)) h = absurd h
  fetch_stage (Now i) h = absurd h
  fetch_stage (Walks e allow) h = absurd h
  fetch_stage (Asks j) h = absurd h

  pub look_stage : (p : Plan) → IsPlan rows k p plans.Look → IsStage rows k (of_plan (ask_of rows) k p) stages.Look
  look_stage (Unknown (LookOf d)) h = (d, h, refl)
  look_stage (Unknown (TextOf l)) h = absurd h
  look_stage (Now i) h = absurd h
  look_stage (Walks e allow) h = absurd h
  look_stage (Asks j) h = absurd h

  pub walk_stage : (p : Plan) (s : Bor Scan) (a : Bor (Option (List ℕ))) (x : program_stage.Stage) → IsPlan rows k p (plans.Walk s a)
      → (text_key (Some k.loc) ≡ Some k → IsStage rows k (of_walk a.now (walk (Some k) (ask_of rows) (term s.now.expr))) x) → IsStage rows k (of_plan (ask_of rows) k p) x
  walk_stage p s a x h f =
      let w = plan_walks rows k p s a h in
      subst (λ y. IsStage rows k (of_plan (ask_of rows) k y) x) (sym w.2)
      (subst (λ y. IsStage rows k (of_walk y (walk (Some k) (ask_of rows) w.0)) x) (sym w.3.allow_is)
      (subst (λ y. IsStage rows k (of_walk a.now (walk (Some k) (ask_of rows) y)) x) (sym w.3.expr_is) (f w.3.text_is)))

  pub ask_stage : (p : Plan) (n : ℕ) (o : Option program.Outcome) (x : program_stage.Stage) → IsPlan rows k p (plans.Ask n) → outcome_at rows n ≡ Some o
      → ((j : Key) → number_of rows j ≡ Some n → IsStage rows k (of_bare j (option_map plain o)) x) → IsStage rows k (of_plan (ask_of rows) k p) x
  ask_stage (Asks j) n o x h q f = subst (λ y. IsStage rows k (of_bare j y) x) (asked_number rows j n o h q) (f j h)
  ask_stage (Unknown (TextOf l)) n o x h q f = absurd h
  ask_stage (Unknown (LookOf d)) n o x h q f = absurd h
  ask_stage (Now i) n o x h q f = absurd h
  ask_stage (Walks e allow) n o x h q f = absurd h

  -- ---- which task is due

  fault_due : (at : Option Key) (w : Why) → IsReach rows k (by_fault at w) (reaches.Due kinds.Finish)
  fault_due None w = tt
  fault_due (Some j) (whys.Parse f) = tt
  fault_due (Some j) (whys.Typing f) = tt
  fault_due (Some j) (whys.Norm f) = tt
  fault_due (Some j) whys.Absent = tt
  fault_due (Some j) whys.Missing = tt
  fault_due (Some j) (whys.Broken n) = tt
  fault_due (Some j) whys.Https = tt
  fault_due (Some j) whys.Failed = tt
  fault_due (Some j) (whys.Differs d e) = tt
  fault_due (Some j) (whys.Insane l) = tt
  fault_due (Some j) (whys.Cors l) = tt
  fault_due (Some j) whys.Cycle = tt
  fault_due (Some j) whys.TooMany = tt

  due_reach : (s : Stage) (d : program_due.Due) → IsDueOn rows k s d → IsReach rows k s (reaches.Due kinds.Finish)
  due_reach s (dues.Code scan allow) h = subst (λ x. IsReach rows k x (reaches.Due kinds.Finish)) (sym h.stage_is) tt
  due_reach s (dues.Text f) h = subst (λ x. IsReach rows k x (reaches.Due kinds.Finish)) (sym h) tt
  due_reach s dues.Location h = subst (λ x. IsReach rows k x (reaches.Due kinds.Finish)) (sym h) tt
  due_reach s (dues.Compare v o) h = subst (λ x. IsReach rows k x (reaches.Due kinds.Finish)) (sym h) tt
  due_reach s (dues.Entry e) h = subst (λ x. IsReach rows k x (reaches.Due kinds.Finish)) (sym h) tt
  due_reach s (dues.Fault r) h = subst (λ x. IsReach rows k x (reaches.Due kinds.Finish)) (sym h) (let b = blame_by (Some k) r in fault_due b.at b.why)

  pub stage_reach : (s : Stage) (x : program_stage.Stage) → IsStage rows k s x → IsReach rows k s (reach_by x)
  stage_reach s stages.Fetch h = subst (λ y. IsReach rows k y (reaches.Due kinds.Fetch)) (sym h) refl
  stage_reach s stages.Look h = subst (λ y. IsReach rows k y (reaches.Due kinds.Look)) (sym h.2) h.1
  stage_reach s (stages.Finish d) h = due_reach s d h
  stage_reach s (stages.Wait n) h = subst (λ y. IsReach rows k y (reaches.Wait n)) (sym h.1) h.2

-- the item of code that is assembled
pub assembled_item : (rows : List Row) (k : Key) (s : Stage) (scan : Scan) (allow a : Option (List ℕ)) (code : Expr) (i : Item) → i ≡ record { key = k; allow = a; body = body.Code code } → a ≡ allow
    → ((v : Term) → IsReady (Some k.loc) rows (term scan.expr) scan.edges v → term code ≡ v) → IsCodeAt rows k s scan allow → IsItem k s i
assembled_item rows k s scan allow a code i is same built h = record {
  key_is = ap (λ (x : Item). x.key) is;
  stage_is = h.stage_is ∙ (λ j. Has (last.Code (sym (built h.value h.ready) j) (sym same j))) ∙ sym (ap stage_of_item is);
}
