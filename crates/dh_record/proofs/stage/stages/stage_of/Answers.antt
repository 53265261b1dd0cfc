use Rattle.std.proofs.Common.{Some, sym, ◌≡◌, subst as along}
use Rattle.std.specs.Option.{option_copied}
use Rattle.dh_syntax.specs.declared.locations.Key.{Key}
use Rattle.dh_syntax.specs.Expressions.Bridge.{term}
use Rattle.dh_imports.specs.Resolver.{of_walk}
use Rattle.dh_imports.specs.Walk.{walk}
use Rattle.dh_demand.specs.Results.{ask_of}
use Rattle.dh_demand.specs.Scans.{text_key}
use Rattle.dh_record.specs.Dues.{IsStage}
use Rattle.dh_record.specs.Reading.{IsPlan}
use Rattle.dh_record.specs.Rows.{rows_of, key_named}
use Rattle.dh_record.proofs.DueItems.{valued_at}
use Rattle.dh_record.proofs.Reaching.{asked_inside}
use Rattle.dh_record.proofs.Reading.{key_at_names}
use Rattle.dh_record.proofs.Stages.{ask_stage, walk_stage}
use Rattle.dh_record.proofs.stage.stages.stage_of.Goals as goal

pub outcome-requires : goal.outcome-requires
outcome-requires c =
    let rows = rows_of c.args.keys.now in
    let k = key_named c.args.keys.now c.args.n in
    asked_inside rows k c.requires.plan.0 c.in-Ask.key (along (λ x. IsPlan rows k c.requires.plan.0 x) c.in-Ask.is c.requires.plan.1)

pub returns-in-Walk-clause-stage : goal.returns-in-Walk-clause-stage
returns-in-Walk-clause-stage c p h =
    let keys = c.args.keys.now in
    let rows = rows_of keys in
    let k = key_named keys c.args.n in
    let allow = c.in-Walk.allow.now in
    let named : k ≡ c.key.result.now = key_at_names keys c.args.n c.key.result.now c.key.ensures in
    walk_stage rows k p c.in-Walk.scan c.in-Walk.allow c.walked.result (along (λ x. IsPlan rows k p x) c.in-Walk.is h)
    (λ q.
    along (λ (j : Key). IsStage rows j (of_walk allow (walk (Some j) (ask_of rows) (term c.in-Walk.scan.now.expr))) c.walked.result) (sym named)
    (c.walked.ensures.stage (along (λ (j : Key). text_key (Some j.loc) ≡ Some j) named q)))

pub returns-in-Ask-clause-stage : goal.returns-in-Ask-clause-stage
returns-in-Ask-clause-stage c p h =
    let rows = rows_of c.args.keys.now in
    let k = key_named c.args.keys.now c.args.n in
    ask_stage rows k p c.in-Ask.key (option_copied c.outcome.result) c.bare_stage.result (along (λ x. IsPlan rows k p x) c.in-Ask.is h) c.outcome.ensures
    (λ j m. c.bare_stage.ensures.stage rows k j m)

pub returns-in-Ask-clause-fit : goal.returns-in-Ask-clause-fit
returns-in-Ask-clause-fit c v f = c.bare_stage.ensures.fit (valued_at c.args.keys.now c.in-Ask.key (option_copied c.outcome.result) v c.outcome.ensures)
