use Rattle.std.proofs.Common.{◌≡◌, ap, ◌∙◌, Some}
use Rattle.std.specs.Option.{option_copied}
use Rattle.dh_imports.specs.declared.outcomes.Outcome.{Outcome}
use Rattle.dh_demand.specs.Results.{outcome_at}
use Rattle.dh_record.specs.Rows.{rows_of}
use Rattle.dh_record.proofs.Blaming.{stop_blame, no_stop, insane_blame, bad_blame, barred_blame, undecided_goes_on}
use Rattle.dh_record.proofs.Owning.{not_true, not_false}
use Rattle.dh_record.proofs.stage.stages.reason_at.Goals as goal

pub returns-then-not-edge : goal.returns-then-not-edge
returns-then-not-edge c parent w h =
    let es = c.args.keys.now in
    let e = c.args.edge in
    stop_blame parent es e w _ h (λ k v is came s. insane_blame parent es e c.key.result.now c.key.ensures k v is came (not_true e.sane c.if-not-edge.true))

pub unreachable-requires : goal.unreachable-requires
unreachable-requires c =
    let known : outcome_at (rows_of c.args.keys.now) c.args.edge.key ≡ Some (option_copied c.outcome.result) = c.outcome.ensures in
    no_stop c.requires.ends.0 c.args.keys.now c.args.edge c.requires.ends.1 c.requires.ends.2
    (λ k v is came s. undecided_goes_on c.requires.ends.0 c.args.keys.now c.args.edge c.key.result.now c.key.ensures k v is came (not_false c.args.edge.sane c.if-not-edge.false) (known ∙ ap (λ o. Some (option_copied o)) c.in-None.is) s)

pub returns-in-Some-Bad : goal.returns-in-Some-Bad
returns-in-Some-Bad c parent w h =
    let es = c.args.keys.now in
    let e = c.args.edge in
    stop_blame parent es e w _ h (λ k v is came s. bad_blame parent es e c.key.result.now c.key.ensures k v is came c.in-Some-Bad.blame (not_false e.sane c.if-not-edge.false) (c.outcome.ensures ∙ ap (λ o. Some (option_copied o)) c.in-Some-Bad.is ∙ ap (λ (x : Outcome). Some (Some x)) c.in-Some-Bad.field-0-is))

pub returns-in-Some-Good : goal.returns-in-Some-Good
returns-in-Some-Good c parent w h =
    let es = c.args.keys.now in
    let e = c.args.edge in
    stop_blame parent es e w _ h (λ k v is came s. barred_blame parent es e c.key.result.now c.key.ensures k v is came _ _ (not_false e.sane c.if-not-edge.false) (c.outcome.ensures ∙ ap (λ o. Some (option_copied o)) c.in-Some-Good.is ∙ ap (λ (x : Outcome). Some (Some x)) c.in-Some-Good.field-0-is) s)
