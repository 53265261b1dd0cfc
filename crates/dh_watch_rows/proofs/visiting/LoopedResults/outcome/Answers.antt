use Rattle.std.specs.Prelude.{◌≡◌, ◌<◌, Bool, true, false, if◌then◌else◌, length, Some, None, slice_get, unwrap_or}
use Rattle.std.proofs.Common.{ap, sym, ◌∙◌, arith}
use Rattle.dh_demand.specs.Results.{outcome_at}
use Rattle.dh_record.specs.Rows.{rows_of}
use Rattle.dh_watch_rows.proofs.LoopedRows.{got, looped-many, looped-outcome}
use Rattle.dh_watch_rows.proofs.visiting.LoopedResults.outcome.Goals as goal

pub outcome-requires : goal.outcome-requires
outcome-requires c =
    let l = c.args.self.now in
    omega (arith, looped-many (rows_of l.keys.now) l.chain.now l.end.now, c.requires)

pub outcome-requires-in-None : goal.outcome-requires-in-None
outcome-requires-in-None c =
    let l = c.args.self.now in
    omega (arith, looped-many (rows_of l.keys.now) l.chain.now l.end.now, c.requires)

pub returns-in-Some-true : goal.returns-in-Some-true
returns-in-Some-true c =
    let l = c.args.self.now in
    let inside : c.args.key < length (rows_of l.keys.now) = omega (arith, looped-many (rows_of l.keys.now) l.chain.now l.end.now, c.requires) in
    let set : slice_get l.chain.now c.args.key ≡ Some true = sym c.get.ensures ∙ c.in-Some-true.is ∙ ap (λ (b : Bool). Some b) c.in-Some-true.field-0-test in
    looped-outcome (rows_of l.keys.now) l.chain.now l.end.now c.args.key inside
    ∙ ap (λ b. if b then Some (Some l.end.now) else outcome_at (rows_of l.keys.now) c.args.key) (got l.chain.now c.args.key ∙ ap (λ o. unwrap_or o false) set)

pub returns-in-Some-false : goal.returns-in-Some-false
returns-in-Some-false c =
    let l = c.args.self.now in
    let inside : c.args.key < length (rows_of l.keys.now) = omega (arith, looped-many (rows_of l.keys.now) l.chain.now l.end.now, c.requires) in
    let set : slice_get l.chain.now c.args.key ≡ Some false = sym c.get.ensures ∙ c.in-Some-false.is ∙ ap (λ (b : Bool). Some b) c.in-Some-false.field-0-test in
    looped-outcome (rows_of l.keys.now) l.chain.now l.end.now c.args.key inside
    ∙ ap (λ b. if b then Some (Some l.end.now) else outcome_at (rows_of l.keys.now) c.args.key) (got l.chain.now c.args.key ∙ ap (λ o. unwrap_or o false) set)
    ∙ c.outcome.ensures

pub returns-in-None : goal.returns-in-None
returns-in-None c =
    let l = c.args.self.now in
    let inside : c.args.key < length (rows_of l.keys.now) = omega (arith, looped-many (rows_of l.keys.now) l.chain.now l.end.now, c.requires) in
    let set : slice_get l.chain.now c.args.key ≡ None = sym c.get.ensures ∙ c.in-None.is in
    looped-outcome (rows_of l.keys.now) l.chain.now l.end.now c.args.key inside
    ∙ ap (λ b. if b then Some (Some l.end.now) else outcome_at (rows_of l.keys.now) c.args.key) (got l.chain.now c.args.key ∙ ap (λ o. unwrap_or o false) set)
    ∙ c.outcome-in-None.ensures
