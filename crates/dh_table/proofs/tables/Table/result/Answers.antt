use Rattle.std.proofs.Common.{◌≡◌, ap, sym, ◌∙◌}
use Rattle.std.specs.Prelude.{None}
use Rattle.std.specs.Option.{option_copied}
use Rattle.dh_imports.specs.Machine.{outcome_of}
use Rattle.dh_demand.specs.Results.{number_of}
use Rattle.dh_demand.proofs.Numbers.{within}
use Rattle.dh_table.specs.Shown.{Shown}
use Rattle.dh_record.specs.Rows.{rows_of}
use Rattle.dh_table.specs.States.{state_of}
use Rattle.dh_record.proofs.Reading.{asked_number, asked_none}
use Rattle.dh_table.proofs.tables.Table.result.Goals as goal

pub outcome-requires : goal.outcome-requires
outcome-requires g c = within (rows_of c.self.inside.keys) c.args.key.now c.in-Some.number (sym c.in-Some.ensures)

pub returns-in-Some : goal.returns-in-Some
returns-in-Some g c =
    let keys = c.self.inside.keys in
    asked_number (rows_of keys) c.args.key.now c.in-Some.number (option_copied c.outcome.result) (sym c.in-Some.ensures) c.outcome.ensures
    ∙ (λ i. sym c.self.invariant.asks i c.args.key.now)
    ∙ ap (λ (v : Shown). outcome_of (state_of v) c.args.key.now) c.self.view_is

pub returns-in-None : goal.returns-in-None
returns-in-None g c =
    let keys = c.self.inside.keys in
    let h : number_of (rows_of keys) c.args.key.now ≡ None = sym c.number.ensures ∙ c.in-None.is in
    asked_none (rows_of keys) c.args.key.now h
    ∙ (λ i. sym c.self.invariant.asks i c.args.key.now)
    ∙ ap (λ (v : Shown). outcome_of (state_of v) c.args.key.now) c.self.view_is
