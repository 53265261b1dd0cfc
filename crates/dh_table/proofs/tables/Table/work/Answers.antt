use Rattle.std.proofs.Common.{◌≡◌, ap, sym, ◌∙◌, refl, subst as along}
use Rattle.dh_syntax.specs.declared.locations.Key.{Key}
use Rattle.dh_syntax.specs.declared.locations.Loc.{Loc}
use Rattle.dh_imports.specs.Machine as machine
use Rattle.dh_imports.specs.Machine.{IsDue, InFlight, stage_of}
use Rattle.dh_imports.specs.Resolver.{stage}
use Rattle.dh_demand.specs.Results.{ask_of}
use Rattle.dh_record.specs.Due.{AreSpelled, IsItem}
use Rattle.dh_record.specs.Reading.{record_by}
use Rattle.dh_table.specs.Inside.Searching.{Stands}
use Rattle.dh_record.specs.Items.{stage_of_item}
use Rattle.dh_table.specs.Shown.{Shown}
use Rattle.dh_record.specs.Rows.{digest_or_none, key_named, rows_of, task_by}
use Rattle.dh_table.specs.States.{state_of}
use Rattle.dh_table.specs.Tables.{view_of}
use Rattle.dh_record.proofs.Reading.{key_at_names}
use Rattle.dh_table.proofs.Seeing.{stage_stands}
use Rattle.dh_table.proofs.Working.{flies_due, texts_spelled}
use Rattle.dh_table.proofs.tables.Table.work.Goals as goal

pub due_item-requires-clause-due : goal.due_item-requires-clause-due
due_item-requires-clause-due g c =
    let t = c.self.inside in
    let v = view_of {W = g.row.W.Denot} t in
    let k = key_named t.keys c.job_in_flight-job.result.key in
    let stands : Stands t.keys t.texts.items t.looks.items t.flights.items (state_of v) = record { texts_are = refl; looks_are = refl; asks = c.self.invariant.asks; flights_are = refl } in
    let flies : InFlight (state_of v) c.args.ticket.now.serial (machine.Finish k) =
    along (λ (x : Shown). InFlight (state_of x) c.args.ticket.now.serial (machine.Finish (key_named x.keys c.job_in_flight-job.result.key))) (sym c.self.view_is)
    (along (λ kind. InFlight (state_of c.args.self.now) c.args.ticket.now.serial (task_by kind (key_named c.args.self.now.keys c.job_in_flight-job.result.key))) c.in-Finish.is c.job_in_flight-job.ensures.flies) in
    let texts_are : c.found_texts-texts.result ≡ t.texts.items = c.found_texts-texts.ensures ∙ ap (λ (x : Shown). x.texts) (sym c.self.view_is) in
    let looks_are : c.found_looks-looks.result ≡ t.looks.items = c.found_looks-looks.ensures ∙ ap (λ (x : Shown). x.looks) (sym c.self.view_is) in
    along (λ ts. IsDue (stage (record_by ts c.found_looks-looks.result) (ask_of (rows_of t.keys)) k)) (sym texts_are)
    (along (λ ls. IsDue (stage (record_by t.texts.items ls) (ask_of (rows_of t.keys)) k)) (sym looks_are)
    (along IsDue (stage_stands t.keys t.texts.items t.looks.items t.flights.items (state_of v) stands k) (flies_due v c.args.ticket.now.serial k c.self.invariant.replays flies)))

pub due_item-requires-clause-spelled : goal.due_item-requires-clause-spelled
due_item-requires-clause-spelled g c =
    let t = c.self.inside in
    let texts_are : c.found_texts-texts.result ≡ t.texts.items = c.found_texts-texts.ensures ∙ ap (λ (x : Shown). x.texts) (sym c.self.view_is) in
    along AreSpelled (sym texts_are) (texts_spelled (view_of {W = g.row.W.Denot} c.self.inside) c.self.invariant.replays)

pub returns-in_ok-copied-in-Fetch-clause-work : goal.returns-in_ok-copied-in-Fetch-clause-work
returns-in_ok-copied-in-Fetch-clause-work g c =
    let n = c.job_in_flight-job.result.key in
    let key : key_named c.self.inside.keys n ≡ c.key.result.now = key_at_names c.self.inside.keys n c.key.result.now c.key.ensures in
    let here : key_named c.args.self.now.keys n ≡ c.key.result.now = ap (λ (x : Shown). key_named x.keys n) (sym c.self.view_is) ∙ key in
    along (λ (l : Loc). InFlight (state_of c.args.self.now) c.args.ticket.now.serial (machine.Fetch l)) (ap (λ (k : Key). k.loc) here ∙ sym c.in_ok-copied-in-Fetch.ensures)
    (along (λ kind. InFlight (state_of c.args.self.now) c.args.ticket.now.serial (task_by kind (key_named c.args.self.now.keys n))) c.in-Fetch.is c.job_in_flight-job.ensures.flies)

pub returns-in-Some-clause-work : goal.returns-in-Some-clause-work
returns-in-Some-clause-work g c =
    let n = c.job_in_flight-job.result.key in
    let key : key_named c.self.inside.keys n ≡ c.key-in-Look.result.now = key_at_names c.self.inside.keys n c.key-in-Look.result.now c.key-in-Look.ensures in
    let here : key_named c.args.self.now.keys n ≡ c.key-in-Look.result.now = ap (λ (x : Shown). key_named x.keys n) (sym c.self.view_is) ∙ key in
    along (λ d. InFlight (state_of c.args.self.now) c.args.ticket.now.serial (machine.Look (digest_or_none d))) (ap (λ (k : Key). k.digest) here ∙ c.in-Some.is)
    (along (λ kind. InFlight (state_of c.args.self.now) c.args.ticket.now.serial (task_by kind (key_named c.args.self.now.keys n))) c.in-Look.is c.job_in_flight-job.ensures.flies)

pub returns-in_ok-item-in-Finish-clause-work : goal.returns-in_ok-item-in-Finish-clause-work
returns-in_ok-item-in-Finish-clause-work g c =
    let t = c.self.inside in
    let v = view_of {W = g.row.W.Denot} t in
    let n = c.job_in_flight-job.result.key in
    let k = key_named t.keys n in
    let i = c.in_ok-item-in-Finish.item in
    let stands : Stands t.keys t.texts.items t.looks.items t.flights.items (state_of v) = record { texts_are = refl; looks_are = refl; asks = c.self.invariant.asks; flights_are = refl } in
    let texts_are : c.found_texts-texts.result ≡ t.texts.items = c.found_texts-texts.ensures ∙ ap (λ (x : Shown). x.texts) (sym c.self.view_is) in
    let looks_are : c.found_looks-looks.result ≡ t.looks.items = c.found_looks-looks.ensures ∙ ap (λ (x : Shown). x.looks) (sym c.self.view_is) in
    let made : IsItem k (stage (record_by t.texts.items t.looks.items) (ask_of (rows_of t.keys)) k) i =
    along (λ ls. IsItem k (stage (record_by t.texts.items ls) (ask_of (rows_of t.keys)) k) i) looks_are
    (along (λ ts. IsItem k (stage (record_by ts c.found_looks-looks.result) (ask_of (rows_of t.keys)) k) i) texts_are c.in_ok-item-in-Finish.ensures.item) in
    let here : key_named c.args.self.now.keys n ≡ i.key = ap (λ (x : Shown). key_named x.keys n) (sym c.self.view_is) ∙ sym made.key_is in
    let staged : stage_of (state_of v) k ≡ stage_of_item i = stage_stands t.keys t.texts.items t.looks.items t.flights.items (state_of v) stands k ∙ made.stage_is in (
      along (λ (x : Key). InFlight (state_of c.args.self.now) c.args.ticket.now.serial (machine.Finish x)) here
          (along (λ kind. InFlight (state_of c.args.self.now) c.args.ticket.now.serial (task_by kind (key_named c.args.self.now.keys n))) c.in-Finish.is c.job_in_flight-job.ensures.flies),
      along (λ (x : Shown). stage_of (state_of x) i.key ≡ stage_of_item i) c.self.view_is (ap (stage_of (state_of v)) made.key_is ∙ staged),
    )
