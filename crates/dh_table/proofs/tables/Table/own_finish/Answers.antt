use Rattle.std.proofs.Common.{◌≡◌, ap, sym, ◌∙◌, refl, subst as along}
use Rattle.std.proofs.lemmas.Bool.{false≢true}
use Rattle.dh_imports.specs.Machine as machine
use Rattle.dh_imports.specs.Machine.{stage_of}
use Rattle.dh_imports.specs.Resolver.{stage}
use Rattle.dh_demand.specs.Results.{ask_of}
use Rattle.dh_record.specs.Inside.Equal.{are_due_on_one}
use Rattle.dh_record.specs.Reading.{record_by}
use Rattle.dh_table.specs.Inside.Recording.{IsFinish, IsOwnFinish}
use Rattle.dh_table.specs.Inside.Searching.{Stands}
use Rattle.dh_record.specs.Items.{stage_of_item}
use Rattle.dh_table.specs.Shown.{Shown}
use Rattle.dh_record.specs.Rows.{key_named, rows_of}
use Rattle.dh_table.specs.States.{state_of}
use Rattle.dh_table.specs.Tables.{view_of}
use Rattle.dh_table.proofs.Finishing.{finish_names}
use Rattle.dh_table.proofs.Landing.{one_serial}
use Rattle.dh_table.proofs.Seeing.{stage_stands}
use Rattle.dh_record.proofs.Telling.{due_tells}
use Rattle.dh_table.proofs.tables.Table.own_finish.Goals as goal

pub returns-then-own : goal.returns-then-own
returns-then-own g c =
    let t = c.self.inside in
    let v = view_of {W = g.row.W.Denot} t in
    let s = state_of v in
    let f = c.in_ok-flight.flight in
    let i = c.args.item.now in
    let flies = rw c.as_slice.ensures.value at c.in_ok-flight.ensures.flies in
    let named = finish_names t.keys f.job i.key flies.own in
    let stands : Stands t.keys t.texts.items t.looks.items t.flights.items s = record { texts_are = refl; looks_are = refl; asks = c.self.invariant.asks; flights_are = refl } in
    let texts_are : c.found_texts-texts.result ≡ t.texts.items = c.found_texts-texts.ensures ∙ ap (λ (x : Shown). x.texts) (sym c.self.view_is) in
    let looks_are : c.found_looks-looks.result ≡ t.looks.items = c.found_looks-looks.ensures ∙ ap (λ (x : Shown). x.looks) (sym c.self.view_is) in
    let tested =
    c.is_own_item-own.ensures
    ∙ (λ j. are_due_on_one (stage (record_by (texts_are j) (looks_are j)) (ask_of (rows_of t.keys)) (key_named t.keys f.job.key)) (stage_of_item i)) in
    let due = (due_tells (stage (record_by t.texts.items t.looks.items) (ask_of (rows_of t.keys)) (key_named t.keys f.job.key)) i).0 (sym tested ∙ c.if-own.true) in
    along (λ (x : Shown). IsOwnFinish x.keys (state_of x) i f) c.self.view_is
    (record {
      only = record { flies = flies.last; only = λ m h. one_serial _ _ _ _ s m f.serial (machine.Finish i.key) c.self.invariant.replays h flies.last };
      stage_is =
          stage_stands t.keys t.texts.items t.looks.items t.flights.items s stands i.key
          ∙ ap (stage (record_by t.texts.items t.looks.items) (ask_of (rows_of t.keys))) (sym named) ∙ due;
      named = named;
      inside = c.in_ok-flight.ensures.inside;
    })

pub returns-else-own : goal.returns-else-own
returns-else-own g c serial h =
    let t = c.self.inside in
    let v = view_of {W = g.row.W.Denot} t in
    let s = state_of v in
    let f = c.in_ok-flight.flight in
    let i = c.args.item.now in
    let flies = rw c.as_slice.ensures.value at c.in_ok-flight.ensures.flies in
    let named = finish_names t.keys f.job i.key flies.own in
    let stands : Stands t.keys t.texts.items t.looks.items t.flights.items s = record { texts_are = refl; looks_are = refl; asks = c.self.invariant.asks; flights_are = refl } in
    let texts_are : c.found_texts-texts.result ≡ t.texts.items = c.found_texts-texts.ensures ∙ ap (λ (x : Shown). x.texts) (sym c.self.view_is) in
    let looks_are : c.found_looks-looks.result ≡ t.looks.items = c.found_looks-looks.ensures ∙ ap (λ (x : Shown). x.looks) (sym c.self.view_is) in
    let tested =
    c.is_own_item-own.ensures
    ∙ (λ j. are_due_on_one (stage (record_by (texts_are j) (looks_are j)) (ask_of (rows_of t.keys)) (key_named t.keys f.job.key)) (stage_of_item i)) in
    let own = along (λ (x : Shown). IsFinish (state_of x) i serial) (sym c.self.view_is) h in
    false≢true
    (sym c.if-own.false ∙ tested
    ∙ (due_tells (stage (record_by t.texts.items t.looks.items) (ask_of (rows_of t.keys)) (key_named t.keys f.job.key)) i).1
    (ap (stage (record_by t.texts.items t.looks.items) (ask_of (rows_of t.keys))) named ∙ sym (stage_stands t.keys t.texts.items t.looks.items t.flights.items s stands i.key) ∙ own.1))
