use Rattle.std.proofs.Common.{sym, inl, inr, subst as along, arith, length}
use Rattle.std.specs.Prelude.{List, Some}
use Rattle.std.proofs.lemmas.List.{length-map}
use Rattle.dh_syntax.specs.declared.locations.Key.{Key}
use Rattle.dh_syntax.specs.Expressions.Bridge.{term}
use Rattle.dh_imports.specs.Machine.{leads_by}
use Rattle.dh_imports.specs.Walk.{wants}
use Rattle.dh_demand.specs.declared.scans.Edge.{Edge}
use Rattle.dh_demand.specs.Results.{ask_of}
use Rattle.dh_demand.specs.Scans.{text_key}
use Rattle.dh_demand.specs.Wants.{HasNumber}
use Rattle.dh_record.specs.Reading.{IsPlan}
use Rattle.dh_table.specs.Inside.Searching.{ArePut, HasEdge}
use Rattle.dh_record.specs.Rows.{rows_of, key_named, row_of_entrant}
use Rattle.dh_record.proofs.Reading.{key_at_names}
use Rattle.dh_record.proofs.Reaching.{asked_inside, walk_leads}
use Rattle.dh_table.proofs.Leading.{ask_put, ask_put_none}
use Rattle.dh_table.proofs.search.leads.lead.Goals as goal

pub outcome-requires : goal.outcome-requires
outcome-requires c =
    let rows = rows_of c.args.keys.now in
    let k = key_named c.args.keys.now c.args.n in
    asked_inside rows k c.requires.plan.0 c.in-Ask.key (along (λ x. IsPlan rows k c.requires.plan.0 x) c.in-Ask.is c.requires.plan.1)

pub put_new-requires : goal.put_new-requires
put_new-requires c =
    let rows = rows_of c.args.keys.now in
    let k = key_named c.args.keys.now c.args.n in
    let inside = asked_inside rows k c.requires.plan.0 c.in-Ask.key (along (λ x. IsPlan rows k c.requires.plan.0 x) c.in-Ask.is c.requires.plan.1) in
    let same = length-map c.args.keys.now row_of_entrant in
    let fit = c.requires.room.piles in
    omega arith

pub returns-in-Walk-clause-put : goal.returns-in-Walk-clause-put
returns-in-Walk-clause-put c p h =
    let rows = rows_of c.args.keys.now in
    let k = key_named c.args.keys.now c.args.n in
    let old = c.args.explored.now.piles in
    let new = c.put_wanted.new.explored.piles in
    along (λ ks. ArePut rows ks old new) (sym (walk_leads rows k p c.in-Walk.scan c.in-Walk._allow (along (λ x. IsPlan rows k p x) c.in-Walk.is h)))
    (along (λ (j : Key). ArePut rows (wants (text_key (Some j.loc)) (ask_of rows) (term c.in-Walk.scan.now.expr)) old new) (sym (key_at_names c.args.keys.now c.args.n c.key.result.now c.key.ensures)) c.put_wanted.ensures.put)

pub returns-in-Walk-clause-one : goal.returns-in-Walk-clause-one
returns-in-Walk-clause-one c p h led =
    let rows = rows_of c.args.keys.now in
    let k = key_named c.args.keys.now c.args.n in
    let scan = c.in-Walk.scan in
    let one = c.pick.result in
    elim c.pick.ensures [
      | inl first ↦ along (HasNumber rows (leads_by (ask_of rows) k p)) (sym first) led
      | inr (edge, set) ↦
          along (λ ks. HasNumber rows ks one) (sym (walk_leads rows k p scan c.in-Walk._allow (along (λ x. IsPlan rows k p x) c.in-Walk.is h)))
          (along (λ (j : Key). HasNumber rows (wants (text_key (Some j.loc)) (ask_of rows) (term scan.now.expr)) one) (sym (key_at_names c.args.keys.now c.args.n c.key.result.now c.key.ensures))
          (c.put_wanted.ensures.marked one (along (λ (es : List Edge). HasEdge (length es) es one) c.as_slice.ensures edge) set))
    ]

pub returns-in-None-clause-put : goal.returns-in-None-clause-put
returns-in-None-clause-put c p h =
    let rows = rows_of c.args.keys.now in
    let k = key_named c.args.keys.now c.args.n in
    ask_put rows k p c.in-Ask.key c.args.explored.now.piles c.put_new.new.piles c.in-None.ensures (along (λ x. IsPlan rows k p x) c.in-Ask.is h) c.put_new.ensures.put c.put_new.ensures.on

pub returns-in-Some-clause-put : goal.returns-in-Some-clause-put
returns-in-Some-clause-put c p h =
    let rows = rows_of c.args.keys.now in
    let k = key_named c.args.keys.now c.args.n in
    ask_put_none rows k p c.in-Ask.key c.args.explored.now.piles c.in-Some.field-0.now c.in-Some.ensures (along (λ x. IsPlan rows k p x) c.in-Ask.is h)
