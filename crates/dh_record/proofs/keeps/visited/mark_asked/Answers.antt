use Rattle.std.proofs.Common.{sym, subst as along, arith}
use Rattle.std.specs.Prelude.{Some}
use Rattle.std.proofs.lemmas.List.{length-map}
use Rattle.dh_syntax.specs.declared.locations.Key.{Key}
use Rattle.dh_syntax.specs.Expressions.Bridge.{term}
use Rattle.dh_imports.specs.Walk.{course}
use Rattle.dh_demand.specs.Results.{ask_of}
use Rattle.dh_demand.specs.Scans.{text_key}
use Rattle.dh_demand.specs.Wants.{AreMarked}
use Rattle.dh_record.specs.Reading.{IsPlan}
use Rattle.dh_record.specs.Rows.{rows_of, key_named, row_of_entrant}
use Rattle.dh_record.proofs.Reading.{key_at_names}
use Rattle.dh_record.proofs.Reaching.{asked_inside}
use Rattle.dh_record.proofs.Visiting.{walk_asks}
use Rattle.dh_record.proofs.keeps.visited.mark_asked.Goals as goal

pub set-requires : goal.set-requires
set-requires c =
    let rows = rows_of c.args.keys.now in
    let k = key_named c.args.keys.now c.args.n in
    let inside = asked_inside rows k c.requires.plan.0 c.in-Ask.key (along (λ x. IsPlan rows k c.requires.plan.0 x) c.in-Ask.is c.requires.plan.1) in
    let same = length-map c.args.keys.now row_of_entrant in
    omega arith

pub returns-in-Walk : goal.returns-in-Walk
returns-in-Walk c p h =
    let rows = rows_of c.args.keys.now in
    let k = key_named c.args.keys.now c.args.n in
    walk_asks rows k p c.in-Walk.scan c.in-Walk._allow c.args.marks.now c.asked.new.marks
    (along (λ (j : Key). AreMarked rows (course (text_key (Some j.loc)) (ask_of rows) (term c.in-Walk.scan.now.expr)).asked c.args.marks.now c.asked.new.marks) (sym (key_at_names c.args.keys.now c.args.n c.key.result.now c.key.ensures)) c.asked.ensures)
    (along (λ x. IsPlan rows k p x) c.in-Walk.is h)
