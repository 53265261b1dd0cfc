use Rattle.dh_record.specs.Rows.{key_named, rows_of}
use Rattle.dh_imports.specs.Resolver.{stage}
use Rattle.dh_demand.specs.Results.{ask_of}
use Rattle.dh_record.specs.Reading.{record_by}
use Rattle.dh_table.proofs.Looping.{next_stuck, nothing_due, reach_inside}
use Rattle.dh_table.proofs.search.loops.blocking.Goals as goal

pub unreachable-requires : goal.unreachable-requires
unreachable-requires c =
    nothing_due c.args.keys.now c.args.texts.now c.args.looks.now c.requires.stuck.0 c.args.n c.in-Due.field-0 c.requires.inside c.in-Due.ensures c.requires.stuck.1

pub returns-clause-inside : goal.returns-clause-inside
returns-clause-inside c =
    let k = key_named c.args.keys.now c.args.n in
    reach_inside c.args.keys.now k (stage (record_by c.args.texts.now c.args.looks.now) (ask_of (rows_of c.args.keys.now)) k) c.in-Wait.next c.in-Wait.ensures

pub returns-clause-stuck : goal.returns-clause-stuck
returns-clause-stuck c s i = next_stuck c.args.keys.now c.args.texts.now c.args.looks.now s c.args.n c.in-Wait.next c.in-Wait.ensures i
