use Rattle.dh_record.specs.Reading.{record_by}
use Rattle.dh_record.specs.Rows.{rows_of, key_named}
use Rattle.dh_imports.specs.Resolver.{plan}
use Rattle.dh_record.proofs.Visiting.{asks_numbered, visits_more}
use Rattle.dh_record.proofs.keeps.visited.see.Goals as goal

pub returns-clause-visiting : goal.returns-clause-visiting
returns-clause-visiting c root set v =
    let keys = c.args.keys.now in
    let r = record_by c.args.texts.now c.args.looks.now in
    let k = key_named keys c.args.n in
    visits_more r root keys c.args.marks.now c.mark_asked.new.marks c.args.seen.now c.set.new.self c.args.n c.requires.inside set c.requires.marks
    (c.mark_asked.ensures (plan r k) c.plan_of-plan.ensures.plan)
    (λ j m. asks_numbered (rows_of keys) k (plan r k) c.plan_of-plan.result j c.plan_of-plan.ensures.plan m)
    c.set.ensures v
