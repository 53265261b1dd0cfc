use Rattle.std.proofs.Common.{ap, ◌∙◌, length}
use Rattle.std.specs.Prelude.{false}
use Rattle.std.proofs.lemmas.List.{length-replicate}
use Rattle.dh_syntax.specs.Expressions.Bridge.{term}
use Rattle.dh_record.specs.Reading.{record_by}
use Rattle.dh_record.proofs.Visiting.{first_visits, all_visited}
use Rattle.dh_record.proofs.keeps.visited.mark_visited.Goals as goal

pub passes-init : goal.passes-init
passes-init c = record {
  marks = c.asked.ensures.same_length ∙ ap length c.clear.ensures ∙ length-replicate (length c.args.marks.now) false;
  seen = ap length c.clear-2.ensures ∙ length-replicate (length c.args.seen.now) false;
  visiting =
      first_visits (record_by c.args.texts.now c.args.looks.now) (term c.args.root.now.expr) c.args.keys.now c.args.root.now.edges (length c.args.marks.now) (length c.args.seen.now) c.clear.new.self c.asked.new.marks c.clear-2.new.self
      c.requires.root c.requires.marks c.clear.ensures c.asked.ensures c.clear-2.ensures;
}

pub returns-then-not-visit_all-clause-visited : goal.returns-then-not-visit_all-clause-visited
returns-then-not-visit_all-clause-visited c =
    all_visited (record_by c.args.texts.now c.args.looks.now) (term c.args.root.now.expr) c.args.keys.now c.visit_all.new.marks c.visit_all.new.seen
    (c.visit_all.ensures.visiting (term c.args.root.now.expr) c.passes.invariant.visiting)
    (c.visit_all.ensures.still c.if-not-visit_all.true)
