use Rattle.std.proofs.Common.{ap, length, sym, ◌∙◌, subst as along}
use Rattle.dh_store.specs.Cells.{code_core, AreBelow}
use Rattle.dh_store.specs.Growth.{count}
use Rattle.dh_typerows.proofs.FoundFields.{below-push, pushed-length}
use Rattle.dh_typerows.proofs.PathLevels.{level-missing, level-more, levels-whole, set-more}
use Rattle.dh_typerows.proofs.updates.levels.Goals as goal

pub loop-x-preserved : goal.loop-x-preserved
loop-x-preserved c = record {
  levels =
      level-more (code_core c.args.codes.now) c.args.path.now (code_core c.args.codes.now c.args.t) c.loop-x.x-index c.loop-x.levels.items c.loop-x.at c.x-item.result c.loop-x-test.true c.x-item.is c.loop-x.invariant.counted
      c.loop-x.invariant.levels c.push.new.self.items (code_core c.args.codes.now c.in-Some.next) c.in_ok-push.ensures.items c.in-Some.ensures.view;
  set =
      set-more (code_core c.args.codes.now) c.args.path.now (code_core c.args.codes.now c.args.t) c.loop-x.x-index c.x-item.result (code_core c.args.codes.now c.loop-x.at) (code_core c.args.codes.now c.in-Some.next) c.loop-x-test.true
      c.x-item.is c.in-Some.ensures.view c.loop-x.invariant.set;
  counted = ap length c.in_ok-push.ensures.items ∙ pushed-length c.loop-x.levels.items c.loop-x.at c.loop-x.x-index c.loop-x.invariant.counted;
  below = along (AreBelow (count c.args.codes.now)) (sym c.in_ok-push.ensures.items) (below-push (count c.args.codes.now) c.loop-x.levels.items c.loop-x.at c.loop-x.invariant.below c.loop-x.invariant.there);
  there = c.in-Some.ensures.there;
}

pub returns-in-None-clause-levels : goal.returns-in-None-clause-levels
returns-in-None-clause-levels c =
    level-missing (code_core c.args.codes.now) c.args.path.now (code_core c.args.codes.now c.args.t) c.loop-x.x-index c.loop-x.levels.items c.loop-x.at c.x-item.result c.loop-x-test.true c.x-item.is c.loop-x.invariant.counted
    c.loop-x.invariant.levels c.in-None.ensures.view

pub returns-clause-levels : goal.returns-clause-levels
returns-clause-levels c =
    levels-whole (code_core c.args.codes.now) c.args.path.now (code_core c.args.codes.now c.args.t) c.loop-x.x-index c.loop-x.levels.items (code_core c.args.codes.now c.loop-x.at) c.loop-x-test.false c.loop-x.invariant.levels
    c.loop-x.invariant.set
