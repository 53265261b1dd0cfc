use Rattle.std.proofs.Common.{length}
use Rattle.dh_tokens.specs.Inside.Marks.{best_of}
use Rattle.dh_tokens.proofs.MarkLaws.{longest_of-step, within_of_two}
use Rattle.dh_tokens.proofs.marks.longest_in.Goals as goal

pub loop-spelling-preserved : goal.loop-spelling-preserved
loop-spelling-preserved c =
    let so_far = c.loop-spelling.invariant in
    record {
      within = within_of_two (length c.args.rest.now) c.loop-spelling.best c.mark_at.result c.longer-best.result c.longer-best.ensures.one so_far.within c.mark_at.ensures.within;
      so_far = longest_of-step c.args.rest.now c.args.table.now c.loop-spelling.spelling-index _ (best_of c.loop-spelling.best) (best_of c.mark_at.result) (best_of c.longer-best.result) c.loop-spelling-test.true c.mark_at.ensures.value c.longer-best.ensures.value so_far.so_far;
    }
