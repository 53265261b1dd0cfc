use Rattle.std.proofs.Common.{sym, ◌∙◌, true≢false}
use Rattle.dh_cases.proofs.Entries.{pairs-equal, more-equal}
use Rattle.dh_cases.proofs.comparing.are_same.Goals as goal

pub returns-then-not-is_same : goal.returns-then-not-is_same
returns-then-not-is_same c = (
  λ t. absurd (true≢false (sym t)),
  λ same. sym c.if-not-is_same.true ∙ c.is_same.ensures.1 (pairs-equal c.args.wanted.now c.args.came.now c.loop-i.i c.index-wanted-i.result c.index-came-i.result c.loop-i.invariant.as_many
      c.loop-i-test.true c.index-wanted-i.is c.index-came-i.is same),
)

pub loop-i-preserved : goal.loop-i-preserved
loop-i-preserved c = record {
  as_many = c.loop-i.invariant.as_many;
  so_far = more-equal c.args.wanted.now c.args.came.now c.loop-i.i c.index-wanted-i.result c.index-came-i.result c.loop-i.invariant.as_many c.loop-i-test.true c.index-wanted-i.is
      c.index-came-i.is (c.is_same.ensures.0 c.if-not-is_same.false) c.loop-i.invariant.so_far;
}
