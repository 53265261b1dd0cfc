use Rattle.std.proofs.Common.{◌∙◌, arith}
use Rattle.dh_store.specs.Cells.{code_core}
use Rattle.dh_typerows.proofs.UniverseLists.{greatest-last, greatest-whole}
use Rattle.dh_typerows.proofs.universes.greatest_type.Goals as goal

pub loop-i-preserved : goal.loop-i-preserved
loop-i-preserved c = record {
  within = omega (arith, c.loop-i.invariant.within);
  so_far = c.with_greatest-greatest.ensures ∙ greatest-last (code_core c.args.codes.now) c.args.types.now c.loop-i.i _ _ _ c.loop-i-test.true c.loop-i.invariant.within c.universe_of.ensures c.loop-i.invariant.so_far;
}

pub returns : goal.returns
returns c = greatest-whole (code_core c.args.codes.now) c.args.types.now c.loop-i.i c.loop-i.greatest (omega (arith, c.loop-i-test.false)) c.loop-i.invariant.so_far
