use Rattle.std.proofs.Common.{◌-◌, arith, get_or}
use Rattle.std.proofs.lemmas.List.{get_or_default}
use Rattle.dh_store.specs.Cells.{code_core}
use Rattle.dh_store.specs.Growth.{count}
use Rattle.dh_types.proofs.Grown.{grows-after}
use Rattle.dh_typerows.proofs.PathLevels.{built-more, level-at, same-level}
use Rattle.dh_typerows.proofs.updates.rebuilt.Goals as goal

pub with_field-requires-clause-own : goal.with_field-requires-clause-own
with_field-requires-clause-own c =
    let there = level-at (count c.args.codes.now) c.args.levels.now (c.loop-i.i - 1) c.requires.below (omega (arith, c.requires.counted, c.loop-i.invariant.within, c.loop-i-test.true)) in
    omega (arith, there, c.loop-i.invariant.grows.more)

pub loop-i-preserved : goal.loop-i-preserved
loop-i-preserved c =
    let level = get_or c.args.levels.now (c.loop-i.i - 1) 0 in
    let there = level-at (count c.args.codes.now) c.args.levels.now (c.loop-i.i - 1) c.requires.below (omega (arith, c.requires.counted, c.loop-i.invariant.within, c.loop-i-test.true)) in
    let made = same-level c.args.codes.now c.loop-i.codes c.index-path-i.result level c.loop-i.code (code_core c.with_field.new.codes c.in_ok-code.code) c.loop-i.invariant.grows there c.in_ok-code.ensures.made in
    record {
      built =
          built-more c.args.codes.now c.args.path.now c.args.levels.now (code_core c.args.codes.now c.args.v) c.requires.counted c.loop-i.i c.index-path-i.result level (code_core c.loop-i.codes c.loop-i.code)
          (code_core c.with_field.new.codes c.in_ok-code.code) c.loop-i-test.true c.loop-i.invariant.within c.index-path-i.is
          (get_or_default c.args.levels.now (c.loop-i.i - 1) 0 level (omega (arith, c.requires.counted, c.loop-i.invariant.within, c.loop-i-test.true))) made c.loop-i.invariant.built;
      grows = grows-after c.args.codes.now c.loop-i.codes c.with_field.new.codes c.loop-i.invariant.grows c.in_ok-code.ensures.grows;
      there = c.in_ok-code.ensures.there;
      within = omega (arith, c.loop-i.invariant.within);
    }
