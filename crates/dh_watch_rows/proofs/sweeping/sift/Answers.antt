use Rattle.std.specs.Prelude.{◌<◌, ◌+◌, drop, length, take}
use Rattle.std.proofs.Common.{sym, ◌∙◌, arith, subst}
use Rattle.std.proofs.lemmas.List.{length-set}
use Rattle.dh_record.specs.Reading.{record_by}
use Rattle.dh_watch_rows.specs.Inside.Sifting.{Sifting}
use Rattle.dh_watch_rows.proofs.Sifting.{next-due, next-undue}
use Rattle.dh_watch_rows.proofs.sweeping.sift.Goals as goal

pub loop-i-preserved-then-not-is_due : goal.loop-i-preserved-then-not-is_due
loop-i-preserved-then-not-is_due c =
    let ns = c.loop-i.found.items in
    let low : c.loop-i.i < length c.loop-i.found.items = omega (arith, c.loop-i-test.true, c.len-i-end.ensures, c.loop-i.invariant.len) in
    record {
      len = c.loop-i.invariant.len;
      low = omega (arith, c.loop-i.invariant.low);
      sifting =
          subst (λ ks. Sifting (record_by c.args.texts.now c.args.looks.now) c.args.texts.now c.args.keys.now c.args.found.now.items ks (take c.loop-i.left ns) (drop (c.loop-i.i + 1) ns)) (sym c.undecide.ensures)
          (next-undue (record_by c.args.texts.now c.args.looks.now) c.args.texts.now c.args.keys.now c.args.found.now.items c.requires.distinct c.loop-i.keys ns c.loop-i.left c.loop-i.i c.index-n.result.now
          c.loop-i.invariant.sifting c.loop-i.invariant.low low c.index-n.ensures (sym c.is_due.ensures ∙ c.if-not-is_due.true));
    }

pub loop-i-preserved : goal.loop-i-preserved
loop-i-preserved c =
    let ns = c.loop-i.found.items in
    let low : c.loop-i.i < length c.loop-i.found.items = omega (arith, c.loop-i-test.true, c.len-i-end.ensures, c.loop-i.invariant.len) in
    record {
      len = length-set ns c.loop-i.left c.index-n.result.now ∙ c.loop-i.invariant.len;
      low = omega (arith, c.loop-i.invariant.low);
      sifting =
          next-due (record_by c.args.texts.now c.args.looks.now) c.args.texts.now c.args.keys.now c.args.found.now.items c.requires.distinct c.loop-i.keys ns c.loop-i.left c.loop-i.i c.index-n.result.now
          c.loop-i.invariant.sifting c.loop-i.invariant.low low c.index-n.ensures (sym c.is_due.ensures ∙ c.if-not-is_due.false);
    }
