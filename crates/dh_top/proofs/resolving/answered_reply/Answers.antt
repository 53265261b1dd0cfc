use Rattle.std.proofs.Common.{map}
use Rattle.dh_record.specs.Kept.{pair_of}
use Rattle.dh_top.proofs.Filing.{small_keeps, kept_seen, part_seen, kept_part, on_ok_of, on_err_of}
use Rattle.dh_top.proofs.resolving.answered_reply.Goals as goal

pub keep_at_first-requires-clause-small : goal.keep_at_first-requires-clause-small
keep_at_first-requires-clause-small g c = small_keeps c.args.answered.now.table c.args.answered.now.keeps c.as_slice.result.now c.as_slice.ensures c.requires.keeps

pub returns-in_err-keep_at_first-clause-part : goal.returns-in_err-keep_at_first-clause-part
returns-in_err-keep_at_first-clause-part g c =
    on_err_of c.from_residual.result (part_seen (λ d. g.D.Desk.faults d) (λ d. g.D.Desk.filed d) c.args.answered.now.keeps c.as_slice.result.now _ _ c.as_slice.ensures c.in_err-keep_at_first.ensures.part)

pub returns-clause-kept : goal.returns-clause-kept
returns-clause-kept g c =
    on_ok_of c.ended_reply.result (kept_seen (λ d. g.D.Desk.faults d) (λ d. g.D.Desk.filed d) c.args.answered.now.keeps c.as_slice.result.now _ _ c.as_slice.ensures c.in_ok-keep_at_first.ensures.kept)

pub returns-clause-part : goal.returns-clause-part
returns-clause-part g c =
    on_err_of c.ended_reply.result
    (kept_part (λ d. g.D.Desk.faults d) (λ d. g.D.Desk.filed d) (map pair_of c.args.answered.now.keeps) _ _
    (kept_seen (λ d. g.D.Desk.faults d) (λ d. g.D.Desk.filed d) c.args.answered.now.keeps c.as_slice.result.now _ _ c.as_slice.ensures c.in_ok-keep_at_first.ensures.kept))
