use Rattle.std.proofs.Common.{◌≡◌, ◌≤◌, ◌<◌, sym, ap, ◌∙◌, subst, map, length, string_bytes, None, arith}
use Rattle.std.specs.Prelude.{max, min}
use Rattle.dh_batch.specs.Dealing.{AreServed}
use Rattle.dh_top.specs.FileReplies.{AllSmall}
use Rattle.dh_top.specs.Outside.{first_of}
use Rattle.dh_top.proofs.Batches.{Replies, all_served, answered_each_ok, none_filed, part_each_err}
use Rattle.dh_top.proofs.Gathering.{same_filed}
use Rattle.dh_top.proofs.Encodings.{part_none}
use Rattle.dh_top.proofs.Filing.{ok_seen, err_seen, same_seen}
use Rattle.dh_top.proofs.Using.{batch_uses, uses_keeping, uses_workers}
use Rattle.dh_top.proofs.batch.batching.Goals as goal

pub returns-in_err-replies-clause-desks : goal.returns-in_err-replies-clause-desks
returns-in_err-replies-clause-desks g c =
    let is = c.workers_for-workers.ensures ∙ ap (λ n. max 1 (min c.args.command.workers n)) c.len.ensures in
    uses_workers (λ d. g.D.Desk.filed d) c.args.command _ _ _ _ (batch_uses c.args.command.verb c.requires.batch) is c.serve_files.ensures.idle
    (none_filed g.W.World.told g.W.World.shelved (λ d. g.D.Desk.asked d) (λ d. g.D.Desk.faults d) (λ d. g.D.Desk.filed d) string_bytes c.workers_for-workers.result c.args.desks.now.items c.serve_files.new.desks.items (omega (arith, is, c.requires.some)) (omega (arith, c.serve_files.ensures.count)) c.serve_files.ensures.idle c.in_err-replies.ensures.part)

pub returns-in_err-replies-clause-lacks : goal.returns-in_err-replies-clause-lacks
returns-in_err-replies-clause-lacks g c =
    let is = c.workers_for-workers.ensures ∙ ap (λ n. max 1 (min c.args.command.workers n)) c.len.ensures in
    part_none c.args.command.verb _ c.args.input.now _ c.from_residual-in_err-replies.result
    (ap (first_of None)
    (none_filed g.W.World.told g.W.World.shelved (λ d. g.D.Desk.asked d) (λ d. g.D.Desk.faults d) (λ d. g.D.Desk.filed d) string_bytes c.workers_for-workers.result c.args.desks.now.items c.serve_files.new.desks.items (omega (arith, is, c.requires.some)) (omega (arith, c.serve_files.ensures.count)) c.serve_files.ensures.idle c.in_err-replies.ensures.part))

pub served_reply-requires-clause-small : goal.served_reply-requires-clause-small
served_reply-requires-clause-small g c =
    let is = c.workers_for-workers.ensures ∙ ap (λ n. max 1 (min c.args.command.workers n)) c.len.ensures in
    let served = subst (λ rs. AreServed (Replies g.W.World.told g.W.World.shelved (λ d. g.D.Desk.asked d) (λ d. g.D.Desk.faults d) (λ d. g.D.Desk.filed d) string_bytes) c.workers_for-workers.result c.args.desks.now.items c.serve_files.new.desks.items c.args.operands.now rs) (sym c.as_slice.ensures.value) c.in_ok-replies.ensures.served in
    let all = all_served g.W.World.told g.W.World.shelved (λ d. g.D.Desk.asked d) (λ d. g.D.Desk.faults d) (λ d. g.D.Desk.filed d) string_bytes c.workers_for-workers.result c.args.desks.now.items c.serve_files.new.desks.items c.args.operands.now c.as_slice.result.now (omega (arith, is)) (omega (arith, is, c.requires.some)) (omega (arith, c.serve_files.ensures.count))
    c.serve_files.ensures.idle served in
    all.small

pub returns-clause-desks : goal.returns-clause-desks
returns-clause-desks g c =
    let is = c.workers_for-workers.ensures ∙ ap (λ n. max 1 (min c.args.command.workers n)) c.len.ensures in
    let served = subst (λ rs. AreServed (Replies g.W.World.told g.W.World.shelved (λ d. g.D.Desk.asked d) (λ d. g.D.Desk.faults d) (λ d. g.D.Desk.filed d) string_bytes) c.workers_for-workers.result c.args.desks.now.items c.serve_files.new.desks.items c.args.operands.now rs) (sym c.as_slice.ensures.value) c.in_ok-replies.ensures.served in
    let all = all_served g.W.World.told g.W.World.shelved (λ d. g.D.Desk.asked d) (λ d. g.D.Desk.faults d) (λ d. g.D.Desk.filed d) string_bytes c.workers_for-workers.result c.args.desks.now.items c.serve_files.new.desks.items c.args.operands.now c.as_slice.result.now (omega (arith, is)) (omega (arith, is, c.requires.some)) (omega (arith, c.serve_files.ensures.count))
    c.serve_files.ensures.idle served in
    uses_keeping (λ d. g.D.Desk.filed d) c.args.command _ _ _ _ (batch_uses c.args.command.verb c.requires.batch) is c.serve_files.ensures.idle
    (same_filed (λ d. g.D.Desk.filed d) c.args.desks.now.items c.serve_files.new.desks.items all.kept) _ _ _ c.served_reply.result
    (ok_seen _ c.as_mut_slice.result.now _ c.served_reply.new.desks _ _ c.served_reply.result c.as_mut_slice.ensures.value (omega (arith, c.as_mut_slice.ensures.len, ap length c.as_mut_slice.ensures.value)) c.served_reply.ensures.kept)
    (err_seen _ c.as_mut_slice.result.now _ c.served_reply.new.desks _ _ c.served_reply.result c.as_mut_slice.ensures.value (omega (arith, c.as_mut_slice.ensures.len, ap length c.as_mut_slice.ensures.value)) c.served_reply.ensures.part)

pub returns-clause-answers : goal.returns-clause-answers
returns-clause-answers g c =
    let is = c.workers_for-workers.ensures ∙ ap (λ n. max 1 (min c.args.command.workers n)) c.len.ensures in
    let served = subst (λ rs. AreServed (Replies g.W.World.told g.W.World.shelved (λ d. g.D.Desk.asked d) (λ d. g.D.Desk.faults d) (λ d. g.D.Desk.filed d) string_bytes) c.workers_for-workers.result c.args.desks.now.items c.serve_files.new.desks.items c.args.operands.now rs) (sym c.as_slice.ensures.value) c.in_ok-replies.ensures.served in
    let all = all_served g.W.World.told g.W.World.shelved (λ d. g.D.Desk.asked d) (λ d. g.D.Desk.faults d) (λ d. g.D.Desk.filed d) string_bytes c.workers_for-workers.result c.args.desks.now.items c.serve_files.new.desks.items c.args.operands.now c.as_slice.result.now (omega (arith, is)) (omega (arith, is, c.requires.some)) (omega (arith, c.serve_files.ensures.count))
    c.serve_files.ensures.idle served in
    answered_each_ok g.W.World.told g.W.World.shelved (λ d. g.D.Desk.asked d) (λ d. g.D.Desk.faults d) (λ d. g.D.Desk.filed d) c.args.desks.now.items c.serve_files.new.desks.items _ (map string_bytes c.args.operands.now) c.as_slice.result.now all
    (same_seen (λ d. g.D.Desk.asked d) c.as_mut_slice.result.now _ c.served_reply.new.desks _ _ c.as_mut_slice.ensures.value (omega (arith, c.as_mut_slice.ensures.len, ap length c.as_mut_slice.ensures.value)) c.served_reply.ensures.asked)
    c.args.command.verb c.args.input.now c.served_reply.result c.requires.batch
    (ok_seen _ c.as_mut_slice.result.now _ c.served_reply.new.desks _ _ c.served_reply.result c.as_mut_slice.ensures.value (omega (arith, c.as_mut_slice.ensures.len, ap length c.as_mut_slice.ensures.value)) c.served_reply.ensures.kept) c.served_reply.ensures.lines

pub returns-clause-lacks : goal.returns-clause-lacks
returns-clause-lacks g c =
    let is = c.workers_for-workers.ensures ∙ ap (λ n. max 1 (min c.args.command.workers n)) c.len.ensures in
    let served = subst (λ rs. AreServed (Replies g.W.World.told g.W.World.shelved (λ d. g.D.Desk.asked d) (λ d. g.D.Desk.faults d) (λ d. g.D.Desk.filed d) string_bytes) c.workers_for-workers.result c.args.desks.now.items c.serve_files.new.desks.items c.args.operands.now rs) (sym c.as_slice.ensures.value) c.in_ok-replies.ensures.served in
    let all = all_served g.W.World.told g.W.World.shelved (λ d. g.D.Desk.asked d) (λ d. g.D.Desk.faults d) (λ d. g.D.Desk.filed d) string_bytes c.workers_for-workers.result c.args.desks.now.items c.serve_files.new.desks.items c.args.operands.now c.as_slice.result.now (omega (arith, is)) (omega (arith, is, c.requires.some)) (omega (arith, c.serve_files.ensures.count))
    c.serve_files.ensures.idle served in
    part_each_err g.W.World.told g.W.World.shelved (λ d. g.D.Desk.asked d) (λ d. g.D.Desk.faults d) (λ d. g.D.Desk.filed d) c.args.desks.now.items c.serve_files.new.desks.items _ (map string_bytes c.args.operands.now) c.as_slice.result.now all
    (same_seen (λ d. g.D.Desk.asked d) c.as_mut_slice.result.now _ c.served_reply.new.desks _ _ c.as_mut_slice.ensures.value (omega (arith, c.as_mut_slice.ensures.len, ap length c.as_mut_slice.ensures.value)) c.served_reply.ensures.asked)
    c.args.command.verb c.args.input.now c.served_reply.result c.requires.batch
    (err_seen _ c.as_mut_slice.result.now _ c.served_reply.new.desks _ _ c.served_reply.result c.as_mut_slice.ensures.value (omega (arith, c.as_mut_slice.ensures.len, ap length c.as_mut_slice.ensures.value)) c.served_reply.ensures.part)
