use Rattle.dh_top.specs.FileReplies.{all_pairs}
use Rattle.dh_top.proofs.Filing.{kept_part, on_err_of}
use Rattle.dh_top.proofs.batch.served_reply.Goals as goal

pub returns-clause-part : goal.returns-clause-part
returns-clause-part g c =
    on_err_of c.lines.result (kept_part (λ d. g.D.Desk.faults d) (λ d. g.D.Desk.filed d) (all_pairs c.args.replies.now) _ _ c.in_ok-keep_files_at_first.ensures.kept)
