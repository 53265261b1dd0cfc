use Rattle.std.proofs.Common.{subst}
use Rattle.dh_top.specs.FileReplies.{IsServed}
use Rattle.dh_top.proofs.files.HashingSessionStringFileReply.reply.Goals as goal

pub returns : goal.returns
returns g c =
    subst
    (λ w. IsServed g.W.World.told g.W.World.shelved (λ d. g.D.Desk.asked d) (λ d. g.D.Desk.faults d) (λ d. g.D.Desk.filed d) w c.args.desk.now c.hash_file.new.desk c.hash_file.result)
    c.as_str.ensures.value c.hash_file.ensures
