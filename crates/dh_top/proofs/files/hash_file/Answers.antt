use Rattle.std.proofs.Common.{refl, arith}
use Rattle.dh_command.specs.declared.statuses.Status.TheVariants as status
use Rattle.dh_command.specs.Answer.{file_lacks_memory}
use Rattle.dh_top.proofs.Batches.{nothing_served}
use Rattle.dh_top.proofs.Devices.{other_status}
use Rattle.dh_top.proofs.files.hash_file.Goals as goal

pub returns-in-Err : goal.returns-in-Err
returns-in-Err g c =
    nothing_served g.W.World.told g.W.World.shelved (λ d. g.D.Desk.asked d) (λ d. g.D.Desk.faults d) (λ d. g.D.Desk.filed d) c.args.word.now c.args.desk.now c.hash_text.new.desk _ c.new.ensures
    (file_lacks_memory refl refl) (λ e. other_status status.Memory status.Desk e (λ n. omega (arith, n))) c.in-Err.ensures.counted c.in-Err.ensures.filed
