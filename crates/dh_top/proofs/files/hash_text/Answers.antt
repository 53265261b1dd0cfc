use Rattle.std.proofs.Common.{[], refl, ap, ◌∙◌, arith}
use Rattle.dh_command.specs.declared.statuses.Status.TheVariants as status
use Rattle.dh_command.specs.Answer.{spells_none}
use Rattle.dh_command.specs.Responses.{Response}
use Rattle.dh_top.proofs.Batches.{refused_served}
use Rattle.dh_top.proofs.files.hash_text.Goals as goal

pub returns : goal.returns
returns g c = record {
  served = refused_served g.W.World.told g.W.World.shelved (λ d. g.D.Desk.asked d) (λ d. g.D.Desk.faults d) (λ d. g.D.Desk.filed d) c.args.word.now c.args.desk.now c.args.desk.now _
      c.in_ok-reply-in_default.reply c.deref.result.now status.Text c.new.ensures refl (c.deref.ensures.value ∙ c.in_ok-text.ensures)
      (spells_none c.in-Err.fault refl (c.in-Err.ensures.refused c.in_default.not-Memory) c.in_ok-reply-in_default.ensures)
      (ap (λ (w : Response). w.status) c.in_ok-reply-in_default.ensures) (λ n. omega (arith, n)) (omega arith) refl;
  counted = tt;
  filed = tt;
}
