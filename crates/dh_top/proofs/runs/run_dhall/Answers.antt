use Rattle.std.proofs.Common.{refl, sym, ap, ◌∙◌}
use Rattle.dh_top.proofs.Causes.{caused, told-line}
use Rattle.dh_top.proofs.RunLaws.{ran_reply, ran_desk, ran_lacking}
use Rattle.dh_top.specs.Replies.{written}
use Rattle.dh_top.proofs.AnswerStatuses.{read_delivered, usage_delivered, write_delivered, written_as}
use Rattle.dh_top.proofs.runs.run_dhall.Goals as goal

pub reply_to-requires-clause-some : goal.reply_to-requires-clause-some
reply_to-requires-clause-some g c = λ κs within. c.requires.some

pub returns-in-Ok-clause-runs : goal.returns-in-Ok-clause-runs
returns-in-Ok-clause-runs g c =
    ran_reply _ _ _ _ _ c.reply_to.result c.in-Ok.reply c.deref.result.now c.deref-in-Ok.result.now c.deliver.result c.in-Ok.is c.reply_to.ensures.made c.deref.ensures.value
    c.deref-in-Ok.ensures.value c.deliver.ensures

pub returns-in-Ok-clause-desk_only : goal.returns-in-Ok-clause-desk_only
returns-in-Ok-clause-desk_only g c = ran_desk _ _ _ _ _ c.reply_to.result c.in-Ok.reply c.deref.result.now c.deref-in-Ok.result.now c.deliver.result c.in-Ok.is c.reply_to.ensures.made c.deliver.ensures

pub returns-in-Err-clause-runs : goal.returns-in-Err-clause-runs
returns-in-Err-clause-runs g c = ran_lacking _ _ _ _ _ c.reply_to.result _ _ _ c.deliver-in-Err.result c.in-Err.is c.reply_to.ensures.lacks refl refl c.deliver-in-Err.ensures

pub returns-in-Ok-clause-cause : goal.returns-in-Ok-clause-cause
returns-in-Ok-clause-cause g c = caused _ _ _ _ _ _ (returns-in-Ok-clause-runs g c)

pub returns-in-Ok-clause-one_line : goal.returns-in-Ok-clause-one_line
returns-in-Ok-clause-one_line g c = told-line _ _ _ _ _ _ (returns-in-Ok-clause-runs g c)

pub returns-in-Err-clause-cause : goal.returns-in-Err-clause-cause
returns-in-Err-clause-cause g c = caused _ _ _ _ _ _ (returns-in-Err-clause-runs g c)

pub returns-in-Err-clause-one_line : goal.returns-in-Err-clause-one_line
returns-in-Err-clause-one_line g c = told-line _ _ _ _ _ _ (returns-in-Err-clause-runs g c)

pub returns-in-Ok-clause-usage_only : goal.returns-in-Ok-clause-usage_only
returns-in-Ok-clause-usage_only g c =
    usage_delivered _ _ _ (written c.in-Ok.reply) _ _ _ _ c.in-Ok.ensures.made
    (ap (λ b. written_as b c.in-Ok.reply.err.items c.in-Ok.reply.status) (sym c.deref.ensures.value) ∙ ap (λ b. written_as c.deref.result.now b c.in-Ok.reply.status) (sym c.deref-in-Ok.ensures.value)) c.deliver.ensures

pub returns-in-Ok-clause-read_only : goal.returns-in-Ok-clause-read_only
returns-in-Ok-clause-read_only g c =
    read_delivered _ _ _ (written c.in-Ok.reply) _ _ _ _ c.in-Ok.ensures.made
    (ap (λ b. written_as b c.in-Ok.reply.err.items c.in-Ok.reply.status) (sym c.deref.ensures.value) ∙ ap (λ b. written_as c.deref.result.now b c.in-Ok.reply.status) (sym c.deref-in-Ok.ensures.value)) c.deliver.ensures

pub returns-in-Ok-clause-write_only : goal.returns-in-Ok-clause-write_only
returns-in-Ok-clause-write_only g c =
    write_delivered _ _ _ (written c.in-Ok.reply) _ _ _ _ c.in-Ok.ensures.made
    (ap (λ b. written_as b c.in-Ok.reply.err.items c.in-Ok.reply.status) (sym c.deref.ensures.value) ∙ ap (λ b. written_as c.deref.result.now b c.in-Ok.reply.status) (sym c.deref-in-Ok.ensures.value)) c.deliver.ensures
