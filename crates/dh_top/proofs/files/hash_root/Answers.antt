use Rattle.std.proofs.Common.{[], ◌∷◌, refl, ap, arith, map}
use Rattle.dh_command.specs.declared.statuses.Status.TheVariants as status
use Rattle.dh_command.specs.declared.verbs.Verb.TheVariants as verb
use Rattle.dh_command.specs.Responses.{Response}
use Rattle.dh_record.specs.Kept.{pair_of}
use Rattle.dh_session.specs.Ended.{none_left, more_left}
use Rattle.dh_syntax.specs.Expressions.Bridge.{term}
use Rattle.dh_top.specs.Replies.{written}
use Rattle.dh_top.proofs.Batches.{refused_served, root_served}
use Rattle.dh_top.proofs.Closing.{closed}
use Rattle.dh_top.proofs.Resolutions.{does_too_many}
use Rattle.dh_top.proofs.files.hash_root.Goals as goal

pub ended_reply-requires-clause-closed : goal.ended_reply-requires-clause-closed
ended_reply-requires-clause-closed g c =
    closed c.in-Ok.answered.table c.in-Ok.answered.ended (term c.args.e) c.in-Ok.ensures.root c.in-Ok.ensures.ends.decided c.in-Ok.ensures.ended c.in-Ok.ensures.resolved c.in-Ok.ensures.fits

pub returns-in_ok-reply-in-Ok-clause-served : goal.returns-in_ok-reply-in-Ok-clause-served
returns-in_ok-reply-in-Ok-clause-served g c =
    root_served g.W.World.told g.W.World.shelved (λ d. g.D.Desk.asked d) (λ d. g.D.Desk.faults d) (λ d. g.D.Desk.filed d) c.args.word.now c.args.desk.now c.resolve_one.new.desk c.args.text.now (term c.args.e)
    c.in-Ok.answered.table c.in-Ok.answered.ended _ c.in_ok-reply-in-Ok.reply c.requires.text refl
    (record {
      root_is = c.in-Ok.ensures.root;
      texts = c.by_world.ensures.texts;
      looks = c.by_world.ensures.looks;
      replayed = c.by_history.ensures;
      asks = c.in-Ok.ensures.ends.asks;
      fails = c.in-Ok.ensures.ends.fails;
      fell = more_left c.resolve_one.ensures.counted none_left;
      filed_is = ap (λ x. x ∷ []) c.resolve_one.ensures.filed;
      closed = closed c.in-Ok.answered.table c.in-Ok.answered.ended (term c.args.e) c.in-Ok.ensures.root c.in-Ok.ensures.ends.decided c.in-Ok.ensures.ended c.in-Ok.ensures.resolved c.in-Ok.ensures.fits;
      keeps = c.in-Ok.ensures.keeps;
    })
    c.requires.spelled c.in_ok-reply-in-Ok.ensures

pub returns-in_ok-reply-in-Err-TooMany-clause-served : goal.returns-in_ok-reply-in-Err-TooMany-clause-served
returns-in_ok-reply-in-Err-TooMany-clause-served g c =
    let x = c.in_ok-reply-in-Err-TooMany.reply in
    refused_served g.W.World.told g.W.World.shelved (λ d. g.D.Desk.asked d) (λ d. g.D.Desk.faults d) (λ d. g.D.Desk.filed d) c.args.word.now c.args.desk.now c.resolve_one.new.desk _ x c.args.text.now
    status.Limit c.new.ensures refl c.requires.text
    (does_too_many verb.Hash [] c.args.text.now (term c.args.e) (written x) _ refl refl c.requires.spelled (c.in-Err-TooMany.ensures.too_many c.in-Err-TooMany.field-0-is) c.in_ok-reply-in-Err-TooMany.ensures)
    (ap (λ (w : Response). w.status) c.in_ok-reply-in-Err-TooMany.ensures) (λ n. omega (arith, n)) c.resolve_one.ensures.counted c.resolve_one.ensures.filed
