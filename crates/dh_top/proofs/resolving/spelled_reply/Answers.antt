use Rattle.std.proofs.Common.{◌≡◌, refl, sym, ap, ◌∙◌, subst, map, length, None, Ok, arith}
use Rattle.std.specs.Prelude.{max, min}
use Rattle.dh_syntax.specs.Expressions.Bridge.{term}
use Rattle.dh_syntax.specs.Expressions.Spellable.{IsSpellable}
use Rattle.dh_syntax.specs.Text.Spelling.{ParsesTo}
use Rattle.dh_record.specs.Kept.{pair_of}
use Rattle.dh_top.specs.Outside.{first_of}
use Rattle.dh_top.proofs.Closing.{closed}
use Rattle.dh_top.proofs.Encodings.{part_none_any}
use Rattle.dh_top.proofs.Filing.{ok_seen, err_seen, same_seen}
use Rattle.dh_top.proofs.Resolutions.{answered, answered_none, too_many_answered}
use Rattle.dh_top.proofs.Using.{resolving_uses, uses_keeping, uses_workers}
use Rattle.dh_top.proofs.resolving.spelled_reply.Goals as goal

pub answered_reply-requires-clause-spelled : goal.answered_reply-requires-clause-spelled
answered_reply-requires-clause-spelled g c = subst (λ r. ParsesTo c.args.text.now (Ok r)) (sym c.in-Ok.ensures.root) c.requires.spelled

pub answered_reply-requires-clause-spellable : goal.answered_reply-requires-clause-spellable
answered_reply-requires-clause-spellable g c = subst IsSpellable (sym c.in-Ok.ensures.root) c.requires.spellable

pub answered_reply-requires-clause-closed : goal.answered_reply-requires-clause-closed
answered_reply-requires-clause-closed g c =
    closed c.in-Ok.answered.table c.in-Ok.answered.ended (term c.args.e) c.in-Ok.ensures.root c.in-Ok.ensures.ends.decided c.in-Ok.ensures.ended c.in-Ok.ensures.resolved c.in-Ok.ensures.fits

pub returns-in-Ok-clause-answers : goal.returns-in-Ok-clause-answers
returns-in-Ok-clause-answers g c =
    answered g.W.World.told g.W.World.shelved (λ d. g.D.Desk.asked d) (λ d. g.D.Desk.faults d) (λ d. g.D.Desk.filed d) _ _ _ c.args.command.verb c.args.text.now (term c.args.e) c.in-Ok.answered.table c.in-Ok.answered.ended
    (map pair_of c.in-Ok.answered.keeps)
    (record {
      root_is = c.in-Ok.ensures.root;
      texts = c.by_world.ensures.texts;
      looks = c.by_world.ensures.looks;
      replayed = c.by_history.ensures;
      asks = c.in-Ok.ensures.ends.asks;
      fails = c.in-Ok.ensures.ends.fails;
      fell = c.in-Ok.ensures.counted;
      filed_is = c.resolve_all.ensures.filed;
      closed = closed c.in-Ok.answered.table c.in-Ok.answered.ended (term c.args.e) c.in-Ok.ensures.root c.in-Ok.ensures.ends.decided c.in-Ok.ensures.ended c.in-Ok.ensures.resolved c.in-Ok.ensures.fits;
      keeps = c.in-Ok.ensures.keeps;
    })
    (same_seen (λ d. g.D.Desk.asked d) c.as_mut_slice.result.now _ c.answered_reply.new.desks _ _ c.as_mut_slice.ensures.value
    (omega (arith, c.as_mut_slice.ensures.len, ap length c.as_mut_slice.ensures.value)) c.answered_reply.ensures.asked)
    c.requires.resolves c.requires.spelled c.answered_reply.result
    (ok_seen _ c.as_mut_slice.result.now _ c.answered_reply.new.desks _ _ c.answered_reply.result c.as_mut_slice.ensures.value (omega (arith, c.as_mut_slice.ensures.len, ap length c.as_mut_slice.ensures.value)) c.answered_reply.ensures.kept) c.answered_reply.ensures.does

pub returns-in-Ok-clause-lacks : goal.returns-in-Ok-clause-lacks
returns-in-Ok-clause-lacks g c =
    answered_none g.W.World.told g.W.World.shelved (λ d. g.D.Desk.asked d) (λ d. g.D.Desk.faults d) (λ d. g.D.Desk.filed d) _ _ _ c.args.command.verb c.args.text.now (term c.args.e) c.in-Ok.answered.table c.in-Ok.answered.ended
    (map pair_of c.in-Ok.answered.keeps)
    (record {
      root_is = c.in-Ok.ensures.root;
      texts = c.by_world.ensures.texts;
      looks = c.by_world.ensures.looks;
      replayed = c.by_history.ensures;
      asks = c.in-Ok.ensures.ends.asks;
      fails = c.in-Ok.ensures.ends.fails;
      fell = c.in-Ok.ensures.counted;
      filed_is = c.resolve_all.ensures.filed;
      closed = closed c.in-Ok.answered.table c.in-Ok.answered.ended (term c.args.e) c.in-Ok.ensures.root c.in-Ok.ensures.ends.decided c.in-Ok.ensures.ended c.in-Ok.ensures.resolved c.in-Ok.ensures.fits;
      keeps = c.in-Ok.ensures.keeps;
    })
    (same_seen (λ d. g.D.Desk.asked d) c.as_mut_slice.result.now _ c.answered_reply.new.desks _ _ c.as_mut_slice.ensures.value
    (omega (arith, c.as_mut_slice.ensures.len, ap length c.as_mut_slice.ensures.value)) c.answered_reply.ensures.asked)
    c.requires.resolves c.requires.spelled c.answered_reply.result
    (err_seen _ c.as_mut_slice.result.now _ c.answered_reply.new.desks _ _ c.answered_reply.result c.as_mut_slice.ensures.value (omega (arith, c.as_mut_slice.ensures.len, ap length c.as_mut_slice.ensures.value)) c.answered_reply.ensures.part)

pub returns-in-Err-TooMany-clause-answers : goal.returns-in-Err-TooMany-clause-answers
returns-in-Err-TooMany-clause-answers g c =
    too_many_answered c.why_reply.result c.args.command.verb c.args.text.now (term c.args.e) _ _ refl c.requires.resolves c.requires.spelled
    (ap (first_of None) c.resolve_all.ensures.filed, ap (map (λ d. g.D.Desk.faults d)) (c.in-Err-TooMany.ensures.alone c.in-Err-TooMany.field-0-is), ap (map (λ d. g.D.Desk.asked d)) (c.in-Err-TooMany.ensures.alone c.in-Err-TooMany.field-0-is))
    (c.in-Err-TooMany.ensures.too_many c.in-Err-TooMany.field-0-is) c.why_reply.ensures

pub returns-in-Err-TooMany-clause-lacks : goal.returns-in-Err-TooMany-clause-lacks
returns-in-Err-TooMany-clause-lacks g c = part_none_any c.args.command.verb c.args.text.now _ c.why_reply.result (ap (first_of None) c.resolve_all.ensures.filed)

pub returns-in-Ok-clause-desks : goal.returns-in-Ok-clause-desks
returns-in-Ok-clause-desks g c =
    uses_keeping (λ d. g.D.Desk.filed d) c.args.command _ _ _ _ (resolving_uses c.args.command.verb c.requires.resolves) (c.workers_for-workers.ensures ∙ ap (λ n. max 1 (min c.args.command.workers n)) c.len.ensures) c.resolve_all.ensures.idle c.resolve_all.ensures.filed _ _ _ c.answered_reply.result
    (ok_seen _ c.as_mut_slice.result.now _ c.answered_reply.new.desks _ _ c.answered_reply.result c.as_mut_slice.ensures.value (omega (arith, c.as_mut_slice.ensures.len, ap length c.as_mut_slice.ensures.value)) c.answered_reply.ensures.kept)
    (err_seen _ c.as_mut_slice.result.now _ c.answered_reply.new.desks _ _ c.answered_reply.result c.as_mut_slice.ensures.value (omega (arith, c.as_mut_slice.ensures.len, ap length c.as_mut_slice.ensures.value)) c.answered_reply.ensures.part)

pub returns-in-Err-TooMany-clause-desks : goal.returns-in-Err-TooMany-clause-desks
returns-in-Err-TooMany-clause-desks g c = uses_workers (λ d. g.D.Desk.filed d) c.args.command _ _ _ _ (resolving_uses c.args.command.verb c.requires.resolves) (c.workers_for-workers.ensures ∙ ap (λ n. max 1 (min c.args.command.workers n)) c.len.ensures) c.resolve_all.ensures.idle c.resolve_all.ensures.filed

pub returns-in_err-shelf-clause-lacks : goal.returns-in_err-shelf-clause-lacks
returns-in_err-shelf-clause-lacks g c = part_none_any c.args.command.verb c.args.text.now _ c.from_residual.result refl

pub returns-in_err-shelf-clause-desks : goal.returns-in_err-shelf-clause-desks
returns-in_err-shelf-clause-desks g c = uses_workers (λ d. g.D.Desk.filed d) c.args.command _ _ _ _ (resolving_uses c.args.command.verb c.requires.resolves) (c.workers_for-workers.ensures ∙ ap (λ n. max 1 (min c.args.command.workers n)) c.len.ensures) refl refl
