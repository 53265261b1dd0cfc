use Rattle.std.proofs.Common.{◌≡◌, refl, sym, ap, ◌∙◌, subst, map, Ok}
use Rattle.dh_record.specs.Kept.{pair_of}
use Rattle.dh_syntax.specs.Expressions.Bridge.{term}
use Rattle.dh_syntax.specs.Expressions.Spellable.{IsSpellable}
use Rattle.dh_syntax.specs.Text.Spelling.{ParsesTo}
use Rattle.dh_top.proofs.Closing.{closed}
use Rattle.dh_top.proofs.Generated.{asked_of, list_generated, too_many_listed}
use Rattle.dh_top.proofs.generating.spelled_list.Goals as goal

pub list_reply-requires-clause-spelled : goal.list_reply-requires-clause-spelled
list_reply-requires-clause-spelled g c = subst (λ r. ParsesTo c.args.text.now (Ok r)) (sym c.in-Ok.ensures.root) c.requires.spelled

pub list_reply-requires-clause-spellable : goal.list_reply-requires-clause-spellable
list_reply-requires-clause-spellable g c = subst IsSpellable (sym c.in-Ok.ensures.root) c.requires.spellable

pub list_reply-requires-clause-closed : goal.list_reply-requires-clause-closed
list_reply-requires-clause-closed g c =
    closed c.in-Ok.answered.table c.in-Ok.answered.ended (term c.args.e) c.in-Ok.ensures.root c.in-Ok.ensures.ends.decided c.in-Ok.ensures.ended c.in-Ok.ensures.resolved c.in-Ok.ensures.fits

pub returns-in-Ok : goal.returns-in-Ok
returns-in-Ok g c =
    list_generated asked_of _ _ c.args.text.now (term c.args.e) c.in-Ok.answered.table c.in-Ok.answered.ended (map pair_of c.in-Ok.answered.keeps)
    (record {
      root_is = c.in-Ok.ensures.root;
      texts = c.by_world.ensures.texts;
      looks = c.by_world.ensures.looks;
      replayed = c.by_history.ensures;
      asks = c.in-Ok.ensures.ends.asks;
      fails = c.in-Ok.ensures.ends.fails;
      fell = c.in-Ok.ensures.counted;
      filed_is = c.resolve_all.ensures.filed;
      closed = closed c.in-Ok.answered.table c.in-Ok.answered.ended (term c.args.e) c.in-Ok.ensures.root c.in-Ok.ensures.ends.decided c.in-Ok.ensures.ended c.in-Ok.ensures.resolved c.in-Ok.ensures.fits;
      keeps = c.in-Ok.ensures.keeps;
    })
    c.requires.spelled c.list_reply.result c.list_reply.ensures

pub returns-in-Err-TooMany : goal.returns-in-Err-TooMany
returns-in-Err-TooMany g c =
    too_many_listed c.why_reply.result c.args.text.now (term c.args.e) _ refl c.requires.spelled (c.in-Err-TooMany.ensures.too_many c.in-Err-TooMany.field-0-is) c.why_reply.ensures
