use Rattle.std.proofs.Common.{refl, sym, ◌∙◌, ap, map, string_bytes, Err}
use Rattle.dh_streams.specs.Streams.{most_read}
use Rattle.dh_top.proofs.Encodings.{performs_apart, performs_command, performs_unread, lacks_apart, lacks_command, lacks_before}
use Rattle.dh_top.proofs.Generated.{generated_performs}
use Rattle.dh_top.proofs.Operands.{gen_of, number_fit}
use Rattle.dh_top.proofs.replies.perform.Goals as goal

pub generating-requires-clause-named : goal.generating-requires-clause-named
generating-requires-clause-named g c =
    λ κs within.
    number_fit c.args.command.verb (map string_bytes c.args.operands.now) (gen_of c.args.command.verb c.takes_number.result c.takes_number.ensures c.if-takes_number.true) c.requires.fit

pub returns-then-takes_number-clause-performs : goal.returns-then-takes_number-clause-performs
returns-then-takes_number-clause-performs g c =
    generated_performs c.args.command (map string_bytes c.args.operands.now) _ _ _ c.generating.result
    (gen_of c.args.command.verb c.takes_number.result c.takes_number.ensures c.if-takes_number.true)
    (number_fit c.args.command.verb (map string_bytes c.args.operands.now) (gen_of c.args.command.verb c.takes_number.result c.takes_number.ensures c.if-takes_number.true) c.requires.fit)
    (refl, refl, refl) c.generating.ensures

pub returns-then-takes_number-clause-lacks : goal.returns-then-takes_number-clause-lacks
returns-then-takes_number-clause-lacks g c = lacks_before c.args.command _ _ _ c.generating.result refl

pub returns-then-not-reads-clause-performs : goal.returns-then-not-reads-clause-performs
returns-then-not-reads-clause-performs g c = performs_apart c.args.command _ _ _ _ _ c.answer.result (sym c.reads.ensures ∙ c.if-not-reads.true) c.answer.ensures.answers

pub returns-then-not-reads-clause-lacks : goal.returns-then-not-reads-clause-lacks
returns-then-not-reads-clause-lacks g c = lacks_apart c.args.command _ _ _ _ _ c.answer.result (sym c.reads.ensures ∙ c.if-not-reads.true) c.answer.ensures.lacks

pub returns-in-Ok-clause-performs : goal.returns-in-Ok-clause-performs
returns-in-Ok-clause-performs g c =
    performs_command c.args.command _ most_read _ _ _ _ _ _ _ c.answer-in-Ok.result refl (sym c.reads.ensures ∙ c.if-not-reads.false) c.in-Ok.ensures.taken c.in-Ok.ensures.all c.in-Ok.ensures.quiet
    c.deref.ensures.value c.answer-in-Ok.ensures.answers

pub returns-in-Ok-clause-lacks : goal.returns-in-Ok-clause-lacks
returns-in-Ok-clause-lacks g c =
    lacks_command c.args.command _ most_read _ _ _ _ _ _ _ c.answer-in-Ok.result refl (sym c.reads.ensures ∙ c.if-not-reads.false) c.in-Ok.ensures.taken c.in-Ok.ensures.all c.in-Ok.ensures.quiet c.deref.ensures.value c.answer-in-Ok.ensures.lacks

pub returns-in-Err-Failed-clause-performs : goal.returns-in-Err-Failed-clause-performs
returns-in-Err-Failed-clause-performs g c =
    performs_unread c.args.command _ _ _ c.unreadable.result (c.read_input.ensures.failed (c.in-Err-Failed.is ∙ ap Err c.in-Err-Failed.field-0-is)) (refl, refl, refl) c.unreadable.ensures

pub returns-in-Err-Failed-clause-lacks : goal.returns-in-Err-Failed-clause-lacks
returns-in-Err-Failed-clause-lacks g c = lacks_before c.args.command _ _ _ c.unreadable.result refl
