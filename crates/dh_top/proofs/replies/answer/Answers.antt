use Rattle.std.proofs.Common.{map, refl, string_bytes, subst}
use Rattle.dh_command.specs.Words.{AreFit}
use Rattle.dh_command.specs.declared.verbs.Verb.TheVariants as verb
use Rattle.dh_top.proofs.Encodings.{alone_for, explains_any, helps_any, part_none, tells_version_any, with_operands}
use Rattle.dh_top.proofs.Filing.{ok_map, on_err_map}
use Rattle.dh_top.proofs.replies.answer.Goals as goal

pub returns-in-Encode-clause-answers : goal.returns-in-Encode-clause-answers
returns-in-Encode-clause-answers g c = alone_for c.args.command.verb verb.Encode _ c.args.input.now _ c.encoding.result c.in-Encode.is refl (refl, refl, refl) (with_operands verb.Encode _ c.args.input.now c.encoding.result c.encoding.ensures)

pub returns-in-Encode-clause-lacks : goal.returns-in-Encode-clause-lacks
returns-in-Encode-clause-lacks g c = part_none c.args.command.verb _ c.args.input.now _ c.encoding.result refl

pub returns-in-Decode-clause-answers : goal.returns-in-Decode-clause-answers
returns-in-Decode-clause-answers g c = alone_for c.args.command.verb verb.Decode _ c.args.input.now _ c.decoding.result c.in-Decode.is refl (refl, refl, refl) (with_operands verb.Decode _ c.args.input.now c.decoding.result c.decoding.ensures)

pub returns-in-Decode-clause-lacks : goal.returns-in-Decode-clause-lacks
returns-in-Decode-clause-lacks g c = part_none c.args.command.verb _ c.args.input.now _ c.decoding.result refl

pub returns-in-Explain-clause-answers : goal.returns-in-Explain-clause-answers
returns-in-Explain-clause-answers g c =
    alone_for c.args.command.verb verb.Explain _ c.args.input.now _ c.explain.result c.in-Explain.is refl (refl, refl, refl) (explains_any c.explain.result _ c.args.input.now c.explain.ensures)

pub returns-in-Explain-clause-lacks : goal.returns-in-Explain-clause-lacks
returns-in-Explain-clause-lacks g c = part_none c.args.command.verb _ c.args.input.now _ c.explain.result refl

pub explain-requires : goal.explain-requires
explain-requires g c = subst (λ v. AreFit v (map string_bytes c.args.operands.now)) c.in-Explain.is c.requires.fit

pub returns-in-Help-clause-answers : goal.returns-in-Help-clause-answers
returns-in-Help-clause-answers g c =
    alone_for c.args.command.verb verb.Help _ c.args.input.now _ c.help.result c.in-Help.is refl (refl, refl, refl) (helps_any c.help.result _ c.args.input.now c.help.ensures)

pub returns-in-Help-clause-lacks : goal.returns-in-Help-clause-lacks
returns-in-Help-clause-lacks g c = part_none c.args.command.verb _ c.args.input.now _ c.help.result refl

pub returns-in-Version-clause-answers : goal.returns-in-Version-clause-answers
returns-in-Version-clause-answers g c =
    alone_for c.args.command.verb verb.Version _ c.args.input.now _ c.version.result c.in-Version.is refl (refl, refl, refl) (tells_version_any c.version.result _ c.args.input.now c.version.ensures)

pub returns-in-Version-clause-lacks : goal.returns-in-Version-clause-lacks
returns-in-Version-clause-lacks g c = part_none c.args.command.verb _ c.args.input.now _ c.version.result refl

pub returns-in-Steps-clause-answers : goal.returns-in-Steps-clause-answers
returns-in-Steps-clause-answers g c = alone_for c.args.command.verb verb.Steps _ c.args.input.now _ c.stepping.result c.in-Steps.is refl (refl, refl, refl) c.stepping.ensures

pub returns-in-Steps-clause-lacks : goal.returns-in-Steps-clause-lacks
returns-in-Steps-clause-lacks g c = part_none c.args.command.verb _ c.args.input.now _ c.stepping.result refl

pub stepping-requires : goal.stepping-requires
stepping-requires g c = subst (λ v. AreFit v (map string_bytes c.args.operands.now)) c.in-Steps.is c.requires.fit

pub batching-requires-clause-batch : goal.batching-requires-clause-batch
batching-requires-clause-batch g c = λ κs within. c.in-Batch.is

pub returns-in-Resolve-clause-answers : goal.returns-in-Resolve-clause-answers
returns-in-Resolve-clause-answers g c = ok_map c.resolving.result (λ w h. h (map string_bytes c.args.operands.now)) c.resolving.ensures.answers

pub returns-in-Resolve-clause-lacks : goal.returns-in-Resolve-clause-lacks
returns-in-Resolve-clause-lacks g c = on_err_map c.resolving.result (λ h. h (map string_bytes c.args.operands.now)) c.resolving.ensures.lacks
