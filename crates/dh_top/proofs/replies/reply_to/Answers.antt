use Rattle.std.proofs.Common.{refl, map, string_bytes}
use Rattle.dh_top.proofs.Encodings.{made_by_words, made_misused, lacks_by_words, lacks_misused, keeps_itself}
use Rattle.dh_top.proofs.Operands.{fit_by}
use Rattle.dh_top.proofs.Using.{uses_by_words}
use Rattle.dh_top.proofs.replies.reply_to.Goals as goal

pub returns-in-Ok-clause-made : goal.returns-in-Ok-clause-made
returns-in-Ok-clause-made g c = made_by_words _ c.in-Ok.command _ _ _ c.perform.result c.in-Ok.ensures c.operands_of-operands.ensures c.perform.ensures.performs

pub returns-in-Ok-clause-lacks : goal.returns-in-Ok-clause-lacks
returns-in-Ok-clause-lacks g c = lacks_by_words _ c.in-Ok.command _ _ _ c.perform.result c.in-Ok.ensures c.operands_of-operands.ensures c.perform.ensures.lacks

pub returns-in-Err-clause-made : goal.returns-in-Err-clause-made
returns-in-Err-clause-made g c = made_misused _ c.in-Err.k _ _ c.misuse.result c.in-Err.ensures (keeps_itself _) refl (refl, refl, refl) c.misuse.ensures

pub returns-in-Err-clause-lacks : goal.returns-in-Err-clause-lacks
returns-in-Err-clause-lacks g c = lacks_misused _ _ _ c.misuse.result (refl, refl, refl)

pub returns-in-Ok-clause-desks : goal.returns-in-Ok-clause-desks
returns-in-Ok-clause-desks g c = uses_by_words _ (map string_bytes c.args.words.now) c.in-Ok.command _ _ _ c.in-Ok.ensures c.perform.ensures.desks

pub perform-requires-clause-fit : goal.perform-requires-clause-fit
perform-requires-clause-fit g c = λ κs within. fit_by (map string_bytes c.args.words.now) c.in-Ok.command (map string_bytes c.operands_of-operands.result.now) c.in-Ok.ensures c.operands_of-operands.ensures
