use Rattle.std.proofs.lemmas.Result.{on_ok_weaker}
use Rattle.dh_record.proofs.NewKeys.{entered_step}
use Rattle.dh_record.proofs.rows.entering.enter.Goals as goal

pub returns-clause-entered : goal.returns-clause-entered
returns-clause-entered c =
    on_ok_weaker c.add-2.result
    (λ d. entered_step c.args.keys.now c.add.new.keys c.add-2.new.keys c.args.key.now c.in_ok-own.own c.in_ok-own.ensures c.in_ok-unfrozen.ensures.added d)
    c.add-2.ensures.added
