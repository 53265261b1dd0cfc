use Rattle.dh_infer.proofs.KnownForms.{own-found, own-kept}
use Rattle.dh_infer.proofs.known.seen_form.Goals as goal

pub returns-in_ok-put-clause-known : goal.returns-in_ok-put-clause-known
returns-in_ok-put-clause-known c =
    own-kept c.args.codes.now c.args.known.now c.args.code c.requires.known (c.is_own_form.ensures c.if-is_own_form.true) c.put.new.self c.in_ok-put.ensures

pub returns-in_ok-put-clause-ok : goal.returns-in_ok-put-clause-ok
returns-in_ok-put-clause-ok c =
    own-found c.args.codes.now c.args.known.now c.args.code c.requires.known (c.is_own_form.ensures c.if-is_own_form.true) c.args.purse.now.left c.requires.there
