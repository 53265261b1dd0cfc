use Rattle.std.specs.Prelude.{◌≡◌, ◌↔◌, [], None, IsTrue}
use Rattle.std.proofs.lemmas.Result.{IfOk-weaker}
use Rattle.dh_syntax.specs.Expressions.Bridge.{term}
use Rattle.dh_imports.specs.Records.{IsClosed}
use Rattle.dh_imports.specs.Walk.{keys_of}
use Rattle.dh_work.proofs.Bringings.{imports_tell, closed_whole}
use Rattle.dh_work.proofs.looking.is_whole.Goals as goal

pub returns-then-not-is_empty : goal.returns-then-not-is_empty
returns-then-not-is_empty c =
    imports_tell c.is_empty.result c.in_ok-keys.keys (keys_of None (term c.args.e.now)) (IsClosed (term c.args.e.now)) c.is_empty.ensures c.in_ok-keys.ensures c.if-not-is_empty.true

pub returns : goal.returns
returns c =
    IfOk-weaker c.is_closed.result _ (λ b. IsTrue b ↔ ((keys_of None (term c.args.e.now) ≡ []) × IsClosed (term c.args.e.now)))
    (closed_whole c.is_empty.result c.in_ok-keys.keys (keys_of None (term c.args.e.now)) (IsClosed (term c.args.e.now)) c.is_empty.ensures c.in_ok-keys.ensures c.if-not-is_empty.false) c.is_closed.ensures
