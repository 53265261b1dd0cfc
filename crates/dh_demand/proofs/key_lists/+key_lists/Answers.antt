use Rattle.std.proofs.Common.{ap, ◌∙◌, ◌++◌}
use Rattle.std.specs.Option.{option_copied}
use Rattle.dh_syntax.specs.Expressions.Bridge.{row_of}
use Rattle.dh_imports.specs.Walk.{keys_of_row}
use Rattle.dh_demand.proofs.ImportKeys.{variable_keys, node_keys, more_keys, all_keys}
use Rattle.dh_demand.proofs.key_lists.+key_lists.Goals as goal

pub push_keys-returns-in-Var : goal.push_keys-returns-in-Var
push_keys-returns-in-Var t c = variable_keys _ c.args.e.now c.in-Var.field-0 c.in-Var.field-1 _ c.in-Var.is

pub push_keys-returns-in_ok-push_parts-in-Node : goal.push_keys-returns-in_ok-push_parts-in-Node
push_keys-returns-in_ok-push_parts-in-Node t c =
    node_keys _ c.args.e.now c.in-Node.op c.in-Node.kids _ _ _ c.in-Node.is c.in_ok-push_own-in-Node.ensures c.in_ok-push_parts-in-Node.ensures

pub push_parts-loop-kid-preserved : goal.push_parts-loop-kid-preserved
push_parts-loop-kid-preserved t c =
    more_keys _ c.as_slice-kid-items.result.now c.loop-kid.kid-index c.kid-item.result _ _ _ c.loop-kid-test.true c.kid-item.is c.in_ok-push_keys.ensures c.loop-kid.invariant

pub push_parts-returns : goal.push_parts-returns
push_parts-returns t c =
    all_keys _ c.as_slice-kid-items.result.now c.loop-kid.kid-index _ _ c.loop-kid-test.false c.loop-kid.invariant
    ∙ ap (λ ks. c.args.keys.now ++ keys_of_row (option_copied c.args.parent) (row_of ks)) c.as_slice-kid-items.ensures
