use Rattle.dh_encode.proofs.ListTypes.{is_list-yes, is_list-other_name, is_list-other_node, is_list-variable}
use Rattle.dh_encode.proofs.collections.is_list.Goals as goal

pub returns-in-List : goal.returns-in-List
returns-in-List c = is_list-yes c.args.e.now c.in-Node.op c.in-Node.field-1 c.in-Builtin.builtin c.in-Node.is c.in-Builtin.is c.in-List.is

pub returns-in_default-matches : goal.returns-in_default-matches
returns-in_default-matches c = is_list-other_name c.args.e.now c.in-Node.op c.in-Node.field-1 c.in-Builtin.builtin c.in-Node.is c.in-Builtin.is c.in_default-matches.not-List

pub returns-in_default : goal.returns-in_default
returns-in_default c = is_list-other_node c.args.e.now c.in-Node.op c.in-Node.field-1 c.in-Node.is c.in_default.not-Builtin

pub returns-in-Var : goal.returns-in-Var
returns-in-Var c = is_list-variable c.args.e.now c.in-Var.field-0 c.in-Var.field-1 c.in-Var.is
