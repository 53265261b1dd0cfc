use Rattle.std.proofs.Common.{arith}
use Rattle.dh_reader.specs.Stacks.{stack_of}
use Rattle.dh_reader.proofs.Arguing.{argued, argued_first, refused_on}
use Rattle.dh_reader.proofs.Following.{follows}
use Rattle.dh_reader.proofs.operands.arguments.argue.Goals as goal

pub returns-then-least-gt-APPLICATION : goal.returns-then-least-gt-APPLICATION
returns-then-least-gt-APPLICATION g c r =
    refused_on (g.M.Makes.makes c.args.reader.now.at) c.args.kind _ (stack_of g.M.Makes.views c.take_first.new.self) (g.M.Makes.views.tree c.args.operand) c.if-take_first.ensures.kept c.if-take_first.ensures.none
    (omega (arith, c.least.ensures, c.if-least-gt-APPLICATION.true))

pub returns-in_ok-push_open : goal.returns-in_ok-push_open
returns-in_ok-push_open g c =
    follows g.M.Makes.views _ _ c.begin.new.reader c.begin.result
    (argued_first (g.M.Makes.makes c.args.reader.now.at) _ _ _ _ _ c.if-take_first.ensures.taken c.in_ok-push_open.ensures)
    c.begin.ensures

pub returns-in_ok-push_open-2 : goal.returns-in_ok-push_open-2
returns-in_ok-push_open-2 g c =
    follows g.M.Makes.views _ _ c.begin-else-take_first.new.reader c.begin-else-take_first.result
    (argued (g.M.Makes.makes c.args.reader.now.at) c.args.kind _ _ _ (g.M.Makes.views.tree c.args.operand) c.if-take_first.ensures.kept c.if-take_first.ensures.none
    (omega (arith, c.least.ensures, c.if-least-gt-APPLICATION.false)) c.in_ok-push_open-2.ensures)
    c.begin-else-take_first.ensures
