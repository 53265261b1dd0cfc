use Rattle.std.proofs.Common.{subst as along}
use Rattle.dh_store.specs.Growth.{count}
use Rattle.dh_infer.specs.Inside.Turns.{IsUntyped}
use Rattle.dh_infer.proofs.Turning.{get-none, get-some, kid-there, turn-skip, turn-type}
use Rattle.dh_infer.proofs.parts.turn_of.Goals as goal

pub is_untyped-requires-clause-there : goal.is_untyped-requires-clause-there
is_untyped-requires-clause-there c = kid-there (count c.args.codes.now) c.args.kids.now c.args.at c.in-Some.kid.now (get-some c.args.kids.now c.args.at c.in-Some.kid.now c.in-Some.ensures.lookup.3.0 c.in-Some.ensures.lookup.1) c.requires.there

pub returns-then-is_untyped : goal.returns-then-is_untyped
returns-then-is_untyped c =
    turn-skip c.args.codes.now c.args.scope.now c.args.op.now c.args.kids.now c.args.at c.in-Some.kid.now (get-some c.args.kids.now c.args.at c.in-Some.kid.now c.in-Some.ensures.lookup.3.0 c.in-Some.ensures.lookup.1)
    (along (IsUntyped c.args.codes.now c.args.scope.now c.args.op.now c.args.at c.in-Some.kid.now.code) c.if-is_untyped.true c.is_untyped.ensures)

pub returns-else-is_untyped : goal.returns-else-is_untyped
returns-else-is_untyped c =
    turn-type c.args.codes.now c.args.scope.now c.args.op.now c.args.kids.now c.args.at c.in-Some.kid.now (get-some c.args.kids.now c.args.at c.in-Some.kid.now c.in-Some.ensures.lookup.3.0 c.in-Some.ensures.lookup.1) c.requires.there
    (along (IsUntyped c.args.codes.now c.args.scope.now c.args.op.now c.args.at c.in-Some.kid.now.code) c.if-is_untyped.false c.is_untyped.ensures)

pub returns-in-None : goal.returns-in-None
returns-in-None c = get-none c.args.kids.now c.args.at c.in-None.ensures.lookup.0
