use Rattle.std.proofs.Common.{◌≡◌, subst}
use Rattle.dh_top.specs.Replies.{IsClosed, written}
use Rattle.dh_top.proofs.Closing.{fault_stands, faulty_ended, valued_ended, value_formed, value_shallow, value_indices}
use Rattle.dh_top.proofs.Filing.{ok_map}
use Rattle.dh_top.proofs.resolving.ended_reply.Goals as goal

pub ready_reply-requires-clause-formed : goal.ready_reply-requires-clause-formed
ready_reply-requires-clause-formed g c = value_formed c.args.table.now c.in-Ready.e c.requires.spellable (subst (IsClosed c.args.table.now) c.in-Ready.is c.requires.closed)

pub ready_reply-requires-clause-shallow : goal.ready_reply-requires-clause-shallow
ready_reply-requires-clause-shallow g c = value_shallow c.args.table.now c.in-Ready.e c.requires.spellable (subst (IsClosed c.args.table.now) c.in-Ready.is c.requires.closed)

pub ready_reply-requires-clause-indices : goal.ready_reply-requires-clause-indices
ready_reply-requires-clause-indices g c = value_indices c.args.table.now c.in-Ready.e c.requires.spellable (subst (IsClosed c.args.table.now) c.in-Ready.is c.requires.closed)

pub returns-in-Ready : goal.returns-in-Ready
returns-in-Ready g c =
    ok_map c.ready_reply.result (λ w a. valued_ended c.args.verb c.args.text.now c.args.table.now c.in-Ready.e (written w) c.by_history.ensures (subst (IsClosed c.args.table.now) c.in-Ready.is c.requires.closed) a) c.ready_reply.ensures

pub blame_reply-requires : goal.blame_reply-requires
blame_reply-requires g c = record { stands = fault_stands c.args.table.now c.in-Bad.blame c.by_history.ensures (subst (IsClosed c.args.table.now) c.in-Bad.is c.requires.closed) }

pub returns-in-Bad : goal.returns-in-Bad
returns-in-Bad g c =
    ok_map c.blame_reply.result (λ w a. faulty_ended c.args.verb c.args.text.now c.args.table.now c.in-Bad.blame (written w) (subst (IsClosed c.args.table.now) c.in-Bad.is c.requires.closed) a) c.blame_reply.ensures
