use Rattle.dh_syntax.specs.Expressions.Bridge.{term}
use Rattle.dh_imports.specs.Machine.{outcome_of}
use Rattle.dh_imports.specs.Readings.{root_reading}
use Rattle.dh_table.specs.States.{state_of}
use Rattle.dh_top.proofs.TypedReplies.{frozen_any, itself_any, typed_any, types_of}
use Rattle.dh_top.proofs.resolving.ready_reply.Goals as goal

pub returns-in-Resolve : goal.returns-in-Resolve
returns-in-Resolve g c = itself_any c.printed_line.result c.args.verb _ (term c.args.e.now) c.in-Resolve.is c.printed_line.ensures

pub returns-in-Freeze : goal.returns-in-Freeze
returns-in-Freeze g c =
    frozen_any c.freezing.result c.args.verb (root_reading c.args.text.now (state_of c.args.table.now).root (outcome_of (state_of c.args.table.now))) (term c.args.e.now) c.in-Freeze.is c.freezing.ensures

pub typing-requires-clause-types : goal.typing-requires-clause-types
typing-requires-clause-types g c = types_of c.args.verb c.requires.resolves c.in_default.not-Resolve c.in_default.not-Freeze

pub returns-in_default : goal.returns-in_default
returns-in_default g c =
    typed_any c.typing.result c.args.verb _ (term c.args.e.now) (types_of c.args.verb c.requires.resolves c.in_default.not-Resolve c.in_default.not-Freeze) c.typing.ensures
