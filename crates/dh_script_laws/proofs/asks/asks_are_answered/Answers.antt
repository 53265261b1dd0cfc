use Rattle.dh_script_laws.proofs.Answering.{asks_are_answered, loops_are_answered, kept_are_answered, roots_are_keys}
use Rattle.dh_script_laws.proofs.asks.asks_are_answered.Goals as goal

pub returns-clause-asks : goal.returns-clause-asks
returns-clause-asks c = asks_are_answered

pub returns-clause-loops : goal.returns-clause-loops
returns-clause-loops c = loops_are_answered

pub returns-clause-kept : goal.returns-clause-kept
returns-clause-kept c = kept_are_answered

pub returns-clause-roots : goal.returns-clause-roots
returns-clause-roots c = roots_are_keys
