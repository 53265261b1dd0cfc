use Rattle.std.specs.Prelude.{[]}
use Rattle.dh_laws.proofs.Names.Cores.{term_below-core_below}
use Rattle.dh_laws.proofs.nameless.reading_back.Goals as goal

pub returns-clause-whole : goal.returns-clause-whole
returns-clause-whole c = term_below-core_below []

pub returns-clause-below : goal.returns-clause-below
returns-clause-below c = term_below-core_below
