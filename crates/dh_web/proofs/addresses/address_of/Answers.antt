use Rattle.std.proofs.Common.{rules}
use Rattle.dh_web.proofs.addresses.address_of.Goals as goal

pub returns-in-None-port_of-clause-none : goal.returns-in-None-port_of-clause-none
returns-in-None-port_of-clause-none c = λ e port is. c.in-None-port_of.ensures.none e port (search rules)
