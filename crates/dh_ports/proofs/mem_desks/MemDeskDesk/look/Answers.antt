use Rattle.std.proofs.Common.{option_map, sym, ◌∙◌, ap, subst}
use Rattle.dh_ports.specs.Desks.{Tells, shown}
use Rattle.dh_ports.specs.MemDesk.{listed_entry}
use Rattle.dh_ports.proofs.mem_desks.MemDeskDesk.look.Goals as goal

pub returns-clause-told : goal.returns-clause-told
returns-clause-told g c =
    subst (Tells (option_map shown (g.W.World.shelved c.args.d.now))) (sym (c.in_ok-entry.ensures.found ∙ ap (λ xs. listed_entry xs c.args.d.now) c.as_slice.ensures))
    (c.args.self.now.shelved c.args.d.now)
