use Rattle.std.proofs.Common.{sym, ◌∙◌, ap, subst}
use Rattle.dh_ports.specs.Desks.{Tells}
use Rattle.dh_ports.specs.MemDesk.{listed}
use Rattle.dh_ports.proofs.mem_desks.MemDeskDesk.fetch.Goals as goal

pub returns-clause-told : goal.returns-clause-told
returns-clause-told g c =
    subst (Tells (g.W.World.told c.args.loc.now)) (sym (c.in_ok-got.ensures.found ∙ ap (λ xs. listed xs c.args.loc.now) c.as_slice.ensures)) (c.args.self.now.told c.args.loc.now)
