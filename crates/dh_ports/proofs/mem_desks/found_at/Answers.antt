use Rattle.std.proofs.Common.{sym, ◌∙◌}
use Rattle.dh_syntax.specs.Expressions.SameTree.{loc_eq}
use Rattle.dh_ports.specs.Desks.{IsShort}
use Rattle.dh_ports.proofs.MemDesks.{find_keeps, ok_same}
use Rattle.dh_ports.proofs.mem_desks.found_at.Goals as goal

pub returns-in-Some-clause-short : goal.returns-in-Some-clause-short
returns-in-Some-clause-short c =
    ok_same IsShort c.copied.result c.in-Some.content.now.got c.copied.ensures
    (find_keeps (λ x. IsShort x.got) (λ x. loc_eq c.args.loc.now x.loc) c.args.contents.now c.in-Some.content.now c.requires (sym c.in-Some.ensures))
