use Rattle.std.specs.Prelude.{slice_get}
use Rattle.std.proofs.Common.{ap, sym, ◌∙◌}
use Rattle.dh_infer.proofs.Remembering.{waits-at, waits-entry}
use Rattle.dh_infer.proofs.known.alone.Goals as goal

pub returns-in-Universe : goal.returns-in-Universe
returns-in-Universe c =
    waits-at c.args.typer.now c.args.frame.now c.in-Universe.field-0 c.in-Universe.part c.in-Universe.types c.in-Universe.field-3 c.in-Universe.field-4 c.in-Universe.is c.type_at.result
    (c.type_at.ensures ∙ ap (λ xs. slice_get xs c.in-Universe.part) c.as_slice.ensures.value)

pub returns-in-Some : goal.returns-in-Some
returns-in-Some c = waits-entry c.args.typer.now c.args.frame.now c.in-Used.index c.in-Some.entry.now c.in-Used.is (sym c.in-Some.ensures)
