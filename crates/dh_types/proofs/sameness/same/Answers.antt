use Rattle.std.proofs.Common.{ap}
use Rattle.dh_store.specs.Cells.{code_core}
use Rattle.dh_types.proofs.SameCodes.{same-itself}
use Rattle.dh_types.proofs.sameness.same.Goals as goal

pub returns-then-a-b : goal.returns-then-a-b
returns-then-a-b c = same-itself _ _ (ap (code_core c.args.codes.now) c.if-a-b.true)
