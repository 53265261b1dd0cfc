use Rattle.std.proofs.Common.{ap, ◌∙◌, None}
use Rattle.dh_syntax.specs.declared.expressions.Op.TheVariants as ops
use Rattle.dh_syntax.specs.declared.locations.Import.{Import}
use Rattle.dh_syntax.specs.declared.locations.Loc.{Loc}
use Rattle.dh_syntax.specs.declared.locations.Mode.TheVariants as modes
use Rattle.dh_syntax.specs.Expressions.Bridge.{row_of}
use Rattle.dh_syntax.specs.Expressions.Tree.{Node, Name, Row, Var, end}
use Rattle.dh_syntax.proofs.Bridge.{row_of-nil, term-Node}
use Rattle.dh_import_tests.proofs.table_runs.link.Goals as goal

pub returns : goal.returns
returns c =
    term-Node (ops.Import c.in_ok-import.import) c.new-2.result
    ∙ ap (λ (r : Row Var Name). Node (ops.Import c.in_ok-import.import) r) (ap row_of c.new-2.ensures ∙ row_of-nil)
    ∙ ap (λ (i : Import). Node (ops.Import i) end) c.in_ok-import.ensures
    ∙ ap (λ (l : Loc). Node (ops.Import (record { loc = l; mode = modes.Code; digest = None })) end) c.in_ok-loc.ensures
