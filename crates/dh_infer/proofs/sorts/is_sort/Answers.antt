use Rattle.std.proofs.Common.{sym, ◌∙◌, ap}
use Rattle.dh_syntax.specs.declared.operators.Builtin.TheVariants as builtins
use Rattle.dh_syntax.specs.Typing.TypeViews.{is_constant}
use Rattle.dh_infer.proofs.SortTests.{value-sort, past-sort}
use Rattle.dh_infer.proofs.Starting.{entry-there}
use Rattle.dh_store.specs.Growth.{count}
use Rattle.dh_infer.proofs.sorts.is_sort.Goals as goal

pub returns-in-Some : goal.returns-in-Some
returns-in-Some c = λ g h.
    let e = c.in-Some.entry.now in
    let below = (entry-there (count c.args.codes.now) c.args.scope.now c.in-Bound.index e (sym c.in-Some.ensures) c.requires.entries).0 in
    value-sort g c.args.scope.now c.args.code c.in-Bound.index e (c.in-Bound.ensures.form g h) (sym c.in-Some.ensures)
    ∙ ap (is_constant builtins.Sort) (h e.value below) ∙ sym c.is_constant.ensures

pub returns-in-None : goal.returns-in-None
returns-in-None c = λ g h. past-sort g c.args.scope.now c.args.code c.in-Bound.index (c.in-Bound.ensures.form g h) (sym c.in-None.ensures)
