use Rattle.std.specs.Prelude.{slice_get}
use Rattle.std.proofs.Common.{ap, sym, ◌∙◌}
use Rattle.dh_infer.proofs.sharing.Sharing.first.Goals as goal

pub codes-preserved : goal.codes-preserved
codes-preserved c = λ g m h. c.in_ok-add.ensures g m (c.codes.invariant g m h)

pub returns-in-Some-clause-ok : goal.returns-in-Some-clause-ok
returns-in-Some-clause-ok c = λ g m h.
    c.codes.invariant g m h c.args.code c.in-Some.first (ap (λ xs. slice_get xs c.args.code) (sym c.as_slice.ensures.value) ∙ sym c.first_at.ensures ∙ c.in-Some.is)
