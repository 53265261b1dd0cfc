use Rattle.std.proofs.Common.{sym, ◌∙◌, arith, subst as along}
use Rattle.dh_record.specs.Sorting.{IsOrder}
use Rattle.dh_record.proofs.SortedNumbers.{found_here, found_nowhere, found_other}
use Rattle.dh_record.proofs.rows.index.Order.find.Goals as goal

pub returns-then-place-numbers : goal.returns-then-place-numbers
returns-then-place-numbers g c =
    found_nowhere _ _ _ (along (IsOrder _) (sym c.as_slice-numbers.ensures.value) c.requires) _ c.place_in-place.ensures c.if-place-numbers.true

pub returns-then-is_before : goal.returns-then-is_before
returns-then-is_before g c =
    found_other _ _ _ (along (IsOrder _) (sym c.as_slice-numbers.ensures.value) c.requires) _ c.place_in-place.ensures (omega arith) (sym c.is_before.ensures ∙ c.if-is_before.true)

pub returns-else-is_before : goal.returns-else-is_before
returns-else-is_before g c =
    found_here _ _ _ (along (IsOrder _) (sym c.as_slice-numbers.ensures.value) c.requires) _ c.place_in-place.ensures (omega arith) (sym c.is_before.ensures ∙ c.if-is_before.false)
