use Rattle.std.proofs.Common.{◌≡◌, ◌++◌, drop}
use Rattle.std.specs.Option.{option_copied}
use Rattle.dh_syntax.specs.Expressions.Bridge.{row_of}
use Rattle.dh_imports.specs.Walk.{keys_of_row}
use Rattle.dh_demand.proofs.key_lists.+key_lists.Given as goal

abbrev pub invariant-push_parts-loop-kid : goal.invariant-push_parts-loop-kid
invariant-push_parts-loop-kid l =
    l.keys ++ keys_of_row (option_copied l.parent) (row_of (drop l.kid-index l.kid-items)) ≡ l.fn.keys ++ keys_of_row (option_copied l.parent) (row_of l.kid-items)
