-- What contracts see of an outcome with its item.
use Rattle.std.specs.Prelude.{Bool}
use Rattle.dh_imports.specs.declared.outcomes.Outcome.{Outcome}
use Rattle.dh_record.specs.declared.items.Item.{Item}

-- an item, its outcome, and whether that is a limit
pub record DoneParts : Type 0 where
  pub item : Item
  pub outcome : Outcome
  -- whether the outcome is a limit
  pub limited : Bool
