-- What stands above the frames of the reader.
use Rattle.std.specs.Prelude.{Bool, true, false}
use Rattle.dh_reader.specs.declared.tops.Held.TheVariants as helds
use Rattle.dh_reader.specs.declared.tops.Top.{Top}
use Rattle.dh_reader.specs.declared.tops.Top.TheVariants as places

module _ {M Tree Note Lets Chunks Items Alternatives Fields Entry Entries : Type 0} where
  -- whether an operand has been read
  abbrev pub has_operand : Top M Tree Note Lets Chunks Items Alternatives Fields Entry Entries → Bool
  has_operand (places.Have h) = true
  has_operand _ = false

  -- whether an operand has been read that takes no more tokens of its own
  abbrev pub is_ready : Top M Tree Note Lets Chunks Items Alternatives Fields Entry Entries → Bool
  is_ready (places.Have (helds.Ready x)) = true
  is_ready _ = false

  -- whether a token of a production is awaited
  abbrev pub is_waiting : Top M Tree Note Lets Chunks Items Alternatives Fields Entry Entries → Bool
  is_waiting (places.Wait w) = true
  is_waiting _ = false
