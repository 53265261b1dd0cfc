-- What the call for a JSON value answers.
use Rattle.std.specs.Prelude.{◌≡◌, Result, Ok, Err, ⊤}
use Rattle.serde_json.specs.View.{view}
use Rattle.serde_json.specs.declared.value.Value.{Value}
use Rattle.dh_json.specs.JsonValue.{Answer}
use Rattle.dh_json.specs.declared.faults.JsonFault.{JsonFault}
use Rattle.dh_json.specs.declared.faults.JsonFault.TheVariants as faults

-- it has none, and this is the first place without one; want of memory is free
abbrev pub IsNoValue : Answer → JsonFault → Type 0
IsNoValue a (faults.NoValue p) = a ≡ Err p
IsNoValue a faults.Memory = ⊤

-- it is this value, or this is the first place without one; want of memory is free
abbrev pub IsAnswer : Answer → Result Value JsonFault → Type 0
IsAnswer a (Ok v) = a ≡ Ok (view v)
IsAnswer a (Err f) = IsNoValue a f
