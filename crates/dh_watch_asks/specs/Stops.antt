-- Why an ask is refused, by why its resolution has no end.
use Rattle.dh_watch_runs.specs.declared.deciding.Stop.{Stop}
use Rattle.dh_watch_runs.specs.declared.deciding.Stop.TheVariants as stops
use Rattle.dh_watching.specs.declared.watches.WatchFault.{WatchFault}
use Rattle.dh_watching.specs.declared.watches.WatchFault.TheVariants as faults

-- why an ask is refused, by why its resolution has no end
abbrev pub fault_of : Stop → WatchFault
fault_of stops.Failed = faults.Failed
fault_of stops.TooMany = faults.TooMany
fault_of stops.Memory = faults.Memory
