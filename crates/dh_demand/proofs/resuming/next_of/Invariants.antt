use Rattle.std.proofs.Common.{◌-◌, ◌≡◌, List, length}
use Rattle.std.specs.Option.{option_copied}
use Rattle.dh_syntax.specs.declared.locations.Key.{Key}
use Rattle.dh_demand.specs.Headways.{ArePassed}
use Rattle.dh_demand.specs.Results.{ask_of}
use Rattle.dh_demand.specs.Scans.{Begins, text_key}
use Rattle.dh_demand.proofs.resuming.next_of.Given as goal

abbrev pub invariant-imports : goal.invariant-imports
invariant-imports g l =
    (ks : List Key) → Begins (option_copied l.parent) (g.R.Results.rows l.results) ks l.edges → length ks ≡ l.count
    → ArePassed (text_key (option_copied l.parent)) (ask_of (g.R.Results.rows l.results)) l.initial.passed ks
    → ArePassed (text_key (option_copied l.parent)) (ask_of (g.R.Results.rows l.results)) l.passed ks

abbrev pub decreases-imports : goal.decreases-imports
decreases-imports g l = l.count - l.passed
