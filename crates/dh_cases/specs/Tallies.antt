-- What one run counts as.
use Rattle.dh_cases.specs.declared.reports.Tally.{Tally}

-- a run as wanted
abbrev pub good : Tally
good = record { runs = 1; differ = 0; broken = 0 }

-- a run that differs
abbrev pub different : Tally
different = record { runs = 1; differ = 1; broken = 0 }

-- a run that could not be made
abbrev pub broken : Tally
broken = record { runs = 0; differ = 0; broken = 1 }
