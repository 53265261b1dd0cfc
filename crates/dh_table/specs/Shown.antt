-- What contracts see of a table.
use Rattle.std.specs.Prelude.{ℕ, List}
use Rattle.dh_demand.specs.declared.scans.Scan.{Scan}
use Rattle.dh_record.specs.declared.news.News.{News}
use Rattle.dh_table.specs.declared.steps.Flight.{Flight}
use Rattle.dh_table.specs.declared.steps.Job.{Job}
use Rattle.dh_table.specs.declared.steps.Step.{Step}
use Rattle.dh_record.specs.declared.rows.recorded.Entrant.{Entrant}
use Rattle.dh_record.specs.declared.rows.recorded.Look.{Look}
use Rattle.dh_record.specs.declared.rows.recorded.Text.{Text}

-- the parts of a state by the numbers of keys, each list in the order of the steps; and for how many more steps there is room
pub record Shown : Type 0 where
  pub root : Scan
  pub keys : List Entrant
  pub texts : List Text
  pub looks : List Look
  pub decided : List ℕ
  pub limited : List ℕ
  pub flights : List Flight
  pub drawn : List Job
  pub history : List Step
  pub refused : List News
  pub spare : ℕ
