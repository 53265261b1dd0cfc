-- How what a run has to write is written.
use Rattle.std.specs.Prelude.{◌≡◌}
use Rattle.dh_command.specs.declared.statuses.Status.{Status}
use Rattle.dh_command.specs.declared.statuses.Status.TheVariants as status
use Rattle.dh_command.specs.Lines.{write_line}
use Rattle.dh_command.specs.Responses.{Response, line}
use Rattle.dh_streams.specs.Streams.{Gains, Output, Stops, Tries}

-- How a response is written: whole, with its status; or a write to standard output failed, and the line `write failed` was
-- tried on standard error; or a write to standard error failed.
pub data Delivers (w : Response) (out err : Output) (s : Status) : Type 0 where
  whole : Gains out w.out → Gains err w.err → s ≡ w.status → Delivers w out err s
  out_failed : Stops out w.out → Tries err (line write_line) → s ≡ status.Write → Delivers w out err s
  err_failed : Gains out w.out → Stops err w.err → s ≡ status.Write → Delivers w out err s
