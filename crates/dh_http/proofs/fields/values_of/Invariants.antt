use Rattle.std.proofs.Common.{take}
use Rattle.std.specs.Prelude.{map}
use Rattle.httparse.specs.Spans.{header_bytes}
use Rattle.dh_http.specs.Fields.{values}
use Rattle.dh_http.specs.Only.{Shows}
use Rattle.dh_http.proofs.fields.values_of.Given as goal

abbrev pub invariant-loop-header : goal.invariant-loop-header
invariant-loop-header l = Shows l.found (values l.name (map (header_bytes l.buf) (take l.header-index l.headers)))
