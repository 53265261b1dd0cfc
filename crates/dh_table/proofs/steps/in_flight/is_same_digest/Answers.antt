use Rattle.std.proofs.Common.{sym, ◌∙◌}
use Rattle.dh_syntax.proofs.NativeTests.{bytes_eq-pointwise}
use Rattle.dh_record.specs.Rows.{digest_or_none}
use Rattle.dh_table.proofs.steps.in_flight.is_same_digest.Goals as goal

pub returns : goal.returns
returns c =
    c.eq.ensures
    ∙ (rw (c.digest_bytes.ensures, c.digest_bytes-2.ensures) (sym (bytes_eq-pointwise (digest_or_none c.args.d.now).0 (digest_or_none c.args.e.now).0)))
