use Rattle.std.proofs.Common.{sym, ◌∙◌}
use Rattle.dh_syntax.proofs.NativeTests.{bytes_eq-pointwise}
use Rattle.dh_paths.proofs.Origins.{same_scheme}
use Rattle.dh_paths.proofs.checks.same_origin.Goals as goal

pub returns-then-a-b : goal.returns-then-a-b
returns-then-a-b c =
    c.eq.ensures ∙ sym (bytes_eq-pointwise c.args.a.host.now c.args.b.host.now) ∙ same_scheme c.args.a.secure c.args.b.secure c.args.a.host.now c.args.b.host.now c.if-a-b.true
