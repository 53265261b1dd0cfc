use Rattle.std.proofs.Common.{◌∙◌}
use Rattle.dh_paths.specs.Inside.Origins.{scheme_text}
use Rattle.dh_paths.proofs.Origins.{stripped, not_stripped}
use Rattle.dh_paths.proofs.checks.names.Goals as goal

pub returns-in-Some : goal.returns-in-Some
returns-in-Some c =
    c.eq.ensures
    ∙ stripped c.args.bytes.now c.as_bytes.result.now (scheme_text c.args.origin.secure) c.args.origin.host.now c.as_bytes-in-Some.result.now c.in-Some.host.now (c.as_bytes.ensures.value ∙ c.scheme.ensures) c.as_bytes-in-Some.ensures.value
    c.in-Some.ensures.cases.0 c.in-Some.ensures.cases.1

pub returns-in-None : goal.returns-in-None
returns-in-None c =
    not_stripped c.args.bytes.now c.as_bytes.result.now (scheme_text c.args.origin.secure) c.args.origin.host.now (c.as_bytes.ensures.value ∙ c.scheme.ensures) c.in-None.ensures.cases
