use Rattle.std.proofs.Common.{◌<◌, arith}
use Rattle.dh_tokens.proofs.PathLaws.{path_read}
use Rattle.dh_tokens.proofs.paths.path.Goals as goal

pub returns-clause-value : goal.returns-clause-value
returns-clause-value c =
    let total = c.in_ok-comps.total in
    let some : 0 < total = omega arith in
    path_read c.at-root.result c.args.rest.now c.after.result.now c.loc.result c.len-before.result total c.in_ok-comps.comps c.at-root.ensures c.len-before.ensures c.after.ensures c.in_ok-comps.ensures.value some c.loc.ensures
