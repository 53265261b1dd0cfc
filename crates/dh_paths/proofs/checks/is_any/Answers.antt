use Rattle.std.specs.Prelude.{codes}
use Rattle.dh_syntax.proofs.NativeTests.{bytes_eq-pointwise}
use Rattle.dh_paths.proofs.checks.is_any.Goals as goal

pub returns : goal.returns
returns c = let same = bytes_eq-pointwise c.args.bytes.now (codes "*") in cc
