use Rattle.std.specs.Prelude.{codes}
use Rattle.dh_syntax.proofs.NativeTests.{bytes_eq-pointwise}
use Rattle.dh_paths.proofs.canonical.is_up.Goals as goal

pub returns : goal.returns
returns c = let same = bytes_eq-pointwise c.args.comp.now (codes "..") in cc
