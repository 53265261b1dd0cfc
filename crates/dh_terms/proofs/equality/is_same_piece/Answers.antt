use Rattle.dh_syntax.proofs.NativeTests.{bytes_eq-pointwise}
use Rattle.dh_terms.proofs.equality.is_same_piece.Goals as goal

pub returns : goal.returns
returns c = let h = bytes_eq-pointwise c.args.p.now c.args.q.now in cc
