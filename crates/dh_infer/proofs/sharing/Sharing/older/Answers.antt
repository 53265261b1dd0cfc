use Rattle.std.proofs.Common.{sym, arith, subst as along}
use Rattle.dh_infer.specs.Inside.Sharing.{AreShared}
use Rattle.dh_infer.proofs.sharing.Sharing.older.Goals as goal

pub returns-then-are_same : goal.returns-then-are_same
returns-then-are_same c = λ g m h. record {
  older = omega (arith, c.if-older-code.true);
  core = c.are_same.ensures c.if-are_same.true g m (along (AreShared g) (sym c.as_slice.ensures.value) h);
}
