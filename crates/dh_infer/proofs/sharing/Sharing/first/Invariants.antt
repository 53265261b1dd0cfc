use Rattle.std.specs.Prelude.{ℕ}
use Rattle.dh_syntax.specs.Names.Nameless.{Core}
use Rattle.dh_infer.specs.Inside.Scopes.{Models}
use Rattle.dh_infer.specs.Inside.Sharing.{AreShared}
use Rattle.dh_infer.proofs.sharing.Sharing.first.Given as goal

abbrev pub invariant-codes : goal.invariant-codes
invariant-codes l = (g : ℕ → Core) → Models l.codes g → AreShared g l.fn.self.firsts.items → AreShared g l.self.firsts.items
