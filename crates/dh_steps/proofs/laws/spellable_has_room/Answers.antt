use Rattle.std.proofs.Common.{[]}
use Rattle.dh_syntax.proofs.SpellableIndices.{spellable-indices}
use Rattle.dh_laws.proofs.Names.FreeIndices.{indices-free}
use Rattle.dh_steps.proofs.laws.spellable_has_room.Goals as goal

pub returns : goal.returns
returns c = λ e s. (indices-free 2147483648 [] e (spellable-indices e s.2), s.1)
