use Rattle.std.proofs.Common.{arith}
use Rattle.dh_syntax.specs.Expressions.Bridge.{term}
use Rattle.dh_syntax.proofs.SpellableIndices.{spellable-indices}
use Rattle.dh_import_tests.proofs.works.code.Goals as goal

pub returns-in-Ok : goal.returns-in-Ok
returns-in-Ok c = record {
  well_formed = c.in-Ok.ensures.well_formed;
  shallow = let s = c.in-Ok.ensures.shallow in omega arith;
  indices = spellable-indices (term c.in-Ok.e) c.in-Ok.ensures.spellable.2;
}
