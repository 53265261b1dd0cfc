use Rattle.dh_syntax.specs.Expressions.Bridge.{term}
use Rattle.dh_script.proofs.Placing.{located_err, located_ok, placed_err, placed_ok}
use Rattle.dh_script.proofs.locations.read_location.Goals as goal

pub returns-in-Ok-clause-located : goal.returns-in-Ok-clause-located
returns-in-Ok-clause-located c = located_ok c.args.text.now (term c.in-Ok.expression) c.canonical.result c.in-Ok.ensures.spelled c.canonical.ensures

pub returns-in-Ok-clause-place : goal.returns-in-Ok-clause-place
returns-in-Ok-clause-place c = placed_ok (term c.in-Ok.expression) c.canonical.result c.in-Ok.ensures.spellable c.canonical.ensures

pub returns-in-Err-clause-located : goal.returns-in-Err-clause-located
returns-in-Err-clause-located c = located_err c.args.text.now c.in-Err.fault c.nowhere.result c.in-Err.ensures.refused c.nowhere.ensures

pub returns-in-Err-clause-place : goal.returns-in-Err-clause-place
returns-in-Err-clause-place c = placed_err c.in-Err.fault c.nowhere.result c.nowhere.ensures
