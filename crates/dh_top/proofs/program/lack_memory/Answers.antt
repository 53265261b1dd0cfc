use Rattle.std.proofs.Common.{refl, [], ◌∷◌}
use Rattle.dh_command.specs.Responses.{without_memory}
use Rattle.dh_command.specs.Answer.{nothing_found}
use Rattle.dh_top.specs.Runs.{lacks_memory, lacks_early}
use Rattle.dh_top.proofs.RunLaws.{ran}
use Rattle.dh_top.proofs.program.lack_memory.Goals as goal

pub returns-clause-runs : goal.returns-clause-runs
returns-clause-runs g c = λ words input o same. ran words input o _ _ (nothing_found ∷ []) without_memory without_memory _ (lacks_memory (lacks_early same) refl) refl c.deliver.ensures
