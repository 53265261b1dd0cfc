use Rattle.dh_typing_laws.proofs.Typing.KeptTypings.{substitutions}
use Rattle.dh_typing_laws.proofs.kept_types.substitution.Goals as goal

pub returns : goal.returns
returns c = substitutions
