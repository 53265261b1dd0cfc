use Rattle.dh_typing_laws.proofs.Typing.KeptTypings.{kept_typings}
use Rattle.dh_typing_laws.proofs.kept_types.kept_typing.Goals as goal

pub returns : goal.returns
returns c = kept_typings
