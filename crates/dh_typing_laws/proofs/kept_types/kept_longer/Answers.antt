use Rattle.dh_typing_laws.proofs.Typing.KeptTypings.{kept_belows, kept_deepers}
use Rattle.dh_typing_laws.proofs.kept_types.kept_longer.Goals as goal

pub returns-clause-below : goal.returns-clause-below
returns-clause-below c = kept_belows

pub returns-clause-deeper : goal.returns-clause-deeper
returns-clause-deeper c = kept_deepers
