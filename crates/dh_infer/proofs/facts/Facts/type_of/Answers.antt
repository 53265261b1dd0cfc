use Rattle.std.specs.Prelude.{ℕ, IfSome}
use Rattle.std.proofs.Common.{subst as along}
use Rattle.dh_syntax.specs.Names.Nameless.{Core}
use Rattle.dh_infer.specs.Inside.Facts.{AreFacts, IsTyped}
use Rattle.dh_infer.proofs.facts.Facts.type_of.Goals as goal

pub returns-in-Some-clause-typed : goal.returns-in-Some-clause-typed
returns-in-Some-clause-typed c =
    along (λ xs. IfSome c.told.result (λ t. (g : ℕ → Core) → AreFacts g xs → IsTyped g c.args.levels.now c.args.code t)) c.as_slice.ensures.value c.told.ensures.typed
