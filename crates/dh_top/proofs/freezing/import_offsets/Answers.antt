use Rattle.std.proofs.Common.{subst}
use Rattle.dh_syntax.specs.Expressions.Bridge.{term}
use Rattle.dh_syntax.specs.Text.Offsets.{SpellsWith}
use Rattle.dh_top.proofs.Spelled.{not_both, same_term}
use Rattle.dh_top.proofs.freezing.import_offsets.Goals as goal

pub returns-in-Ok : goal.returns-in-Ok
returns-in-Ok c =
    λ e parsed.
    subst (λ d. SpellsWith c.args.text.now d c.in-Ok.offsets.items) (same_term c.args.text.now (term c.in-Ok.field-0-0) e c.in-Ok.ensures.spelled.0 parsed) c.in-Ok.ensures.spelled

pub unreachable-requires : goal.unreachable-requires
unreachable-requires c = not_both c.args.text.now c.requires.spelled.0 c.in-Err.fault c.requires.spelled.1 (c.in-Err.ensures.refused c.in_default.not-Memory)
