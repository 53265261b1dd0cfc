use Rattle.std.proofs.Common.{refl}
use Rattle.dh_top.proofs.Encodings.{part_none_any}
use Rattle.dh_top.proofs.Resolutions.{misspelt_answered}
use Rattle.dh_top.proofs.resolving.resolving.Goals as goal

pub returns-in_default-clause-answers : goal.returns-in_default-clause-answers
returns-in_default-clause-answers g c =
    misspelt_answered c.misspelling.result c.args.command.verb c.args.text.now c.in-Err.fault _ c.requires.resolves (c.in-Err.ensures.refused c.in_default.not-Memory) (refl, refl, refl) c.misspelling.ensures

pub returns-in_default-clause-lacks : goal.returns-in_default-clause-lacks
returns-in_default-clause-lacks g c = part_none_any c.args.command.verb c.args.text.now _ c.misspelling.result refl
