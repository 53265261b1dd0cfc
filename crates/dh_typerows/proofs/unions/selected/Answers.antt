use Rattle.std.proofs.Common.{◌<◌, arith, IfSome, subst as along}
use Rattle.dh_typerows.proofs.unions.selected.Goals as goal

pub returns-in_ok-copied-in-Some-Some-clause-there : goal.returns-in_ok-copied-in-Some-Some-clause-there
returns-in_ok-copied-in-Some-Some-clause-there c =
    let older = along (λ o. IfSome o (λ n. n < c.args.u)) c.in-Some-Some.field-0-is (c.in-Some-Some.ensures.below c.args.u c.in-Some.ensures.older) in
    (omega (arith, older, c.requires.there), c.requires.there)
