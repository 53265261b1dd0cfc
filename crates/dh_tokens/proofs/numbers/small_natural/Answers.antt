use Rattle.std.proofs.Common.{sym, ◌∙◌}
use Rattle.dh_tokens.proofs.SmallNumbers.{small_natural-is}
use Rattle.dh_tokens.proofs.numbers.small_natural.Goals as goal

pub returns-clause-value : goal.returns-clause-value
returns-clause-value c =
    let read = c.in_ok-n in
    small_natural-is c.args.rest.now read.len read.n c.requires read.ensures.len read.ensures.value read.ensures.small (sym c.may_differ.ensures ∙ c.if-may_differ.false)
