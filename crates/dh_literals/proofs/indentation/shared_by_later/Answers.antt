use Rattle.std.proofs.Common.{None, ◌∙◌, lit<}
use Rattle.std.proofs.lemmas.Str.Pattern.{split_parts}
use Rattle.dh_literals.proofs.LinesShared.{shared_later, shared_no_later}
use Rattle.dh_literals.proofs.SplitParts.{split_at}
use Rattle.dh_literals.proofs.indentation.shared_by_later.Goals as goal

pub returns-in-Some : goal.returns-in-Some
returns-in-Some c =
    let split = split_at 10 c.args.piece.now c.in-Some.field-0-0 c.in-Some.lines (lit< tt) c.in-Some.ensures.cases in
    c.shared_by.ensures ∙ shared_later c.args.so_far.now c.args.piece.now c.in-Some.field-0-0.now c.in-Some.lines.now split

pub returns-in-None : goal.returns-in-None
returns-in-None c = shared_no_later c.args.so_far.now c.args.piece.now (split_parts 10 c.args.piece.now None c.in-None.ensures.cases (lit< tt))
