use Rattle.std.proofs.Common.{◌∙◌, ◌∷◌, take, sym, ap, ◌+◌}
use Rattle.dh_watch_laws.specs.ScriptLines.{lines_of}
use Rattle.dh_script.proofs.Splitting.{feed-at, feed-nowhere, to_end, lines_end}
use Rattle.dh_script.proofs.pieces.first_line.Goals as goal

pub returns-in-Some-clause-lines : goal.returns-in-Some-clause-lines
returns-in-Some-clause-lines c =
    let text = c.args.text.now in
    let k = c.in-Some.at in
    feed-at text k c.in-Some.ensures.0 c.in-Some.ensures.1 ∙ ap (λ t. take k text ∷ lines_of t) (sym (to_end text (k + 1)))

pub returns-in-None-clause-lines : goal.returns-in-None-clause-lines
returns-in-None-clause-lines c =
    let text = c.args.text.now in
    feed-nowhere text c.in-None.ensures c.requires ∙ ap (λ ls. text ∷ ls) (sym (lines_end text))
