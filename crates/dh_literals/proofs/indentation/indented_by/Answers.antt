use Rattle.std.proofs.Common.{◌∷◌, map, drop, ◌∙◌, ap}
use Rattle.dh_syntax.specs.Text.Literals.{common, counted, indentation, lines_of}
use Rattle.dh_literals.proofs.LinesShared.{indentations, shared_first, shared_more}
use Rattle.dh_literals.proofs.indentation.indented_by.Goals as goal

pub loop-piece-init : goal.loop-piece-init
loop-piece-init c =
    shared_first c.args.pieces.now c.in-Some.later.now c.in-Some.first.now c.shared_by-shared.result.now c.in-Some.ensures.cases.0
    (c.shared_by-shared.ensures ∙ ap (λ t. common (indentations t)) c.as_str.ensures)

pub loop-piece-preserved : goal.loop-piece-preserved
loop-piece-preserved c =
    let shared = c.loop-piece.shared.now in
    shared_more c.in-Some.later.now c.loop-piece.piece-index c.piece-item.result shared c.shared_by_later-shared.result.now c.loop-piece-test.true c.piece-item.is
    (c.shared_by_later-shared.ensures ∙ ap (λ t. common (shared ∷ map indentation (counted (drop 1 (lines_of t))))) c.as_str-in-loop-piece.ensures)
    ∙ c.loop-piece.invariant
