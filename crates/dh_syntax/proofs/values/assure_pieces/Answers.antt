use Rattle.std.proofs.Common.{subst, ◌∙◌, IsTrue, get_or, refl}
use Rattle.std.specs.List.{list_all}
use Rattle.std.specs.Str.{is_utf8}
use Rattle.std.proofs.lemmas.List.{take_all}
use Rattle.std.proofs.lemmas.List.Folds.{list_all_more}
use Rattle.dh_syntax.proofs.values.assure_pieces.Goals as goal

pub loop-piece-preserved : goal.loop-piece-preserved
loop-piece-preserved c =
    let xs = c.as_slice-piece-items.result.now in
    let i = c.loop-piece.piece-index in
    let x = c.piece-item.result in
    let here : IsTrue (is_utf8 (get_or xs i x)) = subst (λ y. IsTrue (is_utf8 y)) c.piece-item.is c.assure_piece.ensures in
    list_all_more is_utf8 xs i x c.loop-piece-test.true ∙ rw (c.loop-piece.invariant, here) refl

pub returns : goal.returns
returns c =
    let xs = c.as_slice-piece-items.result.now in
    let whole : IsTrue (list_all is_utf8 xs) = subst (λ y. IsTrue (list_all is_utf8 y)) (take_all c.loop-piece.piece-index xs c.loop-piece-test.false) c.loop-piece.invariant in
    subst (λ y. IsTrue (list_all is_utf8 y)) c.as_slice-piece-items.ensures whole
