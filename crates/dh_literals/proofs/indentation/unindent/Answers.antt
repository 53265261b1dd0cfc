use Rattle.std.proofs.Common.{true, ◌≡◌, drop, ap, sym, subst, ◌∙◌, arith}
use Rattle.std.specs.List.{list_all}
use Rattle.dh_syntax.specs.Text.Literals.{cut_pieces, indented_by, lines_of}
use Rattle.dh_literals.specs.Inside.Indentation.{is_blank_before}
use Rattle.dh_literals.proofs.LinesCut.{cut_text, cut_later_text, blank_pieces, blank_piece, cut_one, cut_more, cut_all}
use Rattle.dh_literals.proofs.indentation.unindent.Goals as goal

pub without_indentation-requires : goal.without_indentation-requires
without_indentation-requires c =
    let width = c.indented_by-width.result in
    let blank = blank_pieces c.as_slice-all.result.now c.in-Some.later.now c.in-Some.first.now width c.in-Some.ensures.cases.0 c.indented_by-width.ensures in
    subst (λ t. list_all (is_blank_before width) (lines_of t) ≡ true) (sym c.as_str.ensures) blank.0

pub loop-piece-init : goal.loop-piece-init
loop-piece-init c =
    let width = c.indented_by-width.result in
    let split = c.in-Some.ensures.cases.0 in
    let blank = blank_pieces c.as_slice-all.result.now c.in-Some.later.now c.in-Some.first.now width split c.indented_by-width.ensures in
    let made = c.in_ok-without_indentation.ensures ∙ ap (cut_text width) c.as_str.ensures in (
      blank.1,
      cut_one c.as_slice-all.result.now c.in-Some.later.now c.new-made.result c.push.new.self c.in-Some.first.now c.in_ok-without_indentation.field-0 width split made c.new-made.ensures c.in_ok-push.ensures.ok
          ∙ ap (cut_pieces width) c.as_slice-all.ensures,
    )

pub without_later_indentation-requires : goal.without_later_indentation-requires
without_later_indentation-requires c =
    let width = c.indented_by-width.result in
    let blank = blank_piece c.in-Some.later.now c.loop-piece.piece-index c.piece-item.result width c.loop-piece-test.true c.piece-item.is c.loop-piece.invariant.0 in
    subst (λ t. list_all (is_blank_before width) (drop 1 (lines_of t)) ≡ true) (sym c.as_str-in-loop-piece.ensures) blank.0

pub loop-piece-preserved : goal.loop-piece-preserved
loop-piece-preserved c =
    let width = c.indented_by-width.result in
    let later = c.in-Some.later.now in
    let i = c.loop-piece.piece-index in
    let piece = c.piece-item.result in
    let blank = blank_piece later i piece width c.loop-piece-test.true c.piece-item.is c.loop-piece.invariant.0 in
    let made = c.in_ok-without_later_indentation.ensures ∙ ap (cut_later_text width) c.as_str-in-loop-piece.ensures in (
      blank.1,
      cut_more later c.loop-piece.made c.push-in-loop-piece.new.self (cut_pieces width c.args.pieces) i piece c.in_ok-without_later_indentation.field-0 width c.loop-piece-test.true c.piece-item.is made c.in_ok-push-2.ensures.ok c.loop-piece.invariant.1,
    )

pub returns : goal.returns
returns c =
    let width = c.indented_by-width.ensures ∙ ap indented_by c.as_slice-all.ensures in
    cut_all c.args.pieces c.in-Some.later.now c.loop-piece.made c.loop-piece.piece-index c.indented_by-width.result (omega arith) width c.loop-piece.invariant.1
