use Rattle.std.proofs.Common.{None, [], ◌∷◌, ◌++◌, ap, sym, ◌∙◌, ◌≡◌, lit<}
use Rattle.std.proofs.lemmas.Result.{IfOk-weaker}
use Rattle.std.proofs.lemmas.Str.Pattern.{split_parts}
use Rattle.std.specs.String.{string_bytes}
use Rattle.dh_literals.proofs.LinesCut.{cut_later_text, cut_later_last, blank_later, later_written}
use Rattle.dh_literals.proofs.SplitParts.{split_at}
use Rattle.dh_literals.proofs.indentation.without_later_indentation.Goals as goal

pub returns-in_default : goal.returns-in_default
returns-in_default c =
    let text = c.args.piece.now in
    IfOk-weaker c.new.result (λ p. p ≡ text) (λ p. p ≡ cut_later_text c.args.width text) (λ p e. e ∙ sym (cut_later_last c.args.width text (split_parts 10 text None c.in_default.ensures.cases (lit< tt)))) c.new.ensures

pub push_cut-requires : goal.push_cut-requires
push_cut-requires c =
    let split = split_at 10 c.args.piece.now c.in-Some.line c.in-Some.lines (lit< tt) c.in-Some.ensures.cases in
    blank_later c.args.width c.args.piece.now c.in-Some.line.now c.in-Some.lines.now split c.requires

pub returns : goal.returns
returns c =
    let split = split_at 10 c.args.piece.now c.in-Some.line c.in-Some.lines (lit< tt) c.in-Some.ensures.cases in
    let end = c.in_ok-push.ensures.ascii (lit< tt) in
    let so_far = c.in_ok-push.ensures.bytes ∙ ap (λ l. string_bytes c.in_ok-text.text ++ l) end ∙ ap (λ l. l ++ (10 ∷ [])) c.in_ok-text.ensures.ok in
    later_written c.args.width c.args.piece.now c.in-Some.line.now c.in-Some.lines.now (string_bytes c.push.new.self) c.of.result split so_far (c.of.ensures ∙ c.in_ok-push_cut.ensures)
