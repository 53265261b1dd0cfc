use Rattle.std.proofs.Common.{◌≡◌, ◌∙◌, ap, subst, sym}
use Rattle.std.proofs.lemmas.Result.{on_ok_weaker}
use Rattle.std.specs.Result.{OnOk}
use Rattle.dh_syntax.specs.declared.tokens.TokenKind.{TokenKind}
use Rattle.dh_syntax.specs.declared.tokens.TokenKind.TheVariants as kinds
use Rattle.dh_syntax.specs.Text.Lexing.{place_after}
use Rattle.dh_tokens.specs.Inside.Places.{place_of}
use Rattle.dh_tokens.proofs.PlaceLaws.{text_closes, text_opens}
use Rattle.dh_tokens.proofs.places.Place.pass.Goals as goal

pub returns-in-TextOpen-clause-value : goal.returns-in-TextOpen-clause-value
returns-in-TextOpen-clause-value c = text_opens c.args.at c.args.kind.now c.in-TextOpen.form c.args.self.now.among c.args.self.now.open.items c.requires.may_stand c.in-TextOpen.is

pub returns-in-TextClose-clause-value : goal.returns-in-TextClose-clause-value
returns-in-TextClose-clause-value c = text_closes c.args.at c.args.kind.now c.args.self.now.among c.args.self.now.open.items c.in-TextClose.is

pub returns-in-InterpolationOpen-clause-value : goal.returns-in-InterpolationOpen-clause-value
returns-in-InterpolationOpen-clause-value c =
    let P = λ (k : TokenKind). OnOk c.open_interpolation.result (place_of c.open_interpolation.new.self ≡ place_after k c.args.at (place_of c.args.self.now)) in
    subst P (sym c.in-InterpolationOpen.is) (on_ok_weaker c.open_interpolation.result (λ h. h c.args.at) c.open_interpolation.ensures.value)

pub returns-in-InterpolationClose-clause-value : goal.returns-in-InterpolationClose-clause-value
returns-in-InterpolationClose-clause-value c =
    let P = λ (k : TokenKind). place_of c.close_interpolation.new.self ≡ place_after k c.args.at (place_of c.args.self.now) in
    subst P (sym c.in-InterpolationClose.is) (c.close_interpolation.ensures.value c.args.at)

pub returns-in-Mark-BraceOpen-clause-value : goal.returns-in-Mark-BraceOpen-clause-value
returns-in-Mark-BraceOpen-clause-value c =
    let P = λ (k : TokenKind). OnOk c.open_brace.result (place_of c.open_brace.new.self ≡ place_after k c.args.at (place_of c.args.self.now)) in
    subst P (sym (c.in-Mark-BraceOpen.is ∙ ap kinds.Mark (rw c.in-Mark-BraceOpen.is at c.in-Mark-BraceOpen.field-0-is))) (on_ok_weaker c.open_brace.result (λ h. h c.args.at) c.open_brace.ensures.value)

pub returns-in-Mark-BraceClose-clause-value : goal.returns-in-Mark-BraceClose-clause-value
returns-in-Mark-BraceClose-clause-value c =
    let P = λ (k : TokenKind). place_of c.close_brace.new.self ≡ place_after k c.args.at (place_of c.args.self.now) in
    subst P (sym (c.in-Mark-BraceClose.is ∙ ap kinds.Mark (rw c.in-Mark-BraceClose.is at c.in-Mark-BraceClose.field-0-is))) (c.close_brace.ensures.value c.args.at)
