use Rattle.std.proofs.Common.{ℕ, ◌+◌, ap, sym, subst}
use Rattle.dh_syntax.specs.declared.tokens.Token.{Token}
use Rattle.dh_syntax.specs.declared.tokens.TokenKind.{TokenKind}
use Rattle.dh_tokens.specs.declared.places.Place as places
use Rattle.dh_tokens.specs.declared.small_forms.Small.{Small}
use Rattle.dh_tokens.specs.Inside.Places.{IsRooted, place_of}
use Rattle.dh_tokens.specs.Inside.States.{state_of}
use Rattle.dh_tokens.proofs.SmallReading.{SmallPassed, blanks-onto, blanks-whole, not_among, small-form, small-onto, state-after_white}
use Rattle.dh_tokens.proofs.reading.read_form.Goals as goal

pub returns-then-blanks-gt0-clause-ready : goal.returns-then-blanks-gt0-clause-ready
returns-then-blanks-gt0-clause-ready c =
    let p = c.args.state.now.place in
    let q = c.pass_white.new.self.place in
    let Rooted : places.Place → Type 0 = λ r. IsRooted r.open.items in
    let between = not_among p.among p.open.items (c.blanks_at-blanks.ensures.between c.if-blanks-gt0.true) in
    (subst Rooted (sym c.pass_white.ensures.place) c.requires.ready.0, blanks-whole (place_of p) (place_of q) (c.args.at + c.blanks_at-blanks.result) c.args.text.now (ap place_of c.pass_white.ensures.place) between)

pub returns-then-blanks-gt0-clause-value : goal.returns-then-blanks-gt0-clause-value
returns-then-blanks-gt0-clause-value c =
    let p = c.args.state.now.place in
    let s = state_of c.args.state.now in
    let t = state_of c.pass_white.new.self in
    let between = not_among p.among p.open.items (c.blanks_at-blanks.ensures.between c.if-blanks-gt0.true) in
    let passed = state-after_white s t (ap place_of c.pass_white.ensures.place) c.pass_white.ensures.before c.pass_white.ensures.gap in
    blanks-onto s t c.args.at c.blanks_at-blanks.result c.args.text.now c.args.made.now between c.if-blanks-gt0.true c.blanks_at-blanks.ensures.blanks passed

pub returns-clause-value : goal.returns-clause-value
returns-clause-value c =
    let s = state_of c.args.state.now in
    let t = state_of c.pass_small.new.self in
    let at = c.args.at in
    let text = c.args.text.now in
    let m : Small × ℕ = (c.in-Some.small, c.in-Some.len) in
    let tokens : TokenKind → Token = λ k. record { kind = k; from = at; to = at + c.in-Some.len; gap = c.args.state.now.gap } in
    let token = tokens c.in_ok-kind.field-0 in
    let read = small-form s at text m c.utf8.text c.requires.within c.in-Some.ensures.takes c.in-Some.ensures.value c.in-Some.ensures.within in
    let passed : SmallPassed s t m token at = record {
      takes = c.in-Some.ensures.takes;
      is = ap tokens c.in_ok-kind.ensures;
      place = ap place_of c.pass_small.ensures.place;
      before = c.pass_small.ensures.before;
      gap = c.pass_small.ensures.gap;
    } in
    small-onto s t m token at text c.args.made.now c.push.new.self read passed c.in_ok-push.ensures.ok
