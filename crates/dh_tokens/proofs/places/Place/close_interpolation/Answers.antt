use Rattle.std.proofs.Common.{◌∷◌, ◌++◌, ◌∙◌, [], ap, sym, arith}
use Rattle.std.proofs.lemmas.List.{nil_from_length}
use Rattle.dh_syntax.specs.Text.Lexing.{place_after}
use Rattle.dh_syntax.specs.declared.tokens.TokenKind.TheVariants as kinds
use Rattle.dh_tokens.proofs.PlaceLaws.{brace_popped, interpolation_missing, interpolation_popped, placed-code, rooted_popped}
use Rattle.dh_tokens.proofs.places.Place.close_interpolation.Goals as goal

pub returns-in-Interpolation-clause-value : goal.returns-in-Interpolation-clause-value
returns-in-Interpolation-clause-value c = λ at.
    let is = c.in-Some.ensures.items ∙ ap (λ o. c.pop.new.self.items ++ (o ∷ [])) c.in-Interpolation.is in
    let code = placed-code c.args.self.now.among c.args.self.now.open.items (sym c.if-is_some.ensures) in
    interpolation_popped at c.braces.self.open.items c.pop.new.self.items c.in-Interpolation.literal _ is
    (c.braces.invariant.so_far at ∙ sym (ap (place_after kinds.InterpolationClose at) code))

pub braces-preserved : goal.braces-preserved
braces-preserved c =
    let is = c.in-Some.ensures.items ∙ ap (λ o. c.pop.new.self.items ++ (o ∷ [])) c.in_default-innermost.is in
    record {
      outside = c.braces.invariant.outside;
      so_far = λ at. brace_popped at _ _ is ∙ c.braces.invariant.so_far at;
      rooted = λ h. rooted_popped _ _ _ is (c.braces.invariant.rooted h);
    }

pub returns-clause-value : goal.returns-clause-value
returns-clause-value c = λ at.
    let none = c.in_default.ensures.cases in
    let were = c.braces.self.open.ok.0 in
    let are = c.pop.new.self.ok.0 in
    let os_is = nil_from_length c.braces.self.open.items (omega arith) in
    let rest_is = nil_from_length c.pop.new.self.items (omega arith) in
    interpolation_missing at c.braces.self.among c.args.self.now.among _ _ c.args.self.now.open.items c.braces.invariant.outside (sym c.if-is_some.ensures) os_is rest_is (c.braces.invariant.so_far at)
