use Rattle.std.proofs.Common.{◌≡◌, ◌∙◌, Bool, ◌&&◌, not, List, ℕ, [], ◌∷◌, sym, ap}
use Rattle.std.specs.Str as std
use Rattle.dh_syntax.specs.Expressions.Numbers.{bytes_eq}
use Rattle.dh_syntax.proofs.NativeTests.{bytes_eq-pointwise}
use Rattle.dh_decode.proofs.spelling.is_named.Goals as goal

pub returns-then-is_label : goal.returns-then-is_label
returns-then-is_label c =
    c.ne.ensures ∙ ap (λ (t : List ℕ). not (std.bytes_eq c.args.text.now t)) c.as_slice.ensures ∙ ap not (sym (bytes_eq-pointwise c.args.text.now (95 ∷ [])))
    ∙ ap (λ (b : Bool). b && not (bytes_eq c.args.text.now (95 ∷ []))) c.if-is_label.ensures
