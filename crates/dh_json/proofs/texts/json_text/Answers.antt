use Rattle.std.proofs.Common.{◌≡◌, ◌++◌, [], ap, ◌∙◌}
use Rattle.std.specs.Prelude.{string_bytes}
use Rattle.json.specs.Print.{print}
use Rattle.json.specs.Tree.{json_tokens}
use Rattle.serde_json.specs.Written.{outline}
use Rattle.serde_json.proofs.Texts.{print-outline}
use Rattle.dh_json.proofs.texts.json_text.Goals as goal

pub returns-clause-text : goal.returns-clause-text
returns-clause-text c =
    let w = c.in_ok-write.ensures.written in
    let tokens : c.write.new.out.tokens ≡ json_tokens (outline w.0) = w.2 ∙ ap (λ ts. ts ++ json_tokens (outline w.0)) c.new-out.ensures.tokens in
    let before : c.write.new.out.before ≡ [] = c.write.ensures.before ∙ c.new-out.ensures.before ∙ c.new.ensures.items in
    let bytes : string_bytes c.in-Ok.text ≡ c.into_inner.result.items = ap (λ v. v.items) c.in-Ok.ensures.ok in
    (w.0, w.1, c.of.ensures ∙ bytes ∙ c.into_inner.ensures.items ∙ ap (λ b. b ++ print c.write.new.out.tokens) before ∙ ap print tokens ∙ print-outline w.0)
