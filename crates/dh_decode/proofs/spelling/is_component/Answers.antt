use Rattle.std.proofs.Common.{◌≡◌, ◌∙◌, Bool, ◌&&◌, sym, ap}
use Rattle.std.specs.List.{list_all}
use Rattle.dh_syntax.specs.Text.Characters.{is_quoted_path_byte}
use Rattle.dh_decode.proofs.SpellingLaws.{has_some_first}
use Rattle.dh_decode.proofs.spelling.is_component.Goals as goal

pub returns-then-not-is_empty : goal.returns-then-not-is_empty
returns-then-not-is_empty c = c.has_path_bytes.ensures ∙ ap (λ (b : Bool). b && list_all is_quoted_path_byte c.args.text.now) (has_some_first c.args.text.now _ c.is_empty.ensures c.if-not-is_empty.true)
