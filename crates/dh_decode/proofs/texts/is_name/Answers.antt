use Rattle.std.proofs.Common.{◌≡◌, ◌∙◌, List, ℕ, sym, ap}
use Rattle.std.specs.Str as std
use Rattle.dh_syntax.proofs.NativeTests.{bytes_eq-pointwise}
use Rattle.dh_decode.proofs.texts.is_name.Goals as goal

pub returns : goal.returns
returns c = c.eq.ensures ∙ ap (λ (t : List ℕ). std.bytes_eq t c.args.name.now) c.as_bytes.ensures.value ∙ sym (bytes_eq-pointwise c.args.spelling.now c.args.name.now)
