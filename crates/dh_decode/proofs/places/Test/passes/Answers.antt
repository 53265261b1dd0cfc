use Rattle.std.proofs.Common.{◌≡◌, ◌∙◌, List, ℕ, Bool, sym, ap}
use Rattle.std.proofs.lemmas.Str.{is_utf8-from_IsUtf8}
use Rattle.dh_decode.specs.Inside.States.{test_of}
use Rattle.dh_decode.specs.declared.places.Test.{Test}
use Rattle.dh_decode.proofs.places.Test.passes.Goals as goal

pub returns-in-Utf8 : goal.returns-in-Utf8
returns-in-Utf8 c = sym (is_utf8-from_IsUtf8 c.args.text.now c.utf8.text) ∙ ap (λ (t : Test). test_of t c.args.text.now) (sym c.in-Utf8.is)
