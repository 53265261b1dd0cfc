use Rattle.std.proofs.Common.{◌≡◌, ◌++◌, codes, string_bytes}
use Rattle.dh_gen.specs.Generated.{imports_to}
use Rattle.dh_gen.proofs.texts.list_text.Given as goal

abbrev pub invariant-loop-number : goal.invariant-loop-number
invariant-loop-number l = string_bytes l.text ≡ codes "[" ++ imports_to l.number
