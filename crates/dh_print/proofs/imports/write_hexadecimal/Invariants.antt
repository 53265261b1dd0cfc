use Rattle.std.proofs.Common.{◌≡◌, ◌++◌, ◌/◌, ◌%◌, [], ◌∷◌, false, string_bytes, take}
use Rattle.std.specs.Prelude.{flat_map}
use Rattle.std.specs.Fmt.{digit_glyph}
use Rattle.dh_print.proofs.imports.write_hexadecimal.Given as goal

abbrev pub invariant-loop-b : goal.invariant-loop-b
invariant-loop-b l = string_bytes l.text ≡ string_bytes l.fn.text ++ flat_map (λ b. digit_glyph false (b / 16) ∷ digit_glyph false (b % 16) ∷ []) (take l.b-index l.bytes)
