use Rattle.std.proofs.Common.{◌≡◌, ◌++◌, string_bytes, take}
use Rattle.dh_syntax.specs.Imports.Locations.{local_text}
use Rattle.dh_paths.proofs.texts.write_local.Given as goal

abbrev pub invariant-loop-comp : goal.invariant-loop-comp
invariant-loop-comp l = string_bytes l.text ≡ string_bytes l.fn.text ++ local_text (take l.comp-index l.comps)
