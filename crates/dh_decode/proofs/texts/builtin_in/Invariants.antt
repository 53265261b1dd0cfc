use Rattle.std.proofs.Common.{◌≡◌, drop}
use Rattle.dh_decode.specs.Inside.Names.{builtin_in}
use Rattle.dh_decode.proofs.texts.builtin_in.Given as goal

abbrev pub invariant-loop-spelling : goal.invariant-loop-spelling
invariant-loop-spelling l = builtin_in (drop l.spelling-index l.table) l.name ≡ builtin_in l.table l.name
