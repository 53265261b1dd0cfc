use Rattle.std.proofs.Common.{◌≡◌, drop}
use Rattle.dh_syntax.specs.Expressions.Spellable.{is_host}
use Rattle.dh_decode.specs.Inside.Spelling.{host_from}
use Rattle.dh_decode.proofs.spelling.is_host.Given as goal

abbrev pub invariant-loop-b : goal.invariant-loop-b
invariant-loop-b l = host_from l.place (drop l.b-index l.text) ≡ is_host l.text
