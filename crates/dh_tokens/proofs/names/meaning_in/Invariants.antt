use Rattle.std.proofs.Common.{◌≡◌, drop, map}
use Rattle.dh_syntax.specs.Text.LexNames.{named_in}
use Rattle.dh_tokens.specs.Inside.Names.{reserved_of}
use Rattle.dh_tokens.proofs.names.meaning_in.Given as goal

abbrev pub invariant-loop-spelling : goal.invariant-loop-spelling
invariant-loop-spelling l =
    named_in (map reserved_of (drop l.spelling-index l.table)) l.name ≡ named_in (map reserved_of l.table) l.name
