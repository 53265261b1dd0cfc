use Rattle.std.proofs.Common.{◌≡◌, ◌++◌, string_bytes, map, drop}
use Rattle.std.specs.Str.{IsUtf8}
use Rattle.dh_syntax.specs.Text.Printed.{label, separated}
use Rattle.dh_print.specs.Inside.Parts.{led}
use Rattle.dh_print.proofs.labels.write_labels.Given as goal

abbrev pub invariant-loop-name : goal.invariant-loop-name
invariant-loop-name l =
    record {
      utf8 : IsUtf8 l.before;
      so_far : string_bytes l.text ++ led l.before l.between (map label (drop l.name-index l.labels)) ≡ string_bytes l.fn.text ++ separated l.between (map label l.labels);
    }
