use Rattle.std.proofs.Common.{◌≡◌, ◌+◌, ◌++◌, codes, length, map, drop, string_bytes}
use Rattle.std.specs.Str.{IsUtf8}
use Rattle.dh_syntax.specs.Expressions.Arity.{typed_count}
use Rattle.dh_syntax.specs.Expressions.Bridge.{row_of}
use Rattle.dh_syntax.specs.Text.Printed.{alternatives, fields, interpolated, layouts, separated, texts}
use Rattle.dh_print.specs.Inside.Parts.{form_of, interpolated_later, led, parts_text}
use Rattle.dh_print.proofs.nodes.+write.Given as goal

abbrev pub invariant-write_parts-loop-i : goal.invariant-write_parts-loop-i
invariant-write_parts-loop-i l =
    string_bytes l.text ++ parts_text (map form_of (drop l.i l.forms)) (row_of (drop l.i l.kids)) ≡ string_bytes l.fn.text ++ parts_text (map form_of l.forms) (row_of l.kids)

abbrev pub invariant-write_list-loop-kid : goal.invariant-write_list-loop-kid
invariant-write_list-loop-kid l =
    record {
      utf8 : IsUtf8 l.before;
      so_far : string_bytes l.text ++ led l.before (codes ", ") (texts (layouts (row_of (drop l.kid-index l.kids)))) ≡ (string_bytes l.fn.text ++ codes "[ ") ++ separated (codes ", ") (texts (layouts (row_of l.kids)));
    }

abbrev pub invariant-write_fields-loop-i : goal.invariant-write_fields-loop-i
invariant-write_fields-loop-i l =
    record {
      utf8 : IsUtf8 l.before;
      so_far :
          string_bytes l.text ++ led l.before (codes ", ") (fields l.mark (drop l.i l.labels) (texts (layouts (row_of (drop l.i l.kids)))))
          ≡ (string_bytes l.fn.text ++ codes "{ ") ++ separated (codes ", ") (fields l.mark l.labels (texts (layouts (row_of l.kids))));
    }

abbrev pub invariant-write_union-loop-alt : goal.invariant-write_union-loop-alt
invariant-write_union-loop-alt l =
    record {
      utf8 : IsUtf8 l.before;
      count : l.typed + typed_count (drop l.alt-index l.alts) ≡ length l.kids;
      so_far :
          string_bytes l.text ++ led l.before (codes " | ") (alternatives (drop l.alt-index l.alts) (texts (layouts (row_of (drop l.typed l.kids)))))
          ≡ (string_bytes l.fn.text ++ codes "< ") ++ separated (codes " | ") (alternatives l.alts (texts (layouts (row_of l.kids))));
    }

abbrev pub invariant-write_text-loop-i : goal.invariant-write_text-loop-i
invariant-write_text-loop-i l =
    string_bytes l.text ++ interpolated_later (drop (l.i + 1) l.pieces) (texts (layouts (row_of (drop l.i l.kids))))
    ≡ (string_bytes l.fn.text ++ codes "\"") ++ interpolated l.pieces (texts (layouts (row_of l.kids)))
