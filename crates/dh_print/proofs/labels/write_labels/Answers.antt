use Rattle.std.proofs.Common.{◌++◌, map, ap, string_bytes}
use Rattle.std.proofs.lemmas.Str.{IsUtf8-nil}
use Rattle.dh_syntax.specs.Text.Printed.{label}
use Rattle.dh_print.proofs.Items.{labels_step, labels_end, led-separated}
use Rattle.dh_print.proofs.labels.write_labels.Goals as goal

pub loop-name-init : goal.loop-name-init
loop-name-init c = record { utf8 = IsUtf8-nil; so_far = ap (λ l. string_bytes c.args.text.now ++ l) (led-separated c.args.between.now (map label c.args.labels.now)) }

pub loop-name-preserved : goal.loop-name-preserved
loop-name-preserved c = record {
  utf8 = c.utf8.between;
  so_far = labels_step c.args.labels.now c.loop-name.name-index c.name-item.result c.loop-name.before.now c.args.between.now _ _ _ _ c.loop-name-test.true c.name-item.is c.loop-name.invariant.so_far c.in_ok-push_str.ensures.bytes c.in_ok-write_label.ensures;
}

pub returns : goal.returns
returns c = labels_end c.args.labels.now c.loop-name.name-index c.loop-name.before.now c.args.between.now _ _ c.loop-name-test.false c.loop-name.invariant.so_far
