use Rattle.std.proofs.Common.{arith, sym, ◌∙◌, refl}
use Rattle.std.specs.Prelude.{[], ◌∷◌}
use Rattle.dh_syntax.specs.Bytes.Cbor.{head, text}
use Rattle.dh_encode.proofs.Appends.{then, last, named, array_written}
use Rattle.dh_encode.proofs.ArrayItems.{variable_blank, variable_named}
use Rattle.dh_encode.proofs.writer.Writer.push_variable.Goals as goal

pub returns-then-is_underscore : goal.returns-then-is_underscore
returns-then-is_underscore c =
    named c.push_code.result c.args.self.now c.push_code.new.self (head 0 c.args.index) _
    (variable_blank (record { name = c.args.name.now; index = c.args.index }) (sym c.is_underscore.ensures ∙ c.if-is_underscore.true) (omega (arith, c.ranges.index))) c.push_code.ensures

pub returns : goal.returns
returns c =
    named c.push_code-2.result c.args.self.now c.push_code-2.new.self _ _
    (variable_named (record { name = c.args.name.now; index = c.args.index }) (sym c.is_underscore.ensures ∙ c.if-is_underscore.false) (omega (arith, c.ranges.index)))
    (array_written c.push_code-2.result c.args.self.now c.push_head.new.self c.push_code-2.new.self 2 (text c.args.name.now ∷ head 0 c.args.index ∷ []) c.in_ok-push_head.ensures refl
    (then c.push_code-2.result c.push_head.new.self c.push_label.new.self c.push_code-2.new.self (text c.args.name.now) _ c.in_ok-push_label.ensures
    (last c.push_code-2.result c.push_label.new.self c.push_code-2.new.self (head 0 c.args.index) c.push_code-2.ensures)))
