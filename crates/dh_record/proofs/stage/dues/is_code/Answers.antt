use Rattle.std.proofs.Common.{ap, sym, ◌∙◌, Some}
use Rattle.std.specs.Prelude.{◌&&◌}
use Rattle.dh_syntax.specs.Expressions.Numbers.{bytes_eq}
use Rattle.dh_syntax.specs.Expressions.SameTree.{option_eq}
use Rattle.dh_record.proofs.Owning.{code_item}
use Rattle.dh_record.proofs.stage.dues.is_code.Goals as goal

pub returns-then-is_assembled : goal.returns-then-is_assembled
returns-then-is_assembled c v h =
    let same = sym (c.is_assembled.ensures (Some c.args.key.now.loc) v (record { fits = c.requires.fits; ready = h })) ∙ c.if-is_assembled.true in
    c.is_same_allow.ensures ∙ ap (λ b. b && option_eq bytes_eq c.args.allow.now c.args.item.now.allow) (sym same)
    ∙ sym (code_item v c.args.allow.now c.args.item.now c.in-Code.code c.in-Code.is)

pub returns-else-is_assembled : goal.returns-else-is_assembled
returns-else-is_assembled c v h =
    let same = sym (c.is_assembled.ensures (Some c.args.key.now.loc) v (record { fits = c.requires.fits; ready = h })) ∙ c.if-is_assembled.false in
    c.if-is_assembled.false ∙ ap (λ b. b && option_eq bytes_eq c.args.allow.now c.args.item.now.allow) (sym same)
    ∙ sym (code_item v c.args.allow.now c.args.item.now c.in-Code.code c.in-Code.is)
