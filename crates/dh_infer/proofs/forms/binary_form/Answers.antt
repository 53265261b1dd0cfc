use Rattle.std.proofs.Common.{IsTrue, subst as along}
use Rattle.dh_syntax.specs.declared.expressions.Op.TheVariants.{Bin}
use Rattle.dh_syntax.specs.Expressions.Arity.{fits}
use Rattle.dh_store.specs.Cells.{nothing, code_row}
use Rattle.dh_infer.proofs.Shapes.{plain-length}
use Rattle.dh_infer.proofs.forms.binary_form.Goals as goal

pub pair_parts-typed-requires-clause-two : goal.pair_parts-typed-requires-clause-two
pair_parts-typed-requires-clause-two c = plain-length 2 c.args.kids.now (along (λ o. IsTrue (fits (Bin o) (code_row (λ k. nothing) c.args.kids.now))) c.in-Complete.is (c.requires (λ k. nothing)))
