use Rattle.std.proofs.Common.{subst, sym, ◌∙◌}
use Rattle.std.proofs.lemmas.Slice.{between_from_start}
use Rattle.std.specs.Str.Parse.{ParsesUnsigned}
use Rattle.dh_literals.proofs.EscapesRead.{hexadecimal_boundary, refused_unnamed}
use Rattle.dh_literals.proofs.escapes.named.Goals as goal

pub range-requires-clause-end_boundary : goal.range-requires-clause-end_boundary
range-requires-clause-end_boundary c = hexadecimal_boundary c.args.count c.args.text.now c.utf8.text c.requires.digits

pub returns-in_err-code : goal.returns-in_err-code
returns-in_err-code c =
    let read = subst (λ t. ParsesUnsigned 32 16 t c.from_str_radix.result) (c.range.ensures.value ∙ between_from_start c.args.text.now c.args.count) c.from_str_radix.ensures.value in
    rw c.from_residual.ensures (refused_unnamed c.args.count c.args.text.now c.from_str_radix.result c.requires.some c.requires.digits read (sym c.ok.ensures.value ∙ c.in_err-code.was))
