use Rattle.std.proofs.Common.{◌∙◌, ap, sym, codes, map, string_bytes}
use Rattle.dh_syntax.specs.Expressions.Numbers.{bytes_eq}
use Rattle.dh_top.proofs.Commands.{other_word}
use Rattle.dh_top.proofs.words.read_options.Goals as goal

pub returns-else-is_workers : goal.returns-else-is_workers
returns-else-is_workers c =
    other_word c.args.verb (map string_bytes c.args.rest.now) _ _ c.with_operands-else-is_workers.result (ap (map string_bytes) c.in-Some.ensures.cases.0)
    (ap (λ w. bytes_eq w (codes "--workers")) (sym c.as_str.ensures.value) ∙ (sym c.is_workers.ensures ∙ c.if-is_workers.false)) c.with_operands-else-is_workers.ensures
