use Rattle.std.proofs.Common.{◌∙◌, ap, arith, ◌++◌, string_bytes}
use Rattle.std.proofs.lemmas.List.Elements.{All-from_get_or}
use Rattle.percent_encoding.proofs.PercentLemmas.{IsByte}
use Rattle.dh_paths.proofs.Escaping.{percent_encode-escaped}
use Rattle.dh_paths.proofs.escapes.write_component.Goals as goal

pub returns : goal.returns
returns c =
    let small = All-from_get_or IsByte c.args.comp.now 0 (λ i within. omega (arith, c.type_inv.comp i)) in
    c.in_ok-append_to.ensures.ok ∙ ap (λ l. string_bytes c.args.text.now ++ l) (c.percent_encode.ensures.text ∙ percent_encode-escaped c.args.comp.now small)
