use Rattle.std.proofs.Common.{◌≡◌, ◌+◌, ◌==◌, ◌∙◌, ap, length, take, arith, rules, tests}
use Rattle.std.specs.List.{filter}
use Rattle.std.proofs.lemmas.Iterator.{YieldsList-from_slice}
use Rattle.std.proofs.lemmas.Iterator.Consumers.{YieldsList-from_filter, count_from_yields_List}
use Rattle.dh_syntax.specs.Text.Places.{is_line_feed}
use Rattle.dh_faults.proofs.Parts.{up_to}
use Rattle.dh_faults.proofs.places.line_at.Goals as goal

pub returns : goal.returns
returns c =
    let text = c.args.text.now in
    let counted : c.count.result ≡ length (filter is_line_feed (take c.min.result text)) =
    count_from_yields_List c.filter.result _ c.count.ensures.ran
    (YieldsList-from_filter _ is_line_feed (YieldsList-from_slice (take c.min.result text) (cc)) c.filter.ensures.closure (λ x b q k. search (rules, tests))) in
    let all = counted ∙ ap (λ t. length (filter is_line_feed t)) (up_to c.min.result c.args.at text c.min.ensures) in
    omega (arith, all)
