use Rattle.std.proofs.Common.{◌≡◌, ℕ, Bool, ◌+◌, ◌==◌, ◌∙◌, ap, length, take, arith, rules, tests}
use Rattle.std.specs.Prelude.{reverse, not}
use Rattle.std.specs.List.{filter, take_while}
use Rattle.std.proofs.lemmas.Iterator.Adapters.{YieldsList-from_rev_slice}
use Rattle.std.proofs.lemmas.Iterator.Consumers.{YieldsList-from_filter, count_from_yields_List}
use Rattle.std.proofs.lemmas.Iterator.Search.{YieldsList-from_take_while}
use Rattle.std.specs.Iterator.Adapters.{take_while_callee, take_while_done}
use Rattle.dh_syntax.specs.Text.Places.{is_line_feed, begins_character}
use Rattle.dh_faults.proofs.Parts.{up_to}
use Rattle.dh_faults.proofs.places.column_at.Goals as goal

abbrev in_line : ℕ → Bool
in_line b = not (is_line_feed b)

pub returns : goal.returns
returns c =
    let text = c.args.text.now in
    let back = reverse (take c.min.result text) in
    let counted : c.count.result ≡ length (filter begins_character (take_while in_line back)) =
    count_from_yields_List c.filter.result _ c.count.ensures.ran
    (YieldsList-from_filter _ begins_character
    (YieldsList-from_take_while _ in_line (YieldsList-from_rev_slice (take c.min.result text) (cc)) (ap take_while_callee c.filter.ensures.source ∙ c.take_while-line.ensures.closure) (ap take_while_done c.filter.ensures.source ∙ c.take_while-line.ensures.done) (λ x b q k. search (rules, tests)))
    c.filter.ensures.closure (λ x b q k. search (rules, tests))) in
    let all = counted ∙ ap (λ t. length (filter begins_character (take_while in_line (reverse t)))) (up_to c.min.result c.args.at text c.min.ensures) in
    omega (arith, all)
