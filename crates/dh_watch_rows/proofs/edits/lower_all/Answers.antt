use Rattle.std.proofs.Common.{◌<◌, ◌≤◌, length, arith, sym, ◌∙◌, rules}
use Rattle.std.proofs.lemmas.List.{length-map}
use Rattle.dh_watch_rows.specs.Inside.Gaps.{lower}
use Rattle.dh_watch_rows.proofs.Gaps.{all-same, mapped-at}
use Rattle.dh_watch_rows.proofs.edits.lower_all.Goals as goal

pub returns : goal.returns
returns c =
    let old = c.args.numbers.now.items in
    let all : length c.args.numbers.now.items ≤ c.loop-i.i = search rules in
    let many = length-map old (lower c.args.number) in
    all-same c.loop-i.numbers.items _ (c.loop-i.invariant.len ∙ sym many)
    (λ k l.
    let inside : k < length c.args.numbers.now.items = omega (arith, l, many) in
    c.loop-i.invariant.done k (omega (arith, inside, all)) ∙ sym (mapped-at (lower c.args.number) old k inside))
