use Rattle.std.proofs.Common.{ap, length, ◌∙◌}
use Rattle.std.proofs.lemmas.Iterator.{items_from_collect}
use Rattle.std.proofs.lemmas.Iterator.Adapters.{YieldsList-from_vec, YieldsList-from_skip}
use Rattle.std.specs.Vec.Iter.{into_iter_items}
use Rattle.dh_top.proofs.program.words_of.Goals as goal

pub returns : goal.returns
returns c =
    let items = ap into_iter_items c.skip.ensures.source in
    let len = c.skip.result.iter.rest.ok.0 ∙ ap (λ it. length (into_iter_items it)) c.skip.ensures.source in
    items_from_collect _ c.collect.ensures.ran (YieldsList-from_skip 1 (YieldsList-from_vec (into_iter_items c.args.args) items len) c.skip.ensures.count)
