use Rattle.std.proofs.Common.{◌++◌, ◌∷◌, [], ◌≡◌, length, ap, sym, subst as along}
use Rattle.std.specs.List.{insert}
use Rattle.dh_record.specs.Sorting.{IsOrder, IsPlace}
use Rattle.dh_record.proofs.SortedNumbers.{inserted}
use Rattle.dh_record.proofs.rows.index.Order.insert.Goals as goal

pub returns : goal.returns
returns g c =
    let ranks = g.P.Probe.ranks c.args.probe.now in
    let sought = g.P.Probe.sought c.args.probe.now in
    let numbers = c.args.self.now.numbers.items in
    let place = along (λ ns. IsPlace ranks sought ns c.place_in-place.result) c.as_slice.ensures.value c.place_in-place.ensures in
    let items : c.insert.new.self.items ≡ insert numbers c.place_in-place.result (length ranks) = let e = ap (insert numbers c.place_in-place.result) c.requires.next in let f = c.in-Ok.ensures.items in cc in
    along (IsOrder (ranks ++ sought ∷ [])) (sym items)
    (inserted ranks sought numbers c.place_in-place.result c.requires.order place c.requires.new)
