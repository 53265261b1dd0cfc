use Rattle.std.proofs.Common.{◌≡◌, ◌<◌, ◌-◌, length, ap, ◌∙◌, arith, reverse, set}
use Rattle.std.proofs.lemmas.List.{length-reverse}
use Rattle.dh_infer.proofs.Reversed.{set-reversed}
use Rattle.dh_infer.proofs.piles.Pile.set.Goals as goal

pub returns : goal.returns
returns g c =
    let v = c.self.inside.items in
    let e : reverse v.items ≡ c.args.self.now = c.self.view_is in
    let l : c.args.below < length v.items = omega (arith, length-reverse v.items, ap length e, c.requires) in
    ap (λ n. reverse (set v.items (n - 1 - c.args.below) c.args.item)) (ap length c.as_slice.ensures.value) ∙ set-reversed v.items c.args.below c.args.item l ∙ ap (λ xs. set xs c.args.below c.args.item) e
