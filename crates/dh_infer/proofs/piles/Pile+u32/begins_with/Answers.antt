use Rattle.std.proofs.Common.{ap, sym, ◌∙◌, drop, length, reverse}
use Rattle.std.proofs.lemmas.Bool.Decides.{Decides-eqb}
use Rattle.std.proofs.lemmas.List.{reverse-append}
use Rattle.std.proofs.lemmas.Slice.Eq.{starts_is}
use Rattle.dh_infer.proofs.piles.Pile+u32.begins_with.Goals as goal

pub returns : goal.returns
returns c = λ t.
    let p = c.args.oldest.now in
    let s = c.self.inside.items in
    let rest = drop (length p) c.as_slice.result.now in
    let split = (starts_is Decides-eqb c.as_slice.result.now p c.starts_with.result c.starts_with.ensures.value).0 t in
    (reverse rest, sym c.self.view_is ∙ ap reverse (sym c.as_slice.ensures.value ∙ split) ∙ reverse-append p rest)
