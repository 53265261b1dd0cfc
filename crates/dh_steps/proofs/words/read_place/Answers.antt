use Rattle.std.proofs.Common.{sym, ap, ◌∙◌, map, codes}
use Rattle.std.proofs.lemmas.Result.{IfOk-weaker}
use Rattle.dh_syntax.proofs.NativeTests.{bytes_eq-pointwise}
use Rattle.dh_steps.specs.StepWords.{each, part_of}
use Rattle.dh_steps.proofs.PlaceWords.{split_place}
use Rattle.dh_steps.proofs.words.read_place.Goals as goal

pub returns : goal.returns
returns c =
    IfOk-weaker c.read_parts.result _ _
    (λ place h.
    h ∙ ap (λ ws. each part_of (map (λ w. w.now) ws)) c.as_slice.ensures.value
    ∙ split_place c.args.word.now (map (λ w. w.now) c.in_ok-parts.parts.items) (bytes_eq-pointwise c.args.word.now (codes "root") ∙ sym c.eq.ensures ∙ c.if-eq.false) c.in_ok-parts.ensures)
    c.read_parts.ensures
