use Rattle.std.proofs.Common.{◌∷◌, [], ◌∙◌, ap, length, arith, refl}
use Rattle.std.proofs.lemmas.List.{length-append}
use Rattle.dh_table.specs.Inside.Piling.{number_at}
use Rattle.dh_table.proofs.Piled.{widened, zero_more}
use Rattle.dh_table.proofs.search.piles.Piles.add.Goals as goal

pub invariant_of-self-in_err-push-2 : goal.invariant_of-self-in_err-push-2
invariant_of-self-in_err-push-2 c =
    let t = c.self.inside in
    let a = c.self.invariant in
    let tops = c.in_ok-push.ensures.items in
    let below = c.in_err-push-2.ensures.items in
    widened t.places.items t.places.items t.tops.items _ t.below.items _ (λ n. refl) (λ n. ap (λ ns. number_at ns n) tops ∙ zero_more t.tops.items n) (λ n. ap (λ ns. number_at ns n) below)
    (let u = a.wide in let v = ap length tops ∙ length-append t.tops.items (0 ∷ []) in omega arith)
    (let u = a.deep in let v = ap length below in omega arith)
    a

pub invariant_of-self-in_err-push-3 : goal.invariant_of-self-in_err-push-3
invariant_of-self-in_err-push-3 c =
    let t = c.self.inside in
    let a = c.self.invariant in
    let tops = c.in_ok-push.ensures.items in
    let below = c.in_ok-push-2.ensures.items in
    let places = c.in_err-push-3.ensures.items in
    widened t.places.items _ t.tops.items _ t.below.items _ (λ n. ap (λ ns. number_at ns n) places) (λ n. ap (λ ns. number_at ns n) tops ∙ zero_more t.tops.items n) (λ n. ap (λ ns. number_at ns n) below ∙ zero_more t.below.items n)
    (let u = a.wide in let v = ap length tops ∙ length-append t.tops.items (0 ∷ []) in let w = ap length places in omega arith)
    (let u = a.deep in let v = ap length below ∙ length-append t.below.items (0 ∷ []) in let w = ap length places in omega arith)
    a

pub invariant_of-self-2 : goal.invariant_of-self-2
invariant_of-self-2 c =
    let t = c.self.inside in
    let a = c.self.invariant in
    let tops = c.in_ok-push.ensures.items in
    let below = c.in_ok-push-2.ensures.items in
    let places = c.in_ok-push-3.ensures.items in
    widened t.places.items _ t.tops.items _ t.below.items _ (λ n. ap (λ ns. number_at ns n) places ∙ zero_more t.places.items n) (λ n. ap (λ ns. number_at ns n) tops ∙ zero_more t.tops.items n) (λ n. ap (λ ns. number_at ns n) below ∙ zero_more t.below.items n)
    (let u = a.wide in let v = ap length tops ∙ length-append t.tops.items (0 ∷ []) in let w = ap length places ∙ length-append t.places.items (0 ∷ []) in omega arith)
    (let u = a.deep in let v = ap length below ∙ length-append t.below.items (0 ∷ []) in let w = ap length places ∙ length-append t.places.items (0 ∷ []) in omega arith)
    a
