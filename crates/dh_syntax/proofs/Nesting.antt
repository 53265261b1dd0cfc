-- How deep the expressions of the program nest.
use Rattle.std.specs.Prelude.{◌≡◌, ℕ, suc, ◌+◌, min, max, ◌<◌, ◌≤◌, List, length, drop}
use Rattle.std.proofs.Common.{◌∙◌, ap, sym, arith, get_or}
use Rattle.dh_syntax.specs.declared.expressions.Kid.{Kid}
use Rattle.dh_syntax.specs.Expressions.Nesting.{nesting, parts_nesting}
use Rattle.dh_syntax.specs.Expressions.Bridge.{term, row_of}
use Rattle.dh_syntax.proofs.Rows.{row_of-drop_item, row_of-drop_all}

-- the greatest so far and the rest, up to a limit
stops : (most n p limit sub step next : ℕ) → sub ≡ min n limit → step ≡ min (sub + 1) limit → next ≡ max most step →
    min (max next p) limit ≡ min (max most (max (suc n) p)) limit
stops most n p limit sub step next a b c = omega arith

pub nesting_keeps : (ks : List Kid) (i most limit sub step next whole : ℕ) (k : Kid) → i < length ks → k ≡ get_or ks i k →
    sub ≡ min (nesting (term k.body)) limit → step ≡ min (sub + 1) limit → next ≡ max most step →
    min (max most (parts_nesting (row_of (drop i ks)))) limit ≡ whole → min (max next (parts_nesting (row_of (drop (i + 1) ks)))) limit ≡ whole
nesting_keeps ks i most limit sub step next whole k h e a b c so_far =
    stops most (nesting (term k.body)) (parts_nesting (row_of (drop (i + 1) ks))) limit sub step next a b c
    ∙ ap (λ r. min (max most (parts_nesting r)) limit) (sym (row_of-drop_item ks i k h e)) ∙ so_far

pub nesting_ends : (ks : List Kid) (i most limit whole : ℕ) → length ks ≤ i → most ≤ limit →
    min (max most (parts_nesting (row_of (drop i ks)))) limit ≡ whole → most ≡ whole
nesting_ends ks i most limit whole h fits so_far =
    let e : most ≡ min (max most 0) limit = omega arith in
    e ∙ ap (λ r. min (max most (parts_nesting r)) limit) (sym (row_of-drop_all ks i h)) ∙ so_far
