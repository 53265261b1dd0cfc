use Rattle.std.specs.Prelude.{◌≡◌, ◌<◌, ◌≤◌, ◌-◌, ℕ, zero, suc, List, [], ◌∷◌, length, None, slice_get}
use Rattle.std.proofs.Common.{ap, sym, ◌∙◌, arith, subst as along}
use Rattle.dh_infer.proofs.Starting.{level-typed, level-unbound}
use Rattle.dh_infer.proofs.beginnings.level.Goals as goal

there : (ls : List ℕ) (i : ℕ) → i < length ls → slice_get ls i ≡ None → ⊥
there [] i l p = absurd (omega (arith, l))
there (k ∷ ls) zero l p = absurd cc
there (k ∷ ls) (suc i) l p = there ls i (omega (arith, l)) p

pub returns-in-Some-clause-ok : goal.returns-in-Some-clause-ok
returns-in-Some-clause-ok c =
    let ls = c.args.typer.now.levels in
    level-typed c.args.typer.now c.args.code c.args.purse.now.left c.requires.ready c.args.number c.requires.form c.in-Some.typed.now
    (along (λ n. c.args.number < n) c.len-open.ensures c.if-at-open.true)
    (ap (λ n. slice_get ls (n - 1 - c.args.number)) (sym c.len-open.ensures) ∙ sym c.in-Some.ensures)

pub returns-in-None-clause-ok : goal.returns-in-None-clause-ok
returns-in-None-clause-ok c =
    level-unbound c.args.typer.now c.args.code c.args.purse.now.left c.requires.ready c.args.number c.requires.form c.refuse.result c.refuse.ensures
    (absurd (there c.args.typer.now.levels (length c.args.typer.now.levels - 1 - c.args.number)
    (let l = along (λ n. c.args.number < n) c.len-open.ensures c.if-at-open.true in omega (arith, l))
    (ap (λ n. slice_get c.args.typer.now.levels (n - 1 - c.args.number)) (sym c.len-open.ensures) ∙ sym c.in-None.ensures)))

pub returns-else-at-open-clause-ok : goal.returns-else-at-open-clause-ok
returns-else-at-open-clause-ok c =
    level-unbound c.args.typer.now c.args.code c.args.purse.now.left c.requires.ready c.args.number c.requires.form c.refuse-else-at-open.result c.refuse-else-at-open.ensures
    (along (λ n. n ≤ c.args.number) c.len-open.ensures c.if-at-open.false)
