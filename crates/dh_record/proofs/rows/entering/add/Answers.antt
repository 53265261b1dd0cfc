use Rattle.std.proofs.Common.{◌≡◌, ap, sym, ◌∙◌, subst as along}
use Rattle.std.specs.Prelude.{Some, None, MatchOption}
use Rattle.dh_demand.specs.Results.{number_of}
use Rattle.dh_record.specs.Rows.{rows_of}
use Rattle.dh_record.proofs.NewKeys.{added_none, added_last, last_number, last_unfrozen}
use Rattle.dh_record.proofs.rows.entering.add.Goals as goal

pub returns-in-Some-clause-added : goal.returns-in-Some-clause-added
returns-in-Some-clause-added c = added_none c.args.keys.now c.args.key.now c.in-Some.number c.in-Some.ensures

pub returns-clause-added : goal.returns-clause-added
returns-clause-added c =
    let es = c.args.keys.now in
    let k = c.args.key.now in
    let e = c.in_ok-entrant.entrant in
    let u = c.own_or.result in
    let h : None ≡ number_of (rows_of es) k = sym c.in_default.is ∙ c.number.ensures in
    added_last es k u e c.in_ok-entrant.ensures h c.push.new.self c.in_ok-push.ensures.ok
    (last_unfrozen es k u e c.in_ok-entrant.ensures h c.args.unfrozen c.requires.unfrozen (along (λ n. MatchOption c.args.unfrozen (u ≡ n) (λ b. u ≡ b)) c.len-at.ensures c.own_or.ensures))

pub returns-clause-number : goal.returns-clause-number
returns-clause-number c =
    let es = c.args.keys.now in
    let k = c.args.key.now in
    let h : None ≡ number_of (rows_of es) k = sym c.in_default.is ∙ c.number.ensures in
    ap (λ xs. number_of (rows_of xs) k) c.in_ok-push.ensures.ok ∙ last_number es k c.own_or.result c.in_ok-entrant.entrant c.in_ok-entrant.ensures h ∙ ap Some (sym c.len-at.ensures)
