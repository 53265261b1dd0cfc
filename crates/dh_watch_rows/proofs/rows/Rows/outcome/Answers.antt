use Rattle.std.specs.Prelude.{IfSome}
use Rattle.std.specs.Option.{option_copied}
use Rattle.std.proofs.Common.{sym, ◌∙◌, subst}
use Rattle.std.proofs.lemmas.List.Elements.{All-get_or}
use Rattle.dh_laws.proofs.KeyOrder.{some-equal}
use Rattle.dh_record.specs.Due.{IsValued}
use Rattle.dh_record.specs.Rows.{key_named, nobody, rows_of}
use Rattle.dh_record.specs.Values.{HasValue}
use Rattle.dh_record.proofs.Decided.{number_itself, outcome_stands}
use Rattle.dh_record.proofs.Reading.{asked_number}
use Rattle.dh_watch_rows.proofs.rows.Rows.outcome.Goals as goal

pub returns-clause-known : goal.returns-clause-known
returns-clause-known c =
    let t = c.args.self.now in
    let g = c.requires.good in
    asked_number (rows_of t.keys) (key_named t.keys c.args.n) c.args.n (option_copied c.outcome.result) (number_itself t.keys c.args.n g.distinct c.requires.inside) c.outcome.ensures
    ∙ (λ i. sym g.asks i (key_named t.keys c.args.n))

pub returns-clause-value : goal.returns-clause-value
returns-clause-value c =
    let t = c.args.self.now in
    subst (λ o. IfSome o HasValue) (some-equal (sym (outcome_stands t.keys c.args.n c.requires.inside) ∙ c.outcome.ensures))
    (All-get_or IsValued t.keys c.args.n nobody c.requires.inside c.requires.good.valued)
