use Rattle.std.specs.Prelude.{◌≡◌, [], ◌∷◌, ◌++◌, if◌then◌else◌}
use Rattle.std.proofs.Common.{ap, sym, ◌∙◌, subst}
use Rattle.dh_record.specs.Brought.{limit_by}
use Rattle.dh_record.specs.Entering.{decided_at, keys_in}
use Rattle.dh_record.specs.Rows.{key_named}
use Rattle.dh_imports.specs.Outcomes.{plain}
use Rattle.dh_record.proofs.Decided.{keys_same}
use Rattle.dh_watch_rows.specs.KeptRows.{AreGood, AreNamed, kept_by, kept_of}
use Rattle.dh_watch_rows.proofs.DecidedRows.{decided-good, decided-kept, is_last, limits-named}
use Rattle.dh_watch_rows.proofs.rows.Rows.decide.Goals as goal

pub returns-clause-good : goal.returns-clause-good
returns-clause-good c =
    let t = c.args.self.now in
    let n = c.args.n in
    let o = c.args.done.outcome in
    let keys : c.decide.new.self ≡ decided_at t.keys n o = c.decide.ensures ∙ ap (decided_at t.keys n) c.into_outcome.ensures in
    let limits : c.put_if.new.v.items ≡ (if c.args.done.limited then t.limited.items ++ n ∷ [] else t.limited.items) =
    c.put_if.ensures ∙ (λ i. if c.is_limit-limited.ensures i then c.reserve-2.ensures.items i ++ n ∷ [] else c.reserve-2.ensures.items i) in
    let found : c.put.new.v.items ≡ t.found.items ++ n ∷ [] = c.put.ensures.items ∙ ap (λ z. z ++ n ∷ []) c.reserve.ensures.items in
    subst (λ ks. AreGood ks t.texts.items t.looks.items t.text_order.numbers.items t.look_order.numbers.items c.put.new.v.items c.put_if.new.v.items) (sym keys)
    (subst (λ z. AreGood (decided_at t.keys n o) t.texts.items t.looks.items t.text_order.numbers.items t.look_order.numbers.items z c.put_if.new.v.items) (sym found)
    (decided-good t.keys t.texts.items t.looks.items t.text_order.numbers.items t.look_order.numbers.items t.found.items t.limited.items c.requires.good n o c.requires.inside c.requires.open
    c.put_if.new.v.items (subst (AreNamed t.keys) (sym limits) (limits-named t.keys t.limited.items n c.args.done.limited c.requires.good.limited_named c.requires.inside)) c.by_value.ensures))

pub returns-clause-kept : goal.returns-clause-kept
returns-clause-kept c =
    let t = c.args.self.now in
    let n = c.args.n in
    let o = c.args.done.outcome in
    let keys : c.decide.new.self ≡ decided_at t.keys n o = c.decide.ensures ∙ ap (decided_at t.keys n) c.into_outcome.ensures in
    let limits : c.put_if.new.v.items ≡ (if c.args.done.limited then t.limited.items ++ n ∷ [] else t.limited.items) =
    c.put_if.ensures ∙ (λ i. if c.is_limit-limited.ensures i then c.reserve-2.ensures.items i ++ n ∷ [] else c.reserve-2.ensures.items i) in
    let found : c.put.new.v.items ≡ t.found.items ++ n ∷ [] = c.put.ensures.items ∙ ap (λ z. z ++ n ∷ []) c.reserve.ensures.items in
    record {
      limit = limit_by c.args.done.limited o;
      outcome = plain o;
      is_last = is_last (kept_of t) (key_named t.keys n) c.args.done.item o c.args.done.limited c.requires.sound c.requires.open c.requires.item c.by_last_step.ensures;
      kept =
          (λ i. kept_by (keys i) t.texts.items t.looks.items (found i) c.put_if.new.v.items)
          ∙ decided-kept t.keys t.texts.items t.looks.items t.text_order.numbers.items t.look_order.numbers.items t.found.items t.limited.items c.requires.good n o c.requires.inside c.requires.open
          c.requires.sound c.args.done.limited c.put_if.new.v.items limits;
    }

pub returns-clause-keys : goal.returns-clause-keys
returns-clause-keys c =
    let t = c.args.self.now in
    ap keys_in (c.decide.ensures ∙ ap (decided_at t.keys c.args.n) c.into_outcome.ensures) ∙ keys_same t.keys c.args.n c.args.done.outcome c.requires.inside c.requires.good.distinct
