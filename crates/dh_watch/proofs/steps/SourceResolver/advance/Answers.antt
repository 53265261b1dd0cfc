use Rattle.std.specs.Prelude.{◌<◌, length}
use Rattle.std.proofs.Common.{arith, sym, subst}
use Rattle.dh_record.specs.declared.stage.reaches.Reach.TheVariants as reaches
use Rattle.dh_record.specs.Entering.{keys_in}
use Rattle.dh_record.specs.Reading.{IsReach}
use Rattle.dh_record.specs.Rows.{key_named, rows_of}
use Rattle.dh_watch_laws.specs.Running.{stage_at}
use Rattle.dh_watch_rows.specs.KeptRows.{kept_of}
use Rattle.dh_watch_runs.specs.Resolving.{GoesOn, IsWait}
use Rattle.dh_watch.specs.Sources.{IsSettled}
use Rattle.dh_watch.proofs.SourceSteps.{behind-name, fetched-on, fetched-settled, fetched-sound, key-count, missed-on, missed-over, missed-settled, missed-sound, named-key, reach-fetch, reach-look, reach-wait}
use Rattle.dh_watch.proofs.steps.SourceResolver.advance.Goals as goal

pub progress-requires-clause-settled : goal.progress-requires-clause-settled
progress-requires-clause-settled g c =
    let t = c.args.self.now.rows in
    let k = key_named t.keys c.args.key in
    let s = kept_of t in
    let s' = kept_of c.fetch.new.self.rows in
    let lacks = reach-fetch (rows_of t.keys) k (stage_at s k) (subst (λ d. IsReach (rows_of t.keys) k (stage_at s k) (reaches.Due d)) c.in-Due-Fetch.field-0-is c.in-Due-Fetch.ensures.reach) in
    let inside : c.args.key < length t.keys = omega (arith, c.requires.inside, key-count t.keys) in
    subst (λ z. IsSettled (stage_at s' z)) (sym (behind-name t.keys c.fetch.new.self.rows.keys c.args.key c.fetch.ensures.keys inside))
    (fetched-settled s s' k k.loc lacks c.in_ok-fetch-in-Due-Fetch.ensures.kept)

pub progress-requires-in-Due-Look-clause-settled :
    goal.progress-requires-in-Due-Look-clause-settled
progress-requires-in-Due-Look-clause-settled g c =
    let t = c.args.self.now.rows in
    let k = key_named t.keys c.args.key in
    let s = kept_of t in
    let s' = kept_of c.miss.new.self.rows in
    let lacks = reach-look (rows_of t.keys) k (stage_at s k) (subst (λ d. IsReach (rows_of t.keys) k (stage_at s k) (reaches.Due d)) c.in-Due-Look.field-0-is c.in-Due-Look.ensures.reach) in
    subst (λ ks. IsSettled (stage_at s' (key_named ks c.args.key))) (sym c.miss.ensures.keys) (missed-settled s s' k lacks c.in_ok-miss-in-Due-Look.ensures.kept)

pub returns-in_ok-fetch-in-Due-Fetch-clause-goes_on :
    goal.returns-in_ok-fetch-in-Due-Fetch-clause-goes_on
returns-in_ok-fetch-in-Due-Fetch-clause-goes_on g c =
    let t = c.args.self.now.rows in
    let k = key_named t.keys c.args.key in
    let s = kept_of t in
    let s' = kept_of c.fetch.new.self.rows in
    let lacks = reach-fetch (rows_of t.keys) k (stage_at s k) (subst (λ d. IsReach (rows_of t.keys) k (stage_at s k) (reaches.Due d)) c.in-Due-Fetch.field-0-is c.in-Due-Fetch.ensures.reach) in
    subst (GoesOn s s') (sym (named-key t.keys c.args.key)) (fetched-on s s' k k.loc lacks c.in_ok-fetch-in-Due-Fetch.ensures.kept)

pub returns-in_ok-fetch-in-Due-Fetch-clause-sound :
    goal.returns-in_ok-fetch-in-Due-Fetch-clause-sound
returns-in_ok-fetch-in-Due-Fetch-clause-sound g c =
    let t = c.args.self.now.rows in
    let k = key_named t.keys c.args.key in
    let s = kept_of t in
    let s' = kept_of c.fetch.new.self.rows in
    let lacks = reach-fetch (rows_of t.keys) k (stage_at s k) (subst (λ d. IsReach (rows_of t.keys) k (stage_at s k) (reaches.Due d)) c.in-Due-Fetch.field-0-is c.in-Due-Fetch.ensures.reach) in
    fetched-sound s s' k k.loc lacks c.in_ok-fetch-in-Due-Fetch.ensures.kept c.requires.sound

pub returns-in_ok-miss-in-Due-Look-clause-goes_on :
    goal.returns-in_ok-miss-in-Due-Look-clause-goes_on
returns-in_ok-miss-in-Due-Look-clause-goes_on g c =
    let t = c.args.self.now.rows in
    let k = key_named t.keys c.args.key in
    let s = kept_of t in
    let s' = kept_of c.miss.new.self.rows in
    let lacks = reach-look (rows_of t.keys) k (stage_at s k) (subst (λ d. IsReach (rows_of t.keys) k (stage_at s k) (reaches.Due d)) c.in-Due-Look.field-0-is c.in-Due-Look.ensures.reach) in
    subst (GoesOn s s') (sym (named-key t.keys c.args.key)) (missed-on s s' k lacks c.in_ok-miss-in-Due-Look.ensures.kept)

pub returns-in_ok-miss-in-Due-Look-clause-sound : goal.returns-in_ok-miss-in-Due-Look-clause-sound
returns-in_ok-miss-in-Due-Look-clause-sound g c =
    let t = c.args.self.now.rows in
    let k = key_named t.keys c.args.key in
    let s = kept_of t in
    let s' = kept_of c.miss.new.self.rows in
    let lacks = reach-look (rows_of t.keys) k (stage_at s k) (subst (λ d. IsReach (rows_of t.keys) k (stage_at s k) (reaches.Due d)) c.in-Due-Look.field-0-is c.in-Due-Look.ensures.reach) in
    missed-sound s s' k lacks c.in_ok-miss-in-Due-Look.ensures.kept c.requires.sound

pub returns-in_ok-miss-in-Due-Look-clause-over : goal.returns-in_ok-miss-in-Due-Look-clause-over
returns-in_ok-miss-in-Due-Look-clause-over g c =
    let t = c.args.self.now.rows in
    let k = key_named t.keys c.args.key in
    let s = kept_of t in
    let s' = kept_of c.miss.new.self.rows in
    let lacks = reach-look (rows_of t.keys) k (stage_at s k) (subst (λ d. IsReach (rows_of t.keys) k (stage_at s k) (reaches.Due d)) c.in-Due-Look.field-0-is c.in-Due-Look.ensures.reach) in
    missed-over s s' k (g.F.Files.now c.args.self.now.files) c.in_ok-miss-in-Due-Look.ensures.kept

pub returns-in-Wait-clause-reach : goal.returns-in-Wait-clause-reach
returns-in-Wait-clause-reach g c =
    let t = c.args.self.now.rows in
    let k = key_named t.keys c.args.key in
    let s = kept_of t in
    subst (λ z. IsWait (keys_in t.keys) (stage_at s z) c.in-Wait.next) (sym (named-key t.keys c.args.key)) (reach-wait t.keys k (stage_at s k) c.in-Wait.next c.in-Wait.ensures.reach)
