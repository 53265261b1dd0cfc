use Rattle.std.specs.Prelude.{◌≡◌, None}
use Rattle.std.proofs.Common.{ap, sym, ◌∙◌, subst}
use Rattle.dh_syntax.specs.declared.locations.Key.{Key}
use Rattle.dh_imports.specs.Records.{text_at}
use Rattle.dh_record.specs.Entering.{keys_in}
use Rattle.dh_record.specs.Rows.{key_named}
use Rattle.dh_watch_rows.specs.KeptRows.{kept_of}
use Rattle.dh_watch_runs.specs.Resolving.{StaysOver}
use Rattle.dh_watch.proofs.SourceSteps.{behind-more, lacks-text, over-text}
use Rattle.dh_watch.proofs.Coming.{ways-text}
use Rattle.dh_watch.proofs.sources.Source.fetch.Goals as goal

pub returns-in-Ok-clause-ways : goal.returns-in-Ok-clause-ways
returns-in-Ok-clause-ways g c =
    let t = c.args.self.now.rows in
    let s = kept_of t in
    let k = key_named t.keys c.args.key in
    let same : c.in_ok-loc.loc ≡ k.loc = c.in_ok-loc.ensures ∙ ap (λ (j : Key). j.loc) c.key.ensures in
    ways-text s (kept_of c.record_text.new.self) c.in_ok-loc.loc (keys_in t.keys) (keys_in c.record_text.new.self.keys) c.args.self.now.ways.items
    (subst (λ l. text_at s.recorded l ≡ None) (sym same) (lacks-text s k k.loc c.requires.lacks)) (_, c.in_ok-record_text-in-Ok.ensures.kept)
    (behind-more t.keys c.record_text.new.self.keys c.in_ok-record_text-in-Ok.ensures.keys) c.requires.ways

pub returns-in-Ok-clause-over : goal.returns-in-Ok-clause-over
returns-in-Ok-clause-over g c =
    let s = kept_of c.args.self.now.rows in
    let told = g.F.Files.now c.args.self.now.files in
    subst (StaysOver told s) (sym c.in_ok-record_text-in-Ok.ensures.kept)
    (over-text told s c.in_ok-loc.loc c.in-Ok.got c.in_ok-scan-in-Ok.scan c.in-Ok.ensures.told c.in_ok-scan-in-Ok.ensures)
