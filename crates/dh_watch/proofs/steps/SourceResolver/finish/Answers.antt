use Rattle.std.proofs.Common.{sym, subst}
use Rattle.dh_record.specs.Entering.{keys_in}
use Rattle.dh_watch_rows.specs.KeptRows.{Decides, kept_of}
use Rattle.dh_watch_runs.specs.Resolving.{named}
use Rattle.dh_watch.proofs.SourceSteps.{decided-finishes, decided-over, decided-sound, named-key}
use Rattle.dh_watch.proofs.Coming.{more-itself, ways-outcome}
use Rattle.dh_watch.proofs.steps.SourceResolver.finish.Goals as goal

pub returns-clause-good : goal.returns-clause-good
returns-clause-good g c =
    let t = c.args.self.now.rows in
    let s' = kept_of c.decide.new.self in
    let k = named (keys_in t.keys) c.args.key in
    record {
      good = c.in_ok-decide.ensures.good;
      come =
          ways-outcome (kept_of t) s' k (keys_in t.keys) (keys_in c.decide.new.self.keys) c.args.self.now.ways.items c.requires.open
          (subst (λ z. Decides (kept_of t) z s') (sym (named-key t.keys c.args.key)) c.in_ok-decide.ensures.kept)
          (more-itself (keys_in t.keys) (keys_in c.decide.new.self.keys) c.in_ok-decide.ensures.keys) c.requires.good.come;
    }

pub returns-clause-finishes : goal.returns-clause-finishes
returns-clause-finishes g c =
    let t = c.args.self.now.rows in
    let s' = kept_of c.decide.new.self in
    let k = named (keys_in t.keys) c.args.key in
    decided-finishes (kept_of t) s' k (subst (λ z. Decides (kept_of t) z s') (sym (named-key t.keys c.args.key)) c.in_ok-decide.ensures.kept)

pub returns-clause-sound : goal.returns-clause-sound
returns-clause-sound g c =
    let t = c.args.self.now.rows in
    let s' = kept_of c.decide.new.self in
    let k = named (keys_in t.keys) c.args.key in
    decided-sound (kept_of t) s' k (subst (λ z. Decides (kept_of t) z s') (sym (named-key t.keys c.args.key)) c.in_ok-decide.ensures.kept) c.requires.sound c.requires.open

pub returns-clause-over : goal.returns-clause-over
returns-clause-over g c =
    let t = c.args.self.now.rows in
    let s' = kept_of c.decide.new.self in
    let k = named (keys_in t.keys) c.args.key in
    decided-over (kept_of t) s' k (g.F.Files.now c.args.self.now.files) (subst (λ z. Decides (kept_of t) z s') (sym (named-key t.keys c.args.key)) c.in_ok-decide.ensures.kept)
