use Rattle.std.specs.Prelude.{Some, None}
use Rattle.std.proofs.Common.{sym, subst}
use Rattle.dh_watch_laws.specs.Contents.{IsEdited}
use Rattle.dh_watch_files.specs.MemContents.{pairs_of}
use Rattle.dh_watch_files.proofs.Contents.{updated}
use Rattle.dh_watch_files.proofs.mem_files.edit.Goals as goal

pub returns-in-None-clause-edited : goal.returns-in-None-clause-edited
returns-in-None-clause-edited c =
    subst (λ b. IsEdited (pairs_of c.args.files.now.entries) c.args.key.loc b (pairs_of c.remove-before.new.self.entries)) (sym c.in-None.is)
    (updated c.args.files.now c.remove-before.new.self c.args.key None c.remove-before.ensures.updates)

pub returns-in_ok-_before-in-Some-clause-edited : goal.returns-in_ok-_before-in-Some-clause-edited
returns-in_ok-_before-in-Some-clause-edited c =
    subst (λ b. IsEdited (pairs_of c.args.files.now.entries) c.args.key.loc b (pairs_of c.insert.new.self.entries)) (sym c.in-Some.is)
    (updated c.args.files.now c.insert.new.self c.args.key (Some c.in-Some.bytes) c.in_ok-_before-in-Some.ensures.updates)
