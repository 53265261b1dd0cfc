use Rattle.std.proofs.Common.{subst}
use Rattle.dh_imports.specs.Outcomes.{Loop}
use Rattle.dh_imports.specs.Resolver.{Resolves}
use Rattle.dh_record.specs.Entering.{keys_in}
use Rattle.dh_record.specs.Rows.{key_named}
use Rattle.dh_watch_lines.proofs.RootLines.{loop_told, named-key}
use Rattle.dh_watch_lines.proofs.roots.root_line.Goals as goal
use Rattle.dh_watch_rows.specs.KeptRows.{kept_of}
use Rattle.dh_watch_runs.specs.Asks.{ComesTo}
use Rattle.dh_watch_runs.specs.declared.deciding.End.TheVariants as ends

pub returns-in-Loop : goal.returns-in-Loop
returns-in-Loop c =
    let keys = c.args.rows.now.keys in
    let k = key_named keys c.args.root in
    let s = kept_of c.args.rows.now in
    let e : ComesTo k (keys_in keys) s (ends.Loop c.in-Loop.least) = subst (λ e. ComesTo k (keys_in keys) s e) c.in-Loop.is c.requires.ended in
    loop_told c.loop_line.result s.recorded k (key_named keys c.in-Loop.least) (subst (λ z. Resolves s.recorded k (Loop z)) (named-key keys c.in-Loop.least) e.1) c.loop_line.ensures
