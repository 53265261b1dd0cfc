use Rattle.std.proofs.Common.{◌∙◌, arith}
use Rattle.dh_record.specs.Rows.{rows_of}
use Rattle.dh_watch_rows.proofs.LoopedRows.{looped-key, looped-many}
use Rattle.dh_watch_rows.proofs.visiting.LoopedResults.key.Goals as goal

pub key-requires : goal.key-requires
key-requires c =
    let l = c.args.self.now in
    omega (arith, looped-many (rows_of l.keys.now) l.chain.now l.end.now, c.requires)

pub returns : goal.returns
returns c =
    let l = c.args.self.now in
    looped-key (rows_of l.keys.now) l.chain.now l.end.now c.args.key ∙ c.key.ensures
