use Rattle.dh_top.proofs.Filing.{first_same, first_set, on_ok_map, on_err_map}
use Rattle.dh_top.proofs.batch.keep_files_at_first.Goals as goal

pub returns-clause-kept : goal.returns-clause-kept
returns-clause-kept g c =
    on_ok_map c.keep_files.result (λ k. first_set _ c.args.desks.now c.index-desks-0.result c.keep_files.new.desk c.requires.some (c.keep_files.ensures.counted, k)) c.keep_files.ensures.kept

pub returns-clause-part : goal.returns-clause-part
returns-clause-part g c =
    on_err_map c.keep_files.result (λ k. first_set _ c.args.desks.now c.index-desks-0.result c.keep_files.new.desk c.requires.some (c.keep_files.ensures.counted, k)) c.keep_files.ensures.part

pub returns-clause-asked : goal.returns-clause-asked
returns-clause-asked g c = first_same (λ d. g.D.Desk.asked d) c.args.desks.now c.index-desks-0.result c.keep_files.new.desk c.requires.some c.keep_files.ensures.asked
