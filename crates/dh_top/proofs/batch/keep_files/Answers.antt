use Rattle.std.proofs.Common.{[], refl, ap, ◌∙◌, arith, map}
use Rattle.dh_record.specs.Kept.{pair_of}
use Rattle.dh_top.proofs.Filing.{files_nothing, on_err_of}
use Rattle.dh_top.proofs.KeptFiles.{file_done, part_of_files, small_rest}
use Rattle.dh_top.proofs.batch.keep_files.Goals as goal

pub loop-reply-init : goal.loop-reply-init
loop-reply-init g c = record { small = c.requires; counted = omega arith; asked = refl; kept = ([], refl, files_nothing _ _) }

pub returns-in_err-keep_all-clause-part : goal.returns-in_err-keep_all-clause-part
returns-in_err-keep_all-clause-part g c =
    let so_far = c.loop-reply.invariant.kept in
    on_err_of c.from_residual.result
    (part_of_files _ _ _ _ _ so_far.0 c.loop-reply.left.now c.args.replies.now c.in-Some.reply.now c.in-Some.rest.now _ so_far.1 c.in-Some.ensures.cases.0 (ap (map pair_of) c.as_slice.ensures) so_far.2
    c.in_err-keep_all.ensures.part)

pub loop-reply-preserved : goal.loop-reply-preserved
loop-reply-preserved g c =
    let so_far = c.loop-reply.invariant.kept in
    let split = c.in-Some.ensures.cases.0 in
    let before = c.loop-reply.invariant.counted in
    let up = c.keep_all.ensures.counted in
    record {
      small = small_rest c.loop-reply.left.now c.in-Some.reply.now c.in-Some.rest.now split c.loop-reply.invariant.small;
      counted = omega (arith, before, up);
      asked = c.keep_all.ensures.asked ∙ c.loop-reply.invariant.asked;
      kept = file_done _ _ _ _ _ _ so_far.0 c.loop-reply.left.now c.args.replies.now c.in-Some.reply.now c.in-Some.rest.now _ so_far.1 split (ap (map pair_of) c.as_slice.ensures) up so_far.2
          c.in_ok-keep_all.ensures.kept;
    }
