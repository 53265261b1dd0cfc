use Rattle.std.proofs.Common.{[], refl, ◌∙◌, rules, arith, length, ◌≤◌}
use Rattle.std.proofs.lemmas.List.Elements.{All-rest}
use Rattle.dh_syntax.specs.Limits.{most_entry_bytes}
use Rattle.dh_top.proofs.Filing.{files_nothing, part_of, one_done, all_done, on_err_of}
use Rattle.dh_top.proofs.keeping.keep_all.Goals as goal

pub loop-entry-init : goal.loop-entry-init
loop-entry-init g c = record { small = c.requires; counted = omega arith; asked = refl; kept = ([], refl, files_nothing _ _) }

pub returns-in_err-keep_entry-clause-part : goal.returns-in_err-keep_entry-clause-part
returns-in_err-keep_entry-clause-part g c =
    let so_far = c.loop-entry.invariant.kept in on_err_of c.from_residual.result (part_of _ _ _ _ _ so_far.0 c.loop-entry.left.now c.args.entries.now so_far.1 so_far.2 c.in_err-keep_entry.ensures.not_kept)

pub loop-entry-preserved : goal.loop-entry-preserved
loop-entry-preserved g c =
    let so_far = c.loop-entry.invariant.kept in
    let split = c.in-Some.ensures.cases.0 in
    let before = c.loop-entry.invariant.counted in
    let up = c.keep_entry.ensures.counted in
    record {
      small = All-rest (λ e. length e.bytes ≤ most_entry_bytes) c.in-Some.entry.now c.in-Some.rest.now c.loop-entry.left.now split c.loop-entry.invariant.small;
      counted = omega (arith, before, up);
      asked = c.keep_entry.ensures.asked ∙ c.loop-entry.invariant.asked;
      kept = one_done _ _ _ _ _ _ so_far.0 c.loop-entry.left.now c.args.entries.now c.in-Some.entry.now c.in-Some.rest.now so_far.1 split up so_far.2 c.in_ok-keep_entry.ensures.kept;
    }
