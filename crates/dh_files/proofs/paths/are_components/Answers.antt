use Rattle.std.proofs.Common.{◌+◌, ◌<◌, length, sym, arith}
use Rattle.dh_files.specs.Inside.Walked.{are_components}
use Rattle.dh_files.proofs.Walking.{after_component, ended, at_slash, at_other, within_more}
use Rattle.dh_files.proofs.paths.are_components.Goals as goal

pub returns-then-at-rest : goal.returns-then-at-rest
returns-then-at-rest c =
    let bs = c.args.rest.now in
    let at = c.components.at in
    let after = after_component bs c.after.result.now at c.in-Some.len c.after.ensures c.in-Some.ensures.value c.in-Some.ensures.within c.components.invariant.so_far in
    sym (ended bs (at + c.in-Some.len) (are_components bs) c.if-at-rest.true after)

pub returns-then-rest-at-ne47 : goal.returns-then-rest-at-ne47
returns-then-rest-at-ne47 c =
    let bs = c.args.rest.now in
    let at = c.components.at in
    let after = after_component bs c.after.result.now at c.in-Some.len c.after.ensures c.in-Some.ensures.value c.in-Some.ensures.within c.components.invariant.so_far in
    let short = within_more bs c.after.result.now at c.in-Some.len c.after.ensures c.in-Some.ensures.within c.components.invariant.within c.if-at-rest.false in
    sym (at_other bs (at + c.in-Some.len) (are_components bs) short c.if-rest-at-ne47.true after)

pub components-preserved : goal.components-preserved
components-preserved c =
    let bs = c.args.rest.now in
    let at = c.components.at in
    let after = after_component bs c.after.result.now at c.in-Some.len c.after.ensures c.in-Some.ensures.value c.in-Some.ensures.within c.components.invariant.so_far in
    let short : at + c.in-Some.len < length bs = within_more bs c.after.result.now at c.in-Some.len c.after.ensures c.in-Some.ensures.within c.components.invariant.within c.if-at-rest.false in
    record {
      within = omega (arith, short);
      so_far = at_slash bs (at + c.in-Some.len) (are_components bs) short c.if-rest-at-ne47.false after;
    }
