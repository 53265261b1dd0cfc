use Rattle.std.proofs.Common.{◌+◌, length, ◌∙◌, sym, ap, length-drop, arith}
use Rattle.dh_tokens.specs.Inside.Components.{component_in}
use Rattle.dh_tokens.proofs.ComponentLaws.{components-loop}
use Rattle.dh_tokens.proofs.Runs.{byte_within}
use Rattle.dh_tokens.proofs.components.components.Goals as goal

pub slashes-preserved : goal.slashes-preserved
slashes-preserved c =
    let bs = c.args.rest.now in
    let here = c.after.result.now in
    let at = c.slashes.at in
    let len = c.in-Some.len in
    let slash = sym c.byte_at.ensures ∙ c.slashes-test.true in
    record {
      within = omega (arith, byte_within bs at (omega (arith, slash)), c.in-Some.ensures.within, ap length c.after.ensures, length-drop (at + 1) bs);
      so_far = components-loop (component_in c.args.kind) bs here c.in-Some.text.now c.in_ok-new.field-0 c.slashes.texts c.push.new.self at len c.after.ensures slash c.in-Some.ensures.value c.in-Some.ensures.within c.in_ok-new.ensures c.in_ok-push.ensures.ok c.slashes.invariant.so_far;
    }
