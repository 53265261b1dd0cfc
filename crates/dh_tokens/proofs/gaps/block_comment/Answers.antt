use Rattle.std.proofs.Common.{◌≡◌, ◌<◌, ◌-◌, ◌∙◌, List, ℕ, length, min, ap, sym, length-drop, arith}
use Rattle.std.proofs.Math.Nat.{min-le_right}
use Rattle.dh_tokens.proofs.GapSteps.{read_to, comment-step_passes, comment_faulty}
use Rattle.dh_tokens.proofs.gaps.block_comment.Goals as goal

pub loop-n-preserved : goal.loop-n-preserved
loop-n-preserved c =
    let bs : List ℕ = c.args.rest.now in
    let here : List ℕ = c.after.result.now in
    let n = c.loop-n.n in
    let room : length here ≡ length bs - n = ap length c.after.ensures ∙ length-drop n bs in
    let some : 0 < length here = omega (arith, room) in
    let read = read_to bs here c.loop-n.inner n c.loop-n.invariant.begun c.after.ensures c.loop-n.invariant.so_far in
    let m_is = c.min-n.ensures ∙ ap (min c.in-Passes.len) (sym room) in
    record {
      begun = omega arith;
      within = omega (arith, min-le_right c.in-Passes.len (length bs - n));
      shallow = omega arith;
      so_far = comment-step_passes bs here c.loop-n.inner n c.in-Passes.len c.min-n.result read some c.in-Passes.ensures.value c.in-Passes.ensures.forward m_is;
    }

pub returns-in-Stops-clause-value : goal.returns-in-Stops-clause-value
returns-in-Stops-clause-value c =
    let bs : List ℕ = c.args.rest.now in
    let here : List ℕ = c.after.result.now in
    let n = c.loop-n.n in
    let some : 0 < length here = omega (arith, ap length c.after.ensures, length-drop n bs) in
    let read = read_to bs here c.loop-n.inner n c.loop-n.invariant.begun c.after.ensures c.loop-n.invariant.so_far in
    comment_faulty bs here c.loop-n.inner n c.requires read some c.in-Stops.ensures.value
