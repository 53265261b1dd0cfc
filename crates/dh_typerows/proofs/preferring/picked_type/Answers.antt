use Rattle.std.proofs.Common.{Some, ap, ◌∙◌}
use Rattle.dh_typerows.specs.Fields.{on_side}
use Rattle.dh_records.proofs.MergedFields.{below_at, left_within, right_within, both_within, right_value, both_value}
use Rattle.dh_typerows.proofs.preferring.picked_type.Goals as goal

pub returns-in-Left-clause-below : goal.returns-in-Left-clause-below
returns-in-Left-clause-below c = λ n h k. below_at n c.args.ls.now c.in-Left.i h (left_within (on_side c.args.side) c.args.ls.now c.args.rs.now c.args.pick c.requires c.in-Left.i c.in-Left.is)

pub returns-in-Right-clause-core : goal.returns-in-Right-clause-core
returns-in-Right-clause-core c = λ f. right_value (on_side c.args.side) c.args.ls.now c.args.rs.now c.args.pick c.requires f c.in-Right.j c.in-Right.is

pub returns-in-Right-clause-below : goal.returns-in-Right-clause-below
returns-in-Right-clause-below c = λ n h k. below_at n c.args.rs.now c.in-Right.j k (right_within (on_side c.args.side) c.args.ls.now c.args.rs.now c.args.pick c.requires c.in-Right.j c.in-Right.is)

pub returns-in-Both-clause-core : goal.returns-in-Both-clause-core
returns-in-Both-clause-core c = λ f. both_value (on_side c.args.side) c.args.ls.now c.args.rs.now c.args.pick c.requires f c.in-Both.i c.in-Both.j c.in-Both.is ∙ ap Some (c.on_side.ensures.core f)

pub returns-in-Both-clause-below : goal.returns-in-Both-clause-below
returns-in-Both-clause-below c = λ n h k.
    let within = both_within (on_side c.args.side) c.args.ls.now c.args.rs.now c.args.pick c.requires c.in-Both.i c.in-Both.j c.in-Both.is in
    c.on_side.ensures.below n (below_at n c.args.ls.now c.in-Both.i h within.0) (below_at n c.args.rs.now c.in-Both.j k within.1)
