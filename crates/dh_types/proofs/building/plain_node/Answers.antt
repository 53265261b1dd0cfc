use Rattle.std.proofs.Common.{IsTrue, ap, sym, ◌∙◌, subst as along}
use Rattle.dh_syntax.specs.Expressions.Tree.{Node}
use Rattle.dh_store.specs.Cells.{code_core, code_row, nothing, AreKidsBelow}
use Rattle.dh_syntax.specs.Expressions.Arity.{fits}
use Rattle.dh_store.specs.Growth.{count}
use Rattle.dh_types.proofs.Grown.{plain-below, plain-fits, plain-row, stands-as}
use Rattle.dh_types.proofs.building.plain_node.Goals as goal

pub node-requires-clause-there : goal.node-requires-clause-there
node-requires-clause-there c = along (AreKidsBelow (count c.args.codes.now)) (sym c.in_ok-kids.ensures) (plain-below (count c.args.codes.now) c.args.parts.now c.requires.there)

pub node-requires-clause-fits : goal.node-requires-clause-fits
node-requires-clause-fits c = along (λ ks. IsTrue (fits c.args.op (code_row (λ n. nothing) ks))) (sym c.in_ok-kids.ensures) (plain-fits c.args.op c.args.parts.now c.requires.fits)

pub returns-clause-made : goal.returns-clause-made
returns-clause-made c =
    stands-as c.node.new.codes c.node.result _ _
    (ap (λ ks. Node c.args.op (code_row (code_core c.args.codes.now) ks)) c.in_ok-kids.ensures ∙ ap (Node c.args.op) (plain-row (code_core c.args.codes.now) c.args.parts.now)) c.node.ensures.made
