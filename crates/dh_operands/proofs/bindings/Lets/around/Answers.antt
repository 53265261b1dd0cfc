use Rattle.std.proofs.Common.{◌≡◌, [], map, ap, sym, ◌∙◌, rules}
use Rattle.dh_grammar.specs.Stubs.{at, around}
use Rattle.dh_operands.specs.Operands.{part_of, binding_of}
use Rattle.dh_operands.proofs.LetLists.{last_bound}
use Rattle.dh_operands.proofs.bindings.Lets.around.Goals as goal

pub loop-binding-preserved : goal.loop-binding-preserved
loop-binding-preserved c =
    let loop = c.loop-binding in
    last_bound loop.bindings.items c.pop.new.self.items c.in-Some.binding (part_of loop.part) (part_of c.in_ok-part.part) c.in-Some.ensures.items c.in_ok-part.ensures ∙ loop.invariant

pub returns : goal.returns
returns c =
    let loop = c.loop-binding in
    let none : loop.bindings.items ≡ [] = search rules in
    ap (at 0)
    (ap (λ bs. around (map binding_of bs) (part_of loop.part)) (sym none) ∙ loop.invariant
    ∙ ap (λ bs. around (map binding_of bs) (part_of c.args.body.part)) c.into_vec-bindings.ensures)
