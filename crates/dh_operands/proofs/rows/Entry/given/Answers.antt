use Rattle.std.proofs.Common.{◌≡◌, [], ap, sym, ◌∙◌, rules}
use Rattle.dh_grammar.specs.Stubs.{dotted}
use Rattle.dh_syntax.specs.Text.Derivation.{one_key}
use Rattle.dh_operands.specs.Operands.{part_of}
use Rattle.dh_making.specs.Words.{key_of, keys_on}
use Rattle.dh_operands.proofs.KeyLists.{last_dotted}
use Rattle.dh_operands.proofs.rows.Entry.given.Goals as goal

pub loop-key-preserved : goal.loop-key-preserved
loop-key-preserved c =
    let loop = c.loop-key in
    λ ks. last_dotted ks loop.more.items c.pop.new.self.items c.in-Some.key (part_of loop.part) (part_of c.in_ok-part.part) c.in-Some.ensures.items c.in_ok-part.ensures ∙ loop.invariant ks

pub returns : goal.returns
returns c =
    let loop = c.loop-key in
    let first = one_key (key_of c.into_parts-first.result.0) in
    let none : loop.more.items ≡ [] = search rules in
    ap (λ l. (l, part_of loop.part)) c.in_ok-label.ensures
    ∙ ap (λ more. dotted (keys_on first more) (part_of loop.part)) (sym none) ∙ loop.invariant first
    ∙ ap (λ ks. dotted ks (part_of c.args.value.part)) (sym c.into_parts-first.ensures)
