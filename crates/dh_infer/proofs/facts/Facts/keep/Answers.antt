use Rattle.std.proofs.Common.{sym, subst as along}
use Rattle.dh_infer.specs.declared.facts.Fact.{Fact}
use Rattle.dh_infer.specs.Inside.Facts.{AreFacts, IsTypeOf}
use Rattle.dh_infer.proofs.FoundFacts.{facts-more}
use Rattle.dh_infer.proofs.facts.Facts.keep.Goals as goal

pub returns : goal.returns
returns c = λ g h t.
    let f : Fact = record { code = c.args.code; typed = c.args.typed; levels = c.in_ok-levels.levels } in
    along (AreFacts g) (sym c.in_ok-push.ensures.items)
    (facts-more g c.args.self.now.found.items f h (along (λ ls. IsTypeOf g ls c.args.code c.args.typed) (sym c.in_ok-levels.ensures) t))
