use Rattle.std.specs.Prelude.{◌-◌}
use Rattle.std.proofs.Common.{sym, ◌∙◌, arith}
use Rattle.dh_watch_laws.specs.Asking.{kept}
use Rattle.dh_watch_runs.specs.Resolving.{named}
use Rattle.dh_watch_runs.proofs.Asks.{texts-more, asked, comes, some-of}
use Rattle.dh_watch_runs.proofs.asking.ask.Goals as goal

pub returns-then-is_known-clause-asked : goal.returns-then-is_known-clause-asked
returns-then-is_known-clause-asked g c =
    let o = some-of _ (sym c.is_known.ensures ∙ c.if-is_known.true) in
    kept o.0 o.1

pub returns-then-is_known-clause-ended : goal.returns-then-is_known-clause-ended
returns-then-is_known-clause-ended g c = some-of _ (sym c.is_known.ensures ∙ c.if-is_known.true)

pub overflow_sub-fetched : goal.overflow_sub-fetched
overflow_sub-fetched g c =
    let more = texts-more (g.S.Resolver.kept c.args.resolver.now) (g.S.Resolver.kept c.decide.new.resolver) (named (g.S.Resolver.keys c.args.resolver.now) c.args.root) (g.S.Resolver.keys c.decide.new.resolver) c.in_ok-end.end c.in_ok-end.ensures.ended in
    omega (arith, more, c.texts.ensures, c.texts-before.ensures)

pub returns-clause-asked : goal.returns-clause-asked
returns-clause-asked g c =
    let old = g.S.Resolver.kept c.args.resolver.now in
    let s = g.S.Resolver.kept c.decide.new.resolver in
    let keys = g.S.Resolver.keys c.decide.new.resolver in
    let root = named (g.S.Resolver.keys c.args.resolver.now) c.args.root in
    let more = texts-more old s root keys c.in_ok-end.end c.in_ok-end.ensures.ended in
    asked old s root keys c.in_ok-end.end (c.texts.result - c.texts-before.result) c.in_ok-end.ensures.ended (omega (arith, more, c.texts.ensures, c.texts-before.ensures))

pub returns-clause-ended : goal.returns-clause-ended
returns-clause-ended g c =
    comes (g.S.Resolver.kept c.args.resolver.now) (g.S.Resolver.kept c.decide.new.resolver) (named (g.S.Resolver.keys c.args.resolver.now) c.args.root)
    (g.S.Resolver.keys c.decide.new.resolver) c.in_ok-end.end c.requires.sound c.in_ok-end.ensures.ended
