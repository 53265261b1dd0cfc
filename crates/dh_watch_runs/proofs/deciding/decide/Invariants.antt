use Rattle.std.specs.Prelude.{◌≡◌, ◌<◌, ◌≤◌, ◌+◌, ◌-◌, ◌*◌, ℕ, All, length}
use Rattle.dh_watch_laws.specs.Kept.{IsSound}
use Rattle.dh_watch_laws.specs.Running.{Runs}
use Rattle.dh_watch_runs.specs.Resolving.{named, trail_of, AreMore, AsksFor, StaysOver}
use Rattle.dh_watch_runs.proofs.deciding.decide.Given as goal

abbrev pub invariant-steps : goal.invariant-steps
invariant-steps g l = record {
  runs : Runs (g.S.Resolver.kept l.fn.resolver) (named (g.S.Resolver.keys l.fn.resolver) l.fn.root) (g.S.Resolver.kept l.resolver) (trail_of (g.S.Resolver.keys l.resolver) l.trail);
  inside : All (λ (n : ℕ). n < length (g.S.Resolver.keys l.resolver)) l.trail;
  keys : AreMore (g.S.Resolver.keys l.fn.resolver) (g.S.Resolver.keys l.resolver);
  sound : IsSound (g.S.Resolver.kept l.resolver);
  counted : l.found + length (g.S.Resolver.kept l.fn.resolver).outcomes ≡ length (g.S.Resolver.kept l.resolver).outcomes;
  over : StaysOver (g.S.Resolver.now l.fn.resolver) (g.S.Resolver.kept l.fn.resolver) (g.S.Resolver.kept l.resolver);
  now : g.S.Resolver.now l.resolver ≡ g.S.Resolver.now l.fn.resolver;
  most : l.found + length l.trail ≤ 4096;
  good : g.S.Resolver.is_good l.resolver;
  faults : g.S.Resolver.faults l.resolver ≡ g.S.Resolver.faults l.fn.resolver;
  asks : AsksFor 0 (g.S.Resolver.asked l.fn.resolver) (g.S.Resolver.kept l.fn.resolver) (g.S.Resolver.asked l.resolver) (g.S.Resolver.kept l.resolver);
}

abbrev pub decreases-steps : goal.decreases-steps
decreases-steps g l = 2 * (4096 - (l.found + length l.trail)) + length l.trail
