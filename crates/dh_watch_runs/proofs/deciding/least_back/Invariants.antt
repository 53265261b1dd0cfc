use Rattle.std.specs.Prelude.{◌≡◌, ◌<◌, length, map, reverse, take}
use Rattle.dh_imports.specs.Resolver.{least_back_to}
use Rattle.dh_watch_runs.specs.Resolving.{named}
use Rattle.dh_watch_runs.proofs.deciding.least_back.Given as goal

abbrev pub invariant-loop-n : goal.invariant-loop-n
invariant-loop-n g l = record {
  inside : l.least < length (g.S.Resolver.keys l.resolver);
  least : named (g.S.Resolver.keys l.resolver) l.least ≡ least_back_to (named (g.S.Resolver.keys l.resolver) l.at) (reverse (map (named (g.S.Resolver.keys l.resolver)) (take l.n-index l.trail)));
}
