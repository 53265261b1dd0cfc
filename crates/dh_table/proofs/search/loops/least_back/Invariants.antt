use Rattle.std.specs.Prelude.{◌≡◌, ◌<◌, length, map, reverse, take}
use Rattle.dh_imports.specs.Resolver.{least_back_to}
use Rattle.dh_record.specs.Rows.{key_named}
use Rattle.dh_table.proofs.search.loops.least_back.Given as goal

abbrev pub invariant-loop-n : goal.invariant-loop-n
invariant-loop-n l = record {
  inside : l.least < length l.keys;
  least : key_named l.keys l.least ≡ least_back_to (key_named l.keys l.at) (reverse (map (key_named l.keys) (take l.n-index l.trail)));
}
