use Rattle.std.proofs.Common.{map, Some, None, refl, ◌∙◌, ap}
use Rattle.dh_ports.specs.MemDesk.{listed, entry_under, pairs_of}
use Rattle.dh_ports.specs.MemDeskViews.{kept_of}
use Rattle.dh_top.specs.Outside.{outside as outside_of, first_of}
use Rattle.dh_command_tests.proofs.worlds.run_over.Goals as goal

pub returns : goal.returns
returns g c = record {
  outside =
      outside_of (λ l. Some (listed g.L.Listed.contents l)) (λ d. Some (entry_under g.L.Listed.cache d)) (λ d. d.asked) (λ d. d.failed) (λ d. Some (pairs_of (kept_of d)))
      c.in_ok-desks.desks.items c.run_dhall.new.desks.items;
  told = refl;
  shelved = refl;
  empty = ap (λ desks. first_of None (map (λ d. Some (pairs_of (kept_of d))) desks)) c.in_ok-desks.ensures.items ∙ ap (λ kept. Some (pairs_of kept)) c.over_lists-desk.ensures.kept;
  runs = c.run_dhall.ensures.runs;
}
