use Rattle.std.proofs.Common.{◌≡◌, ◌<◌, sym, ℕ, length, arith, subst as along}
use Rattle.std.specs.Prelude.{List}
use Rattle.dh_table.specs.Inside.Searching.{IsSearched}
use Rattle.dh_table.proofs.Searched.{decided_searched, is_decided, is_undecided, popped_searched}
use Rattle.dh_table.proofs.search.searches.try_next.Goals as goal

pub returns-in-Some-outcome-clause-tried : goal.returns-in-Some-outcome-clause-tried
returns-in-Some-outcome-clause-tried c s p x =
    let keys = c.args.keys.now in
    let n = c.in-Some.n in
    let old = c.args.explored.now in
    let inside : n < length keys = let a = c.if-n-len.false in let b = c.len.ensures in omega arith in
    decided_searched s keys c.args.flights.now n c.pop.new.self (is_decided keys c.requires.distinct n inside s c.in-Some-outcome.field-0.now p.asks c.in-Some-outcome.ensures)
    (along (λ (ps : List ℕ). IsSearched s keys c.args.flights.now (λ m. m ≡ n) ps) (sym c.in-Some.ensures.1) (popped_searched s keys c.args.flights.now n old.piles c.in-Some.ensures.0 x))

pub returns-in-None-clause-tried : goal.returns-in-None-clause-tried
returns-in-None-clause-tried c s p x =
    let keys = c.args.keys.now in
    let n = c.in-Some.n in
    let old = c.args.explored.now in
    let inside : n < length keys = let a = c.if-n-len.false in let b = c.len.ensures in omega arith in
    c.see.ensures.tried s p (is_undecided keys c.requires.distinct n inside s p.asks c.in-None.ensures)
    (along (λ (ps : List ℕ). IsSearched s keys c.args.flights.now (λ m. m ≡ n) ps) (sym c.in-Some.ensures.1) (popped_searched s keys c.args.flights.now n old.piles c.in-Some.ensures.0 x))
