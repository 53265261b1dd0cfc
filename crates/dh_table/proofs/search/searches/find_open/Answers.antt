use Rattle.std.proofs.Common.{arith}
use Rattle.dh_table.proofs.Searched.{held_again, none_open}
use Rattle.dh_table.proofs.search.searches.find_open.Goals as goal

pub keys-init : goal.keys-init
keys-init c =
    let e = c.begin.new.explored in
    let r = c.begin.ensures.room in
    record {
      room = record { marks = r.marks; piles = let a = c.pour.ensures.len in let b = r.piles in omega arith };
      searched = λ s r p k. held_again s c.args.keys.now c.args.flights.now e.piles c.pour.new.piles c.pour.ensures.poured (c.begin.ensures.explored c.args.texts.now c.args.looks.now c.args.flights.now s r p k);
    }

pub returns-in-Nothing-clause-found : goal.returns-in-Nothing-clause-found
returns-in-Nothing-clause-found c s r p k =
    let e = c.in-Nothing.ensures.tried s p (c.keys.invariant.searched s r p k) in
    none_open c.args.keys.now c.args.texts.now c.args.looks.now c.args.flights.now s p c.try_next.new.explored.piles e.0 e.1
