-- `End` is read to an end, or stops the machine.
use Rattle.std.proofs.Common.{true, false, [], ◌∷◌}
use Rattle.dh_syntax.specs.declared.tokens.TokenKind.TheVariants as kinds
use Rattle.dh_grammar.specs.Ends.{IsEnded}
use Rattle.dh_grammar.specs.Machine as machine
use Rattle.dh_grammar.specs.Machine.{Sorts, Making, State, Stack, Wait, «open», shut, need, have, wait, done, stopped, ready, join, finish, close, close_on, waited, after}

module _ {K : Sorts} (m : Making K) where
  close_on_ended : (st : Stack K) (x : K.tree) → IsEnded (close_on m kinds.End st x)
  close_on_ended [] x = tt
  close_on_ended («open» f ∷ st) x = tt
  close_on_ended (shut f ∷ st) x = tt

  close_ended : (s : State K) → IsEnded (close m kinds.End s)
  close_ended (have st (ready x)) = close_on_ended st x
  close_ended _ = tt

  wait_ended : (w : Wait K) (st : Stack K) → IsEnded (waited m w kinds.End st)
  wait_ended (machine.projecting x true) st = tt
  wait_ended (machine.projecting x false) st = tt
  wait_ended (machine.union_start true) st = tt
  wait_ended (machine.union_start false) st = tt
  wait_ended (machine.record_start true) st = tt
  wait_ended (machine.record_start false) st = tt
  wait_ended (machine.record_equals c true) st = tt
  wait_ended (machine.record_equals c false) st = tt
  wait_ended _ st = tt

  pub end_ends : (s : State K) → IsEnded (after m kinds.End s)
  end_ends (need st) = tt
  end_ends (have st h) = close_ended (join m 0 st (finish m h))
  end_ends (wait w st) = wait_ended w st
  end_ends (done d) = tt
  end_ends stopped = tt
