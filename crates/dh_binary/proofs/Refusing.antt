-- Where an atom is taken, the state behind it is not stopped: so an atom is too wide exactly where it would be taken but for its range.
use Rattle.std.specs.Prelude.{◌≡◌, true, false, not, List, [], ◌∷◌, Option, Some, None, refl}
use Rattle.dh_syntax.specs.Bytes.BinaryHeads.{Atom, atom}
use Rattle.dh_binary.specs.Machine.{Making, Value, Want, Frame, State, reading, done, stopped, is_some, atom_as, take_atom, after}
use Rattle.dh_binary.specs.Verdict.{is_stopped}
use Rattle.dh_binary.specs.Inside.Fitting.{sort, gives}
use Rattle.dh_binary.proofs.Alive.{Awaits, Valid, atom_gives, deliver_valid}

module _ {T : Type 0} (m : Making T) where
  awaits_wide : (w : Want) (st : List (Frame T)) → Awaits m false w st → Awaits m true w st
  awaits_wide w [] a = tt
  awaits_wide w (f ∷ st) a = (a.0, awaits_wide (sort f.place) st a.1)

  not_stopped : (s : State T) → Valid m true s → is_stopped s ≡ false
  not_stopped (reading w st) v = refl
  not_stopped (done v) h = refl
  not_stopped stopped h = absurd h

  taken : (w : Want) (st : List (Frame T)) (o : Option (Value T)) → Awaits m true w st → ((v : Value T) → o ≡ Some v → gives w v ≡ true) → is_stopped (take_atom m o st) ≡ not (is_some o)
  taken w st (Some v) a h = not_stopped _ (deliver_valid m true st w v (h v refl) a)
  taken w st None a h = refl

  -- in a state that heads lead to
  pub wide_refused : (w : Want) (st : List (Frame T)) (a : Atom) → Awaits m false w st → is_stopped (after m true (atom a) (reading w st)) ≡ not (is_some (atom_as m true w a))
  wide_refused w st a h = taken w st (atom_as m true w a) (awaits_wide w st h) (atom_gives m true w a)
