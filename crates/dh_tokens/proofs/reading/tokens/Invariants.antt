use Rattle.std.proofs.Common.{◌-◌, length}
use Rattle.dh_tokens.specs.Inside.States.{IsReady, state_of}
use Rattle.dh_tokens.proofs.ReadingLaws.{ReadTo}
use Rattle.dh_tokens.proofs.reading.tokens.Given as goal

abbrev pub invariant-forms : goal.invariant-forms
invariant-forms l = record {
  ready : IsReady l.state l.at l.text;
  read : ReadTo l.text l.made (state_of l.state) l.at;
}

abbrev pub decreases-forms : goal.decreases-forms
decreases-forms l = length l.text - l.at
