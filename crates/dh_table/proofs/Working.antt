-- What the history of a table says of tasks in flight, of recorded texts and of the root.
use Rattle.std.specs.Prelude.{ℕ, List, Result, Ok, Err, IfOk}
use Rattle.std.proofs.Common.{ap, sym, ◌∙◌, subst}
use Rattle.dh_syntax.specs.declared.faults.ParseFault.{ParseFault}
use Rattle.dh_syntax.specs.declared.locations.Key.{Key}
use Rattle.dh_syntax.specs.Expressions.Bridge.{term}
use Rattle.dh_syntax.specs.Expressions.Spellable.{IsSpellable}
use Rattle.dh_syntax.specs.Expressions.Tree.{Term}
use Rattle.dh_imports.specs.Machine as machine
use Rattle.dh_imports.specs.Machine.{State, InFlight, IsDue, stage_of}
use Rattle.dh_imports.specs.Records as found
use Rattle.dh_imports.specs.Records.{IsParsed}
use Rattle.dh_syntax.specs.Text.Spelling.{ParsesTo}
use Rattle.dh_import_laws.proofs.Due.{in_flight_due}
use Rattle.dh_import_laws.proofs.Facts.{texts_are_parsed}
use Rattle.dh_record.specs.Due.{AreSpelled, IsSpelled}
use Rattle.dh_table.specs.Shown.{Shown}
use Rattle.dh_table.specs.States.{IsReplayed, state_of}

-- a finish in flight is due
pub flies_due : (t : Shown) (n : ℕ) (k : Key) → IsReplayed t → InFlight (state_of t) n (machine.Finish k) → IsDue (stage_of (state_of t) k)
flies_due t n k r h =
    subst (λ (s : State). IsDue (stage_of s k)) r.state_is
    (in_flight_due (term t.root.expr) r.events n k r.lawful (subst (λ (s : State). InFlight s n (machine.Finish k)) (sym r.state_is) h))

parsed_spelled : (bytes : List ℕ) (x : Result Term ParseFault) → ParsesTo bytes x → IfOk x IsSpellable
parsed_spelled bytes (Ok e) h = h.spellable
parsed_spelled bytes (Err f) h = tt

noted_spelled : (x : found.Noted) → IsParsed x → IsSpelled x
noted_spelled (found.Found bytes allow parsed) h = parsed_spelled bytes parsed h
noted_spelled found.Absent h = tt
noted_spelled (found.Broken n) h = tt
noted_spelled found.Failed h = tt

-- what recorded texts parse to can be spelled
pub texts_spelled : (t : Shown) → IsReplayed t → AreSpelled t.texts
texts_spelled t r l x h =
    noted_spelled x
    (texts_are_parsed (term t.root.expr) r.events l x r.lawful (ap (λ (s : State). found.text_at s.recorded l) r.state_is ∙ h))
