-- What is in flight is not recorded.
use Rattle.std.specs.Prelude.{◌≡◌, ℕ, ◌∷◌, map, None, []}
use Rattle.std.proofs.Common.{sym, subst}
use Rattle.dh_syntax.specs.declared.locations.Digest.{Digest}
use Rattle.dh_syntax.specs.declared.locations.Loc.{Loc}
use Rattle.dh_syntax.specs.Expressions.Bridge.{term}
use Rattle.dh_syntax.specs.Expressions.SameTree.{digest_eq, loc_eq}
use Rattle.dh_syntax.specs.Imports.Keys.{loc_rank}
use Rattle.dh_imports.specs.Machine as machine
use Rattle.dh_imports.specs.Machine.{InFlight}
use Rattle.dh_imports.specs.Records.{lookup}
use Rattle.dh_import_laws.proofs.Facts.{in_flight_unrecorded}
use Rattle.dh_record.specs.declared.rows.recorded.Look.{Look}
use Rattle.dh_record.specs.Sorting.{rank_of_look, rank_of_text, IsRanked}
use Rattle.dh_table.specs.Shown.{Shown}
use Rattle.dh_table.specs.States.{IsReplayed, state_of}
use Rattle.dh_record.proofs.Recorded.{look_new, text_new}

-- ---- what is in flight is not recorded

pub text_unrecorded : (v : Shown) (serial : ℕ) (l : Loc) → IsReplayed v → InFlight (state_of v) serial (machine.Fetch l) → IsRanked (map rank_of_text v.texts) (loc_rank l) None
text_unrecorded v serial l r f =
    text_new l v.texts
    (subst (λ (s : machine.State). lookup loc_eq s.recorded.texts l ≡ None) r.state_is
    (in_flight_unrecorded (term v.root.expr) r.events serial (machine.Fetch l) r.lawful (subst (λ (s : machine.State). InFlight s serial (machine.Fetch l)) (sym r.state_is) f)))

pub look_unrecorded : (v : Shown) (serial : ℕ) (d : Digest) → IsReplayed v → InFlight (state_of v) serial (machine.Look d) → IsRanked (map rank_of_look v.looks) (d.0 ∷ []) None
look_unrecorded v serial d r f =
    look_new d v.looks
    (subst (λ (s : machine.State). lookup digest_eq s.recorded.looks d ≡ None) r.state_is
    (in_flight_unrecorded (term v.root.expr) r.events serial (machine.Look d) r.lawful (subst (λ (s : machine.State). InFlight s serial (machine.Look d)) (sym r.state_is) f)))
