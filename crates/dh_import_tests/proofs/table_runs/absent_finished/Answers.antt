use Rattle.std.proofs.Common.{◌≡◌, sym, refl, [], ◌∷◌, Some, None, subst as along}
use Rattle.std.specs.Prelude.{ℕ, List, false}
use Rattle.dh_syntax.specs.declared.locations.Key.{Key}
use Rattle.dh_syntax.specs.declared.locations.Loc.TheVariants as locs
use Rattle.dh_syntax.specs.declared.locations.Mode.TheVariants as modes
use Rattle.dh_imports.specs.declared.outcomes.Blame.{Blame}
use Rattle.dh_imports.specs.declared.outcomes.Outcome.TheVariants as outcomes
use Rattle.dh_imports.specs.declared.outcomes.Why.TheVariants as whys
use Rattle.dh_imports.specs.LastStep as last
use Rattle.dh_imports.specs.LastStep.{last_step}
use Rattle.dh_imports.specs.Outcomes.{Bad}
use Rattle.dh_record.specs.declared.items.Body.TheVariants as body
use Rattle.dh_record.specs.Items.{IsLast}
use Rattle.dh_import_tests.proofs.table_runs.absent_finished.Goals as goal

abbrev fault : List ℕ → Blame
fault file = record { at = Some (record { loc = locs.Here (file ∷ []); mode = modes.Code; digest = None }); why = whys.Absent }

-- a fault is its own outcome
fault_comes : (k : Key) (file : List ℕ) → last_step 0 k (last.Fault (fault file)) ≡ Some (Bad (fault file))
unfolding last_step
fault_comes k file = refl

fault_last : (k : Key) (file : List ℕ) (b d : Blame) → b ≡ fault file → d ≡ fault file → IsLast (record { key = k; allow = None; body = body.Fault b }) (outcomes.Bad d) false
fault_last k file b d p q =
    along (λ (x : Blame). IsLast (record { key = k; allow = None; body = body.Fault x }) (outcomes.Bad d) false) (sym p)
    (along (λ (x : Blame). IsLast (record { key = k; allow = None; body = body.Fault (fault file) }) (outcomes.Bad x) false) (sym q) (0, fault_comes k file))

pub of-requires-clause-last : goal.of-requires-clause-last
of-requires-clause-last c = fault_last _ c.args.file.now _ _ c.in_ok-fault.ensures c.in_ok-absent.ensures
