-- A device that failed, where that decides a run, is on record.
use Rattle.std.specs.Prelude.{◌≡◌, List, Some}
use Rattle.dh_syntax.specs.declared.locations.Key.{Key}
use Rattle.dh_syntax.specs.declared.locations.Loc.{Loc}
use Rattle.dh_imports.specs.declared.outcomes.Blame.{Blame}
use Rattle.dh_imports.specs.declared.outcomes.Why.TheVariants as whys
use Rattle.dh_syntax.specs.Expressions.Tree.{Term}
use Rattle.dh_imports.specs.Machine.{Event, after_all, outcome_of, root_walk, Lawful}
use Rattle.dh_imports.specs.Outcomes.{Bad}
use Rattle.dh_imports.specs.Records as found
use Rattle.dh_imports.specs.Records.{text_at}
use Rattle.dh_imports.specs.Walk.{Fails}

-- Where a failed device is the fault of a key, a failure is recorded at some location.
abbrev pub FailuresAreRecorded : Type 0
FailuresAreRecorded =
    (root : Term) (es : List Event) (k : Key) (b : Blame) → Lawful root es
    → outcome_of (after_all root es) k ≡ Some (Bad b) → b.why ≡ whys.Failed → (l : Loc) × (text_at (after_all root es).recorded l ≡ Some found.Failed)

-- So it is with the fault that decides the root.
abbrev pub RootFailuresAreRecorded : Type 0
RootFailuresAreRecorded =
    (root : Term) (es : List Event) (b : Blame) → Lawful root es
    → root_walk (after_all root es) ≡ Fails b → b.why ≡ whys.Failed → (l : Loc) × (text_at (after_all root es).recorded l ≡ Some found.Failed)
