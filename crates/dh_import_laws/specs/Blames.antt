-- Where a fault of typing that decides a run stands.
use Rattle.std.specs.Prelude.{◌≡◌, ℕ, List, [], Some}
use Rattle.dh_syntax.specs.declared.faults.Ill.{Ill}
use Rattle.dh_syntax.specs.declared.locations.Key.{Key}
use Rattle.dh_imports.specs.declared.outcomes.Blame.{Blame}
use Rattle.dh_imports.specs.ImportFaults.{ill_of}
use Rattle.dh_syntax.specs.Expressions.Tree.{Term}
use Rattle.dh_imports.specs.Machine.{Event, after_all, outcome_of, root_walk, Lawful}
use Rattle.dh_imports.specs.Outcomes.{Bad}
use Rattle.dh_imports.specs.Readings.{IsReading}
use Rattle.dh_imports.specs.Records.{Record}
use Rattle.dh_imports.specs.Walk.{Ask, Fails}
use Rattle.dh_syntax.specs.Typing.NamedTyping.{IsIll}

-- The fault is that of a key whose text was found and spells an expression; by the outcomes that are known, which are the resolver's,
-- that has a value, which is refused at this place.
pub record StandsIn (r : Record) (ask : Ask) (b : Blame) (f : Ill) : Type 0 where
  pub text : List ℕ
  pub spelled : Term
  pub value : Term
  pub reading : IsReading r (record { at = b.at; text = text; spelled = spelled; ask = ask }) value
  pub refused : IsIll [] value f.path f.rule

-- Where the fault of a key tells a place without a type, it stands so.
abbrev pub FaultsStand : Type 0
FaultsStand =
    (root : Term) (es : List Event) (k : Key) (b : Blame) (f : Ill) → Lawful root es
    → outcome_of (after_all root es) k ≡ Some (Bad b) → ill_of b.why ≡ Some f → StandsIn (after_all root es).recorded (outcome_of (after_all root es)) b f

-- So it is with the fault that decides the root.
abbrev pub RootFaultsStand : Type 0
RootFaultsStand =
    (root : Term) (es : List Event) (b : Blame) (f : Ill) → Lawful root es
    → root_walk (after_all root es) ≡ Fails b → ill_of b.why ≡ Some f → StandsIn (after_all root es).recorded (outcome_of (after_all root es)) b f
