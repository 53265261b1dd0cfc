-- The item of a key that is due, and the fault at which a walk ends.
use Rattle.std.specs.Prelude.{◌≡◌, List, map, reverse, Some, Result, Ok, Err, IfOk, IfSome}
use Rattle.dh_syntax.specs.declared.faults.ParseFault.{ParseFault}
use Rattle.dh_syntax.specs.declared.locations.Key.{Key}
use Rattle.dh_syntax.specs.declared.locations.Loc.{Loc}
use Rattle.dh_imports.specs.declared.outcomes.Blame.{Blame}
use Rattle.dh_imports.specs.declared.outcomes.Why.TheVariants.{Cycle}
use Rattle.dh_demand.specs.declared.scans.Scan.{Scan}
use Rattle.dh_syntax.specs.Expressions.Bridge.{term}
use Rattle.dh_syntax.specs.Expressions.SameTree.{loc_eq}
use Rattle.dh_syntax.specs.Expressions.Spellable.{IsSpellable}
use Rattle.dh_syntax.specs.Expressions.Tree.{Term}
use Rattle.dh_imports.specs.Records as found
use Rattle.dh_imports.specs.Records.{lookup}
use Rattle.dh_imports.specs.LastStep as last
use Rattle.dh_imports.specs.Resolver.{Stage, Has}
use Rattle.dh_imports.specs.Walk.{Walked, Ready, Fails, Turns, Needs}
use Rattle.dh_record.specs.declared.items.Item.{Item}
use Rattle.dh_record.specs.declared.rows.recorded.Entrant.{Entrant}
use Rattle.dh_record.specs.declared.rows.recorded.Text.{Text}
use Rattle.dh_record.specs.Items.{by_fault, stage_of_item}
use Rattle.dh_record.specs.Rows.{text_of}
use Rattle.dh_record.specs.Values.{HasValue}

-- the fault is not that of a loop
abbrev pub IsNoLoop : Blame → Type 0
IsNoLoop b = by_fault b.at b.why ≡ Has (last.Fault b)

-- the fault, or the loop, at which a walk ends
abbrev pub IsBlame : {X : Type 0} → Walked X → Blame → Type 0
IsBlame (Fails b) c = (c ≡ b) × IsNoLoop b
IsBlame (Turns j) c = c ≡ record { at = Some j; why = Cycle }
IsBlame (Ready x) c = ⊥
IsBlame (Needs k) c = ⊥

-- the item is that of a key at this stage
pub record IsItem (k : Key) (s : Stage) (i : Item) : Type 0 where
  pub key_is : i.key ≡ k
  pub stage_is : s ≡ stage_of_item i

-- what was found parses to an expression that a text can spell, or does not parse
abbrev pub IsSpelled : found.Noted → Type 0
IsSpelled (found.Found bytes allow parsed) = IfOk parsed IsSpellable
IsSpelled _ = Unit {0}

-- so does each recorded text
abbrev pub AreSpelled : List Text → Type 0
AreSpelled texts = (l : Loc) (t : found.Noted) → lookup loc_eq (reverse (map text_of texts)) l ≡ Some t → IsSpelled t

-- the term of a text that was read, or the fault of its parse
abbrev pub term_read : Result Scan ParseFault → Result Term ParseFault
term_read (Ok s) = Ok (term s.expr)
term_read (Err f) = Err f

-- each decided key has the value of its outcome
abbrev pub IsValued : Entrant → Type 0
IsValued e = IfSome e.outcome HasValue
