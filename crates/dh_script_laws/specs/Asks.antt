-- The line of an ask, and how it comes of what is kept.
use Rattle.std.specs.Prelude.{None, ◌≡◌, ◌≤◌, ℕ, List, [], Option, Some, ◌↔◌, length, ◌+◌, ◌++◌, true, ◌∷◌}
use Rattle.dh_syntax.specs.declared.locations.Import.{Import}
use Rattle.dh_syntax.specs.declared.locations.Loc.{Loc}
use Rattle.dh_syntax.specs.Expressions.Tree.{Node, end, Term}
use Rattle.dh_syntax.specs.declared.locations.Key.{Key}
use Rattle.dh_syntax.specs.Imports.Keys.{chained}
use Rattle.dh_syntax.specs.declared.faults.Ill.{Ill}
use Rattle.dh_syntax.specs.declared.faults.NormFault.{NormFault}
use Rattle.dh_command.specs.declared.statuses.Status.{Status}
use Rattle.dh_command.specs.Answer.{IsTyped, IsLimit, digest_line, BlameLine, cycle_at}
use Rattle.dh_syntax.specs.FaultLines.{ill_line, norm_fault_line}
use Rattle.dh_syntax.specs.Expressions.Nesting.{nesting}
use Rattle.dh_syntax.specs.Bytes.Digests.{digest_of}
use Rattle.dh_syntax.specs.Limits.{most_nesting}
use Rattle.dh_syntax.specs.Normalising.Named.{names}
use Rattle.dh_syntax.specs.Normalising.Normal.{HasNormalForm}
use Rattle.dh_syntax.specs.Typing.NamedTyping.{IsIll}
use Rattle.dh_imports.specs.declared.outcomes.Blame.{Blame}
use Rattle.dh_command.specs.Statuses.{why_status}
use Rattle.dh_imports.specs.Records.{Record, limit_at, IsLimitOf, Noted, text_at}
use Rattle.dh_imports.specs.Resolver.{ResolvesRoot, Has, stage, resolve, Waits, is_in, Resolves}
use Rattle.dh_imports.specs.Walk.{Ready, Fails, Turns}
use Rattle.dh_imports.specs.declared.outcomes.Why.{Why}
use Rattle.dh_imports.specs.LastStep.{Code}
use Rattle.dh_imports.specs.Machine.{IsAmong}
use Rattle.dh_imports.specs.Outcomes.{Outcome, Good, Bad, Loop}
use Rattle.dh_watch_laws.specs.Counting.{IsAskedText, AreOnce}
use Rattle.dh_watch_laws.specs.Contents.{Now, IsOver}
use Rattle.dh_watch_laws.specs.Kept.{Kept, known}
use Rattle.dh_watch_laws.specs.Running.{Runs, stage_at}
use Rattle.dh_watch_laws.specs.Editing.{Agrees, AgreesMore}
use Rattle.dh_imports.specs.declared.outcomes.Origin.{Origin}
use Rattle.dh_syntax.specs.declared.locations.Mode.TheVariants as modes
use Rattle.dh_syntax.specs.declared.expressions.Op.TheVariants as ops
use Rattle.dh_syntax.specs.declared.faults.NormFault.TheVariants as norm
use Rattle.dh_command.specs.declared.statuses.Status.TheVariants as status
use Rattle.dh_command.specs.declared.verbs.Verb.TheVariants as verb

-- the import of a location
abbrev pub import_of : Loc → Import
import_of l = record { loc = l; mode = modes.Code; digest = None }

-- the expression that imports a location as code, without a digest
abbrev pub root_of : Loc → Term
root_of l = Node (ops.Import (import_of l)) end

-- the key of the import of a location as code, made canonical
abbrev pub root_key : Loc → Key
root_key l = chained None (import_of l)

-- the line of a value; it is of no text, so a place without a type is told by its path alone
pub data ValueLine (e : Term) : List ℕ → Status → Type 0 where
  digest : (t f : Term) → IsTyped e t → HasNormalForm names e f → nesting f ≤ most_nesting → ValueLine e (digest_line (digest_of f)) status.Ok
  ill : (f : Ill) → IsIll [] e f.path f.rule → ValueLine e (ill_line f) status.Ill
  limited : (l : NormFault) → ¬ (l ≡ norm.Memory) → IsLimit verb.Hash e l → ValueLine e (norm_fault_line l) status.Limit

-- the line of a root over a record, and its status
pub data RootLine (r : Record) (root : Term) : List ℕ → Status → Type 0 where
  valued : {line : List ℕ} {s : Status} (e : Term) → ResolvesRoot r root (Ready e) → ValueLine e line s → RootLine r root line s
  faulty : {line : List ℕ} (b : Blame) → ResolvesRoot r root (Fails b) → BlameLine r b line → RootLine r root line (why_status b.why)
  circular : {line : List ℕ} (j : Key) → ResolvesRoot r root (Turns j) → BlameLine r (cycle_at j) line → RootLine r root line status.Import

-- each limit is licensed for the item of its own key
abbrev pub AreLicensed : Record → ℕ → Type 0
AreLicensed r n = (k : Key) (w : Why) → limit_at r k ≡ Some w → (e : Term) × (allow : Option (List ℕ)) × (stage r (resolve r n []) k ≡ Has (Code e allow)) × IsLimitOf e w

-- An ask of a location after these were asked, over the contents: over some record of them the resolver decides the root, its line is
-- this, and so many locations are those whose text it asks and that were not asked.
pub record IsAsked (now : Now) (asked : List Loc) (l : Loc) (line : List ℕ) (s : Status) (n : ℕ) (new : List Loc) : Type 0 where
  pub recorded : Record
  pub over : IsOver now recorded
  pub units : ℕ
  pub decided : (o : Outcome) × (resolve recorded units [] (root_key l) ≡ Some o)
  pub licensed : AreLicensed recorded units
  pub answers : RootLine recorded (root_of l) line s
  pub once : AreOnce new
  pub members : (x : Loc) → IsAmong x new ↔ ((¬ IsAmong x asked) × IsAskedText recorded (resolve recorded units []) (root_key l) x)
  pub count : n ≡ length new

-- Where a run of the root ends with no key left, the ask is answered by what is kept, and what is kept then agrees with the contents.
abbrev pub AsksAreAnswered : Type 0
AsksAreAnswered =
    (now : Now) (asked : List Loc) (old s : Kept) (l : Loc) (line : List ℕ) (st : Status) (n : ℕ)
    → Agrees now asked old → Runs old (root_key l) s [] → IsOver now s.recorded → n + length old.recorded.texts ≡ length s.recorded.texts
    → RootLine s.recorded (root_of l) line st
    → (new : List Loc) × IsAsked now asked l line st n new × Agrees now (new ++ asked) s

-- So it is where the run meets a loop.
abbrev pub LoopsAreAnswered : Type 0
LoopsAreAnswered =
    (now : Now) (asked : List Loc) (old s : Kept) (l : Loc) (k y : Key) (xs : List Key) (line : List ℕ) (st : Status) (n : ℕ)
    → Agrees now asked old → Runs old (root_key l) s (k ∷ xs) → stage_at s k ≡ Waits y → is_in y (k ∷ xs) ≡ true
    → IsOver now s.recorded → n + length old.recorded.texts ≡ length s.recorded.texts
    → RootLine s.recorded (root_of l) line st
    → (new : List Loc) × IsAsked now asked l line st n new × Agrees now (new ++ asked) s

-- So it is, with nothing fetched, where the root has an outcome already.
abbrev pub KeptAreAnswered : Type 0
KeptAreAnswered =
    (now : Now) (asked : List Loc) (s : Kept) (l : Loc) (o : Outcome) (line : List ℕ) (st : Status)
    → Agrees now asked s → known s.outcomes (root_key l) ≡ Some o → RootLine s.recorded (root_of l) line st
    → IsAsked now asked l line st 0 []

-- What comes of the key of a root is what comes of the root.
abbrev pub RootsAreKeys : Type 0
RootsAreKeys =
    (r : Record) (l : Loc)
    → ((v : Term) (o : Origin) → Resolves r (root_key l) (Good v o) → ResolvesRoot r (root_of l) (Ready v))
    × ((b : Blame) → Resolves r (root_key l) (Bad b) → ResolvesRoot r (root_of l) (Fails b))
    × ((j : Key) → Resolves r (root_key l) (Loop j) → ResolvesRoot r (root_of l) (Turns j))
