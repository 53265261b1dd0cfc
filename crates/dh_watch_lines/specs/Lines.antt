-- What is told of a root, and of what is at fault.
use Rattle.std.specs.Prelude.{◌≡◌, ℕ, List, Option}
use Rattle.dh_command.specs.Answer.{BlameLine}
use Rattle.dh_command.specs.declared.statuses.Status.{Status}
use Rattle.dh_command.specs.declared.statuses.Status.TheVariants as status
use Rattle.dh_command.specs.PlacedFaults.{ill_line_at}
use Rattle.dh_command.specs.Statuses.{why_status}
use Rattle.dh_imports.specs.declared.outcomes.Blame.{Blame}
use Rattle.dh_imports.specs.ImportFaults.{in_item}
use Rattle.dh_imports.specs.Records.{Record}
use Rattle.dh_syntax.specs.declared.faults.Ill.{Ill}
use Rattle.dh_syntax.specs.declared.locations.Key.{Key}
use Rattle.dh_syntax.specs.Expressions.Tree.{Term}
use Rattle.dh_syntax.specs.Text.Spans.{Spans, SpellsAt}
use Rattle.dh_watch_lines.specs.declared.lines.Told.{Told}

-- this line, with this status
abbrev pub IsTold : Told → List ℕ → Status → Type 0
IsTold t line s = (t.text ≡ line) × (t.status ≡ s)

-- it tells a place without a type by a path in a text of an item
pub record TellsPlace (at : Option Key) (text : List ℕ) (e : Term) (path : List ℕ) (ill : Ill) (t : Told) : Type 0 where
  pub nodes : Spans
  pub stand : SpellsAt text e nodes
  pub told : IsTold t (in_item at (ill_line_at text nodes path ill)) status.Ill

-- it tells the fault that decides a key
abbrev pub TellsBlame : Record → Blame → Told → Type 0
TellsBlame r b t = BlameLine r b t.text × (t.status ≡ why_status b.why)
