-- Words of private clauses alone: what the program calls the case of a node, and what is written of its value.
use Rattle.std.specs.Prelude.{◌≡◌, ◌<◌, ◌++◌, ℕ, List, ◌∷◌, length, Result, Ok, Err, IsTrue, ⊤}
use Rattle.dh_syntax.specs.Expressions.Order.{ascending}
use Rattle.dh_syntax.specs.Expressions.Rows.{row_length}
use Rattle.dh_syntax.specs.Expressions.Tree.{Row}
use Rattle.dh_json.specs.declared.faults.JsonFault.{JsonFault}
use Rattle.dh_json.specs.declared.faults.JsonFault.TheVariants as faults
use Rattle.json.specs.Token.{Token}
use Rattle.json.specs.Tree.{json_tokens}
use Rattle.serde_json.specs.Data.{Data, null, boolean, number, unsigned, string, array, no_items}
use Rattle.serde_json.specs.Find.{of_integer}
use Rattle.serde_json.specs.Written.{outline}
use Rattle.dh_json.specs.JsonFaults.{IsNoValue}
use Rattle.dh_json.specs.JsonValue.{Answer, Case, Whole, Elements, Fields, Part, NoCase}
use Rattle.dh_json.specs.declared.forms.Form.{Form}
use Rattle.dh_json.specs.declared.forms.Form.TheVariants as forms

-- how the value of a node comes about, by the form that the program shows
abbrev pub case_shown : Form → Case
case_shown forms.Null = Whole null
case_shown (forms.Truth b) = Whole (boolean b)
case_shown (forms.Unsigned n) = Whole (number (unsigned n))
case_shown (forms.Signed z) = Whole (number (of_integer z))
case_shown (forms.Text s) = Whole (string s.now)
case_shown forms.NoElements = Whole (array no_items)
case_shown forms.Elements = Elements
case_shown (forms.Fields xs) = Fields xs.now
case_shown (forms.Part i) = Part i
case_shown forms.NoValue = NoCase

-- a node of this case has such parts, and its labels ascend
abbrev pub HasParts : {A B : Type 0} → Case → Row A B → Type 0
HasParts (Fields xs) r = (row_length r ≡ length xs) × IsTrue (ascending xs)
HasParts (Part i) r = i < row_length r
HasParts _ r = ⊤

-- the same place, seen from the node above the part with this number
abbrev pub IsAbove : ℕ → JsonFault → JsonFault → Type 0
IsAbove i (faults.NoValue p) (faults.NoValue q) = q ≡ i ∷ p
IsAbove i (faults.NoValue p) faults.Memory = ⊤
IsAbove i faults.Memory (faults.NoValue q) = ⊥
IsAbove i faults.Memory faults.Memory = ⊤

-- the tokens of the value are written behind what stood there, or this is the first place without one; want of memory is free
abbrev pub IsWritten : Answer → List Token → List Token → Result (Unit {0}) JsonFault → Type 0
IsWritten a old new (Ok u) = (d : Data) × (a ≡ Ok d) × (new ≡ old ++ json_tokens (outline d))
IsWritten a old new (Err f) = IsNoValue a f
