-- What the reading of a text answers: always something, and one thing only.
use Rattle.std.specs.Prelude.{◌≡◌, ℕ, List, Result, Ok}
use Rattle.dh_syntax.specs.declared.faults.ParseFault.{ParseFault}
use Rattle.dh_syntax.specs.Expressions.Spellable.{IsSpellable}
use Rattle.dh_syntax.specs.Text.Spelling.{Spells, ParsesTo}
use Rattle.dh_syntax.specs.Expressions.Tree.{Term}
use Rattle.dh_grammar.specs.Parsed.{parsed}
use Rattle.dh_syntax.specs.Expressions.Values.{IsInRange}

-- a parser that gives `parsed bytes` meets `ParsesTo`
abbrev pub Parses : Type 0
Parses = (bytes : List ℕ) → ParsesTo bytes (parsed bytes)

-- a text parses to one answer only
abbrev pub ParsesOnce : Type 0
ParsesOnce = (bytes : List ℕ) (q r : Result Term ParseFault) → ParsesTo bytes q → ParsesTo bytes r → q ≡ r

-- a text spells one expression at most
abbrev pub SpellingIsUnique : Type 0
SpellingIsUnique = (bytes : List ℕ) (e f : Term) → Spells bytes e → Spells bytes f → e ≡ f

-- what is read can be spelled, so it is well formed and nests at most 500 deep
abbrev pub ParsedIsSpellable : Type 0
ParsedIsSpellable = (bytes : List ℕ) (e : Term) → parsed bytes ≡ Ok e → IsSpellable e

-- naturals and integers in range, digests of 32 bytes
abbrev pub SpellsInRange : Type 0
SpellsInRange = (bytes : List ℕ) (e : Term) → Spells bytes e → IsInRange e
