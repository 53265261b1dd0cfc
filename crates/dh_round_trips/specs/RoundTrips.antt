-- Laws of round trips.
use Rattle.std.specs.Prelude.{◌≡◌, ℕ, ◌<◌, ◌^◌, List, length, Ok}
use Rattle.dh_binary.specs.Stubs.{decoded}
use Rattle.dh_grammar.specs.Parsed.{parsed}
use Rattle.dh_layout.specs.Answers.{answer}
use Rattle.dh_syntax.specs.Bytes.Binary.{enc}
use Rattle.dh_syntax.specs.Expressions.Spellable.{IsSpellable}
use Rattle.dh_syntax.specs.Expressions.Tree.{Term}
use Rattle.dh_syntax.specs.Expressions.Values.{HasText, HasValues, HasNoNoncharacters}
use Rattle.dh_syntax.specs.Text.Printed.{text_of}

-- the printed text of an expression is parsed to it, where it is read at all
abbrev pub ParsedPrinted : Type 0
ParsedPrinted = (e : Term) → IsSpellable e → HasValues e → HasNoNoncharacters e → parsed (text_of e) ≡ answer e

-- the same of what was parsed: it can be spelled, and its numbers and digests are in their ranges
abbrev pub PrintedAgain : Type 0
PrintedAgain = (bytes : List ℕ) (e : Term) → parsed bytes ≡ Ok e → HasText e → HasNoNoncharacters e → parsed (text_of e) ≡ answer e

-- what was parsed and encoded is decoded to what was parsed
abbrev pub ParsedEncoded : Type 0
ParsedEncoded = (bytes form : List ℕ) (e : Term) → parsed bytes ≡ Ok e → HasText e → form ≡ enc e → length form < 2 ^ 64 → decoded form ≡ Ok e
