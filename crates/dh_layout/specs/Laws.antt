-- Laws of printed texts.
use Rattle.std.specs.Prelude.{◌≤◌, IsTrue, IsUtf8}
use Rattle.dh_syntax.specs.Expressions.Nesting.{nesting}
use Rattle.dh_syntax.specs.Expressions.Spellable.{IsSpellable, names_spellable}
use Rattle.dh_syntax.specs.Expressions.Tree.{Term}
use Rattle.dh_syntax.specs.Expressions.Values.{HasValues, HasNoNoncharacters}
use Rattle.dh_syntax.specs.Text.Printed.{text_of}
use Rattle.dh_syntax.specs.Text.Spelling.{ParsesTo}
use Rattle.dh_layout.specs.Answers.{answer}
use Rattle.dh_layout.specs.Opened.{opened}

-- an expression that a text can spell is read from its printed text, or that text is too large or opens too many expressions
abbrev pub PrintedParses : Type 0
PrintedParses = (e : Term) → IsSpellable e → HasValues e → HasNoNoncharacters e → ParsesTo (text_of e) (answer e)

-- a printed text opens no more expressions than the expression nests
abbrev pub OpenedNesting : Type 0
OpenedNesting = (e : Term) → IsSpellable e → HasValues e → HasNoNoncharacters e → opened e ≤ nesting e

-- a printed text is UTF-8
abbrev pub PrintedIsText : Type 0
PrintedIsText = (e : Term) → IsTrue (names_spellable e) → HasValues e → HasNoNoncharacters e → IsUtf8 (text_of e)
