-- What was printed is parsed, and what was parsed is printed and parsed again, or encoded and decoded.
use Rattle.std.specs.Prelude.{◌≡◌, ℕ, ◌<◌, ◌^◌, List, length, Ok}
use Rattle.std.proofs.Common.{subst}
use Rattle.dh_binary.specs.Stubs.{decoded}
use Rattle.dh_binary.proofs.ReadsBack.{decodes_bytes}
use Rattle.dh_grammar.specs.Parsed.{parsed}
use Rattle.dh_grammar.proofs.Results.Answering.{parses, parses_once, spells_in_range}
use Rattle.dh_layout.specs.Answers.{answer}
use Rattle.dh_layout.proofs.Printed.{printed_parses}
use Rattle.dh_layout.proofs.Texts.InValues.{values}
use Rattle.dh_syntax.specs.Bytes.Binary.{enc}
use Rattle.dh_syntax.specs.Expressions.Spellable.{IsSpellable}
use Rattle.dh_syntax.specs.Expressions.Tree.{Term}
use Rattle.dh_syntax.specs.Expressions.Values.{HasText, HasValues, HasNoNoncharacters}
use Rattle.dh_syntax.specs.Text.Printed.{text_of}
use Rattle.dh_syntax.specs.Text.Spelling.{Spells, ParsesTo}

pub parsed_printed : (e : Term) → IsSpellable e → HasValues e → HasNoNoncharacters e → parsed (text_of e) ≡ answer e
parsed_printed e s v g = parses_once (text_of e) (parsed (text_of e)) (answer e) (parses (text_of e)) (printed_parses e s (values e v g))

spelled : (bytes : List ℕ) (e : Term) → parsed bytes ≡ Ok e → Spells bytes e
spelled bytes e p = subst (ParsesTo bytes) p (parses bytes)

pub printed_again : (bytes : List ℕ) (e : Term) → parsed bytes ≡ Ok e → HasText e → HasNoNoncharacters e → parsed (text_of e) ≡ answer e
printed_again bytes e p t g = let s = spelled bytes e p in parsed_printed e s.spellable (spells_in_range bytes e s, t) g

pub parsed_encoded : (bytes form : List ℕ) (e : Term) → parsed bytes ≡ Ok e → HasText e → form ≡ enc e → length form < 2 ^ 64 → decoded form ≡ Ok e
parsed_encoded bytes form e p t w l = let s = spelled bytes e p in decodes_bytes e form s.spellable (spells_in_range bytes e s, t) w l
