-- What the machine with stubs answers, and what is read of what is written.
use Rattle.std.specs.Prelude.{◌≡◌, ℕ, ◌^◌, ◌<◌, List, length, Result, Ok}
use Rattle.dh_syntax.specs.declared.faults.DecodeFault.{DecodeFault}
use Rattle.dh_syntax.specs.Bytes.Binary.{enc}
use Rattle.dh_syntax.specs.Bytes.BinaryFaults.{DecodesTo}
use Rattle.dh_syntax.specs.Bytes.BinaryRead.{Reads}
use Rattle.dh_syntax.specs.Expressions.Spellable.{IsSpellable}
use Rattle.dh_syntax.specs.Expressions.Values.{HasValues}
use Rattle.dh_syntax.specs.Expressions.Tree.{Term}
use Rattle.dh_binary.specs.Stubs.{decoded}
use Rattle.dh_binary.specs.Written.{IsSized}

-- a decoder that gives `decoded bytes` meets `DecodesTo`
abbrev pub Decodes : Type 0
Decodes = (bytes : List ℕ) → DecodesTo bytes (decoded bytes)

-- bytes decode to one answer only
abbrev pub DecodesOnce : Type 0
DecodesOnce = (bytes : List ℕ) (r : Result Term DecodeFault) → DecodesTo bytes r → r ≡ decoded bytes

-- where each string and each count fits its head
abbrev pub ReadsSized : Type 0
ReadsSized = (e : Term) → IsSpellable e → HasValues e → IsSized e → Reads (enc e) e

-- the same of bytes that are there, whose length has 64 bits
abbrev pub DecodesWhatIsWritten : Type 0
DecodesWhatIsWritten = (e : Term) (bytes : List ℕ) → IsSpellable e → HasValues e → bytes ≡ enc e → length bytes < 2 ^ 64 → decoded bytes ≡ Ok e
